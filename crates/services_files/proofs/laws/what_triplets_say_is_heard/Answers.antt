use Rattle.services_files.proofs.SaidLemmas.{blocks_are_in, heard-said, heard_behind-said, packets_are, said-append, said-channel}
use Rattle.services_files.proofs.laws.what_triplets_say_is_heard.Goals as goal

pub returns-clause-heard : goal.returns-clause-heard
returns-clause-heard c = heard-said

pub returns-clause-behind : goal.returns-clause-behind
returns-clause-behind c = heard_behind-said

pub returns-clause-more : goal.returns-clause-more
returns-clause-more c = said-append

pub returns-clause-packets : goal.returns-clause-packets
returns-clause-packets c = packets_are

pub returns-clause-blocks : goal.returns-clause-blocks
returns-clause-blocks c = blocks_are_in

pub returns-clause-channel : goal.returns-clause-channel
returns-clause-channel c = said-channel
