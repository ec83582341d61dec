use Rattle.std.proofs.Common.{◌∙◌, append-nil}
use Rattle.cdp_packets.proofs.SectionLemmas.{cc_data_section-is, cc_data_section-triplets}
use Rattle.cdp_packets.proofs.laws.written_triplets_are_read_back.Goals as goal

pub returns-clause-section : goal.returns-clause-section
returns-clause-section c = cc_data_section-is

pub returns-clause-triplets : goal.returns-clause-triplets
returns-clause-triplets c = cc_data_section-triplets

pub returns-clause-packet : goal.returns-clause-packet
returns-clause-packet c rate flags counter triplets kinds =
    append-nil _ ∙ cc_data_section-triplets triplets kinds
