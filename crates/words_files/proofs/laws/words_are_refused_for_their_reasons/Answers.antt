use Rattle.words_files.proofs.OffenceLemmas.{reason_is, reason_of_packet, reason_once, reason_said}
use Rattle.words_files.proofs.laws.words_are_refused_for_their_reasons.Goals as goal

pub returns-clause-reason : goal.returns-clause-reason
returns-clause-reason c = reason_is

pub returns-clause-refused : goal.returns-clause-refused
returns-clause-refused c = reason_said

pub returns-clause-one : goal.returns-clause-one
returns-clause-one c = reason_once

pub returns-clause-packet : goal.returns-clause-packet
returns-clause-packet c = reason_of_packet
