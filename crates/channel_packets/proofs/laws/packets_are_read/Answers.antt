use Rattle.std.proofs.Common.{refl}
use Rattle.cc_base.proofs.SyntaxLemmas.{read_under-reads}
use Rattle.channel_packets.specs.Reading.{packet_syntax}
use Rattle.channel_packets.proofs.ReadLemmas.{all_read, parts_of-packets}
use Rattle.channel_packets.proofs.laws.packets_are_read.Goals as goal

pub returns-clause-read : goal.returns-clause-read
returns-clause-read c = all_read

pub returns-clause-parts : goal.returns-clause-parts
returns-clause-parts c = parts_of-packets

pub returns-clause-handed : goal.returns-clause-handed
returns-clause-handed c = λ verdict packets triplets are accepted.
    read_under-reads packet_syntax 1 verdict triplets _ _
    (record { taken = all_read triplets; made = parts_of-packets packets triplets are; leads = refl }) accepted
