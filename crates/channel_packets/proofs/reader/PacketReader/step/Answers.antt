use Rattle.std.proofs.Common.{sym, subst}
use Rattle.cc_base.specs.Steps.{IsTaken}
use Rattle.channel_packets.specs.Reading.{packet_syntax}
use Rattle.cc_base.specs.Syntax.{open_behind}
use Rattle.channel_packets.proofs.ReadLemmas.{taken}
use Rattle.channel_packets.proofs.reader.PacketReader.step.Goals as goal

pub returns-clause-says : goal.returns-clause-says
returns-clause-says c = λ triplets read. c.step.ensures.says tt triplets read

pub returns-clause-leads : goal.returns-clause-leads
returns-clause-leads c = λ triplets read.
    c.step.ensures.leads tt triplets read
    (subst IsTaken (sym (c.step.ensures.says tt triplets read)) (taken (open_behind packet_syntax triplets) c.args.triplet))
