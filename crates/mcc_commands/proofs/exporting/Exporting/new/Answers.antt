use Rattle.words_reading.proofs.PacketWayLemmas.{none_read}
use Rattle.mcc_commands.proofs.ExportStepLemmas.{nothing_judged}
use Rattle.mcc_commands.proofs.exporting.Exporting.new.Goals as goal

pub returns-clause-read : goal.returns-clause-read
returns-clause-read c = none_read c.in_ok-new.field-0 c.in_ok-new.ensures.read c.in_ok-new.ensures.none

pub returns-clause-judged : goal.returns-clause-judged
returns-clause-judged c =
    nothing_judged c.args.start (record { packets = c.in_ok-new.field-0; clock = c.new-2.result }) c.in_ok-new.ensures.read c.in_ok-new.ensures.none c.new-2.ensures c.requires
