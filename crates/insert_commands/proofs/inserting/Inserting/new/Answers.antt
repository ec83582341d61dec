use Rattle.words_reading.proofs.PacketWayLemmas.{none_read}
use Rattle.insert_commands.proofs.StepLemmas.{nothing_judged}
use Rattle.insert_commands.proofs.inserting.Inserting.new.Goals as goal

pub returns-clause-read : goal.returns-clause-read
returns-clause-read c = none_read c.in_ok-new.field-0 c.in_ok-new.ensures.read c.in_ok-new.ensures.none

pub returns-clause-judged : goal.returns-clause-judged
returns-clause-judged c list has =
    nothing_judged list (record { packets = c.in_ok-new.field-0; captions = c.new-2.result }) c.in_ok-new.ensures.read c.in_ok-new.ensures.none (c.new-2.ensures list has)
