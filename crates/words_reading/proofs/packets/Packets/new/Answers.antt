use Rattle.words_reading.proofs.FeedLemmas.{nothing_read}
use Rattle.words_reading.proofs.packets.Packets.new.Goals as goal

pub returns-clause-read : goal.returns-clause-read
returns-clause-read c = nothing_read (record { receiver = c.in_ok-new.field-0; held = c.new-2.result }) c.in_ok-new.ensures c.new-2.ensures
