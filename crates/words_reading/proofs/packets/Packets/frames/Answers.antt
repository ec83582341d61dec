use Rattle.words_reading.proofs.PacketEndLemmas.{frames_here}
use Rattle.words_reading.specs.OpenPackets.{open_bytes}
use Rattle.words_reading.proofs.packets.Packets.frames.Goals as goal

pub returns : goal.returns
returns c frames file had =
    c.frames.ensures.frames _ frames had.received (frames_here frames file (open_bytes c.args.self.now) had.under had.none)
