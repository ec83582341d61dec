use Rattle.std.proofs.Common.{◌≡◌, take, length}
use Rattle.anc_words.specs.Packets.{AncillaryPacket, user_bytes}
use Rattle.anc_words.specs.WordsFiles.{IsPacketBytes}
use Rattle.mcc_commands.proofs.said.read.Given as goal

-- the user bytes so far
abbrev pub invariant-loop-k : goal.invariant-loop-k
invariant-loop-k l =
    (length l.user ≡ 255) × ((packet : AncillaryPacket) → IsPacketBytes packet l.packet → take l.k l.user ≡ take l.k (user_bytes packet))
