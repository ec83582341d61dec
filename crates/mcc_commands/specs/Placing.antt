-- Believed: the program's answer stands on these definitions.
-- At which frame of the day each packet of a words file stands in the MCC file that is written of them. A packet of captions stands as
-- many frames after the place of frame 0 as packets of captions stand before it. Another packet stands at the frame of the packet of
-- captions before it, or at the place of frame 0 where there is none.
use Rattle.std.specs.Prelude.{ℕ, ◌+◌, ◌-◌, if◌then◌else◌, List, [], ◌∷◌}
use Rattle.anc_words.specs.Packets.{AncillaryPacket}
use Rattle.mcc_files.specs.MccFiles.{TimedPackets}
use Rattle.mcc_files.specs.PayloadWords.{payload_of}
use Rattle.mcc_words.specs.MccWords.{carries_captions}

-- packets after this many packets of captions, each at its frame
abbrev pub packets_placed_from : ℕ → ℕ → List AncillaryPacket → TimedPackets
packets_placed_from first captions [] = []
packets_placed_from first captions (packet ∷ packets) =
    if carries_captions (payload_of packet)
    then (first + captions, payload_of packet) ∷ packets_placed_from first (captions + 1) packets
    else (first + (captions - 1), payload_of packet) ∷ packets_placed_from first captions packets

-- the packets of a words file
abbrev pub placed : ℕ → List AncillaryPacket → TimedPackets
placed first packets = packets_placed_from first 0 packets
