-- Believed: the library's answers stand on these definitions.
-- What C learns of the packets of one frame.
use Rattle.std.specs.Prelude.{◌≡◌, ◌⊎◌, ◌<◌, ℕ, List, length, replicate}
use Rattle.caption_packets.specs.FrameWords.{triplet_bytes_of}
use Rattle.cc_base.specs.Rate.{rate_code}
use Rattle.cc_base.specs.declared.rate.Rate.{Rate}
use Rattle.cdp_packets.specs.Packets.{Frame}
use Rattle.ccsuite_c.specs.Codes.{room_code}
use Rattle.ccsuite_c.specs.Receivers.{TextStands}
use Rattle.ccsuite_c.specs.declared.packets.PacketSeen.{PacketSeen}

-- bytes are handed out, or they are more than there is room for, and the count says how many are wanted
abbrev pub HandsOver : List ℕ → List ℕ → List ℕ → ℕ → ℕ → Type 0
HandsOver bytes before after code count =
    ((code ≡ 0) × TextStands bytes before after count)
    ⊎ ((code ≡ room_code) × (length before < length bytes) × (after ≡ before) × (count ≡ length bytes))

-- what a packet says beside its triplets
abbrev pub packet_seen : Rate → ℕ → ℕ → PacketSeen
packet_seen rate counter flags = record { rate = rate_code rate; counter = counter; flags = flags; reserved = replicate 5 0 }

-- the triplets of a packet are handed out, with what else the packet says
abbrev pub CcDataAnswer : Frame → List ℕ → List ℕ → ℕ → ℕ → PacketSeen → PacketSeen → Type 0
CcDataAnswer packet before after code count old new =
    ((code ≡ 0) × TextStands (triplet_bytes_of packet) before after count × (new ≡ packet_seen packet.rate packet.counter packet.flags))
    ⊎ ((code ≡ room_code) × (length before < length (triplet_bytes_of packet)) × (after ≡ before) × (count ≡ length (triplet_bytes_of packet)) × (new ≡ old))
