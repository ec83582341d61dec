-- Between crates: the program's answer stands on none of these definitions.
-- Worked examples of pairs and the packets in them.
use Rattle.std.specs.Prelude.{◌≡◌, ℕ, [], ◌∷◌}
use Rattle.line21_codes.specs.declared.pairs.Pair.{Pair}
use Rattle.xds_packets.specs.Reading.{packets_within}

abbrev pair : ℕ → ℕ → Pair
pair a b = record { a = a; b = b }

abbrev pub PacketIsRead : Type 0
PacketIsRead = packets_within (pair 0x80 0x80 ∷ pair 0x01 0x83 ∷ pair 0xCE 0x45 ∷ pair 0x57 0xD3 ∷ pair 0x8F 0xB0 ∷ [])
    ≡ record { class = 1; kind = 3; text = 0x4E ∷ 0x45 ∷ 0x57 ∷ 0x53 ∷ [] } ∷ []

abbrev pub PacketIsReadAroundACaption : Type 0
PacketIsReadAroundACaption = packets_within (pair 0x01 0x83 ∷ pair 0xCE 0x45 ∷ pair 0x15 0x20 ∷ pair 0xC8 0x49 ∷ pair 0x15 0x2F ∷ pair 0x02 0x83 ∷ pair 0x57 0xD3 ∷ pair 0x15 0x2C ∷ pair 0x15 0x2C ∷ pair 0x02 0x83 ∷ pair 0x8F 0xB0 ∷ [])
    ≡ record { class = 1; kind = 3; text = 0x4E ∷ 0x45 ∷ 0x57 ∷ 0x53 ∷ [] } ∷ []
