-- Believed in part: the program's answer stands on some of these definitions.
-- What a receiver gets of line 21 from the frames of a words file: the pairs of each field, and the screens that they leave
-- in a receiver that was reset before the first frame (CTA-708-E, cc_data(); CTA-608-E; 47 CFR 79.101).
use Rattle.std.specs.Prelude.{ℕ, suc, ◌==◌, ◌&&◌, if◌then◌else◌, List, [], ◌∷◌, reverse, take}
use Rattle.std.specs.List.{flat_map}
use Rattle.line21_codes.specs.declared.pairs.Pair.{Pair}
use Rattle.line21_codes.specs.Channels.{field_of_channel, data_channel_of}
use Rattle.line21_codes.specs.declared.channels.Chan.{Chan}
use Rattle.line21_codes.specs.declared.channels.FieldNumber.{FieldNumber}
use Rattle.line21_codes.specs.declared.channels.FieldNumber.TheVariants.{One, Two}
use Rattle.line21_screen.specs.Fields.{FieldState, channel}
use Rattle.line21_screen.specs.Grid.{Grid}
use Rattle.line21_screen.specs.Meaning.{after}
use Rattle.cc_data.specs.declared.triplet.Triplet.{Triplet}
use Rattle.cdp_packets.specs.Packets.{Frame}
use Rattle.cdp_packets.specs.PacketTriplets.{packet_triplets}

-- the kind of a field's triplets: 0 for field 1, and 1 for field 2
abbrev pub field_kind : FieldNumber → ℕ
field_kind One = 0
field_kind Two = 1

-- the pair of a field that a triplet has, if it counts and is of that kind
abbrev pub field_pair : FieldNumber → Triplet → List Pair
field_pair in_field t =
    if t.valid && (t.kind == field_kind in_field) then record { a = t.a; b = t.b } ∷ [] else []

-- the pairs of a field in triplets, in order
abbrev pub field_pairs : FieldNumber → List Triplet → List Pair
field_pairs in_field triplets = flat_map (field_pair in_field) triplets

-- the pairs of a field in frames, in order
abbrev pub received_pairs : FieldNumber → List Frame → List Pair
received_pairs in_field frames = flat_map (λ frame. field_pairs in_field (packet_triplets frame)) frames

-- the state of a field after frames: what their pairs leave in a receiver that was reset
abbrev pub received : FieldNumber → List Frame → FieldState
received in_field frames = after in_field (reverse (received_pairs in_field frames))

-- the state of a field at a frame: after the frames up to this one
abbrev pub received_at : FieldNumber → List Frame → ℕ → FieldState
received_at in_field frames frame = received in_field (take (suc frame) frames)

-- the received grids: the displayed cells of each channel after frames
abbrev pub received_grids : List Frame → Chan → Grid
received_grids frames chan = (channel (data_channel_of chan) (received (field_of_channel chan) frames)).displayed
