-- Between crates: the program's answer stands on none of these definitions.
-- Frames whose pairs of line 21 do nothing: a field that has nothing to say carries null pairs (CTA-608-E).
use Rattle.std.specs.Prelude.{◌&&◌, Bool, List}
use Rattle.std.specs.List.{list_all}
use Rattle.line21_codes.specs.declared.channels.FieldNumber.TheVariants.{One, Two}
use Rattle.line21_codes.specs.declared.pairs.Pair.{Pair}
use Rattle.line21_codes.specs.NullPairs.{is_null}
use Rattle.cdp_packets.specs.Packets.{Frame}
use Rattle.cdp_packets.specs.PacketTriplets.{packet_triplets}
use Rattle.services_files.specs.Received.{field_pairs}

-- the pairs of both fields are null pairs
abbrev pub are_null : List Pair → List Pair → Bool
are_null first second = list_all is_null first && list_all is_null second

-- so are all pairs of a frame
abbrev pub is_idle : Frame → Bool
is_idle frame = are_null (field_pairs One (packet_triplets frame)) (field_pairs Two (packet_triplets frame))
