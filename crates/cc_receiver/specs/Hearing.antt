-- Believed: the library's answers stand on these definitions.
-- The pairs of line 21 in the parts of frames (CTA-708-E, cc_data(); CTA-608-E).
use Rattle.std.specs.Prelude.{List, [], ◌∷◌, ◌++◌, reverse}
use Rattle.cdp_packets.specs.declared.parts.CdpPart.{CdpPart}
use Rattle.line21_codes.specs.declared.channels.FieldNumber.{FieldNumber}
use Rattle.line21_codes.specs.declared.channels.FieldNumber.TheVariants.{One, Two}
use Rattle.line21_codes.specs.declared.pairs.Pair.{Pair}
use Rattle.cc_receiver.specs.Gathering.{gathered}

-- the pairs of a field in a frame's parts, in order
abbrev pub parts_pairs : FieldNumber → List CdpPart → List Pair
parts_pairs One parts = (gathered parts).pairs_one
parts_pairs Two parts = (gathered parts).pairs_two

-- the pairs of a field in frames; all stand newest first
abbrev pub heard : FieldNumber → List (List CdpPart) → List Pair
heard in_field [] = []
heard in_field (parts ∷ frames) = reverse (parts_pairs in_field parts) ++ heard in_field frames
