-- Believed: the program's answer stands on these definitions.
-- The packets of extended data in the pairs of field 2 (CTA-608-E, 47 CFR 79.101). A packet of a class and a type ends at an end pair that closes
-- a segment of these, where the last start pair of the class has the type, no earlier end pair after it closed such a segment, and the
-- segments of the class and type since then have at most 32 bytes, which the end pair's second byte sums up.
use Rattle.std.specs.Prelude.{ℕ, ◌+◌, ◌*◌, ◌%◌, ◌==◌, ◌&&◌, nat_le, not, Bool, if◌then◌else◌, List, [], ◌∷◌, ◌++◌, length, map, Option, Some, None}
use Rattle.std.specs.List.{filter, list_any, sum}
use Rattle.line21_codes.specs.declared.codes.Code.{Code}
use Rattle.line21_codes.specs.declared.codes.Code.TheVariants.{Null, Text, Xds, Control}
use Rattle.line21_codes.specs.declared.pairs.Pair.{Pair}
use Rattle.line21_codes.specs.Reading.{code_of}
use Rattle.xds_packets.specs.declared.packets.XdsPacket.{XdsPacket}
use Rattle.xds_packets.specs.Segments.{Segment, is_ended, is_of_type, open_of, segments, segments_text, since_start}

-- the segments of a class and a type, of those from a start pair on; none where that pair has another type
abbrev pub from_start : ℕ → ℕ → List Segment → Option (List Segment)
from_start class kind [] = None
from_start class kind (segment ∷ segments) = if segment.kind == kind then Some (filter (is_of_type class kind) (segment ∷ segments)) else None

-- the segments of a class and a type from the last start pair of the class on
abbrev pub of_packet : ℕ → ℕ → List Segment → Option (List Segment)
of_packet class kind segments = from_start class kind (since_start class segments)

-- the bytes of the start pair, which are 2 class - 1 and the type, the text's, 0F and the checksum sum to 0 modulo 128
abbrev pub checks : ℕ → ℕ → List ℕ → ℕ → Bool
checks class kind text check = (2 * class + kind + sum text + 0x0E + check) % 128 == 0

-- the packet that an end pair ends which closes the last of these segments
abbrev pub judged : ℕ → ℕ → Option (List Segment) → ℕ → Option XdsPacket
judged class kind None check = None
judged class kind (Some segments) check =
    if not (list_any is_ended segments) && (nat_le (length (segments_text segments)) 32 && checks class kind (segments_text segments) check)
    then Some (record { class = class; kind = kind; text = segments_text segments }) else None

abbrev pub closed_by : Option Segment → List Segment → ℕ → Option XdsPacket
closed_by None segments check = None
closed_by (Some segment) segments check = judged segment.class segment.kind (of_packet segment.class segment.kind segments) check

-- the packet that ends at a code, after these codes: only an end pair ends one, of the segment that is open before it
abbrev pub ends_at : List Code → Code → Option XdsPacket
ends_at before Null = None
ends_at before (Text first second) = None
ends_at before (Xds first second) = if first == 0x0F then closed_by (open_of (segments before)) (segments before) second else None
ends_at before (Control second control) = None

abbrev pub listed : Option XdsPacket → List XdsPacket
listed None = []
listed (Some packet) = packet ∷ []

-- the packets that end in the codes, after those before
abbrev pub packets_behind : List Code → List Code → List XdsPacket
packets_behind before [] = []
packets_behind before (code ∷ codes) = listed (ends_at before code) ++ packets_behind (before ++ code ∷ []) codes

-- the packets of a list of pairs, in the order of their ends; a pair with bad parity counts as null
abbrev pub packets_within : List Pair → List XdsPacket
packets_within pairs = packets_behind [] (map code_of pairs)
