-- Believed: the program's answer stands on these definitions.
-- The segments of extended data in the codes of field 2 (CTA-608-E, 47 CFR 79.101): a start or continue pair, with a first byte 01 to 0E, opens
-- a segment of its class and its type, which runs to the next control pair or the next pair with a first byte 01 to 0F.
use Rattle.std.specs.Prelude.{ℕ, ◌+◌, ◌/◌, ◌%◌, ◌==◌, ◌&&◌, nat_lt, nat_le, not, Bool, true, false, if◌then◌else◌, List, [], ◌∷◌, ◌++◌, Option, Some, None}
use Rattle.std.specs.List.{filter, flat_map, list_any}
use Rattle.line21_codes.specs.declared.codes.Code.{Code}
use Rattle.line21_codes.specs.declared.codes.Code.TheVariants.{Null, Text, Xds, Control}

-- the class and the type that its first pair says, whether that is a start pair, the bytes after it, and the pair that ended it, if one has
pub record Segment : Type 0 where
  pub class : ℕ
  pub kind : ℕ
  pub is_start : Bool
  pub bytes : List ℕ
  pub end : Option Code

-- a control pair, or one with a first byte 01 to 0F: it ends the segment before
abbrev pub is_mark : Code → Bool
is_mark Null = false
is_mark (Text first second) = false
is_mark (Xds first second) = true
is_mark (Control second control) = true

-- the pairs before the next mark
abbrev pub stretch : List Code → List Code
stretch [] = []
stretch (code ∷ codes) = if is_mark code then [] else code ∷ stretch codes

-- the next mark
abbrev pub first_mark : List Code → Option Code
first_mark [] = None
first_mark (code ∷ codes) = if is_mark code then Some code else first_mark codes

-- the bytes of a pair that stand in a packet's text: those from 20 on
abbrev pub data_bytes : Code → List ℕ
data_bytes Null = []
data_bytes (Text first second) = filter (nat_le 0x20) (first ∷ second ∷ [])
data_bytes (Xds first second) = []
data_bytes (Control second control) = []

-- the segment that a pair opens, with the pairs after it: first bytes 01, 03 .. 0D start a packet of the classes 1 to 7, and 02, 04 .. 0E
-- continue one
abbrev pub opened : Code → List Code → List Segment
opened Null codes = []
opened (Text first second) codes = []
opened (Xds first second) codes =
    if nat_lt first 0x0F then record { class = (first + 1) / 2; kind = second; is_start = first % 2 == 1; bytes = flat_map data_bytes (stretch codes); end = first_mark codes } ∷ []
    else []
opened (Control second control) codes = []

-- the segments of codes, in order
abbrev pub segments : List Code → List Segment
segments [] = []
segments (code ∷ codes) = opened code codes ++ segments codes

-- a start pair of the class opened it
abbrev pub starts_class : ℕ → Segment → Bool
starts_class class segment = segment.is_start && segment.class == class

-- the segments from the last start pair of a class on
abbrev pub since_start : ℕ → List Segment → List Segment
since_start class [] = []
since_start class (segment ∷ segments) =
    if starts_class class segment && not (list_any (starts_class class) segments) then segment ∷ segments else since_start class segments

-- it is of this class and this type
abbrev pub is_of_type : ℕ → ℕ → Segment → Bool
is_of_type class kind segment = segment.class == class && segment.kind == kind

-- an end pair: its first byte is 0F
abbrev pub is_end : Option Code → Bool
is_end None = false
is_end (Some (Xds first second)) = first == 0x0F
is_end (Some _) = false

-- an end pair ended it
abbrev pub is_ended : Segment → Bool
is_ended segment = is_end segment.end

abbrev pub is_open_end : Option Code → Bool
is_open_end None = true
is_open_end (Some code) = false

-- nothing ended it: the next mark will
abbrev pub is_open : Segment → Bool
is_open segment = is_open_end segment.end

-- the segment that is open
abbrev pub open_of : List Segment → Option Segment
open_of [] = None
open_of (segment ∷ segments) = if is_open segment then Some segment else open_of segments

-- the bytes of segments, in order
abbrev pub segments_text : List Segment → List ℕ
segments_text segments = flat_map (λ segment. segment.bytes) segments
