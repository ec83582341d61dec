-- Between crates: the program's answer stands on none of these definitions.
-- The reading, a code at a time: what is kept of the codes so far is the class and type of the open segment, and of each class the packet that
-- is under way.
use Rattle.std.specs.Prelude.{◌≡◌, ⊤, ◌≤◌, ℕ, ◌+◌, ◌/◌, ◌%◌, ◌==◌, ◌&&◌, nat_lt, nat_le, if◌then◌else◌, List, [], ◌∷◌, ◌++◌, length, Option, Some, None}
use Rattle.std.specs.List.{filter, list_any}
use Rattle.line21_codes.specs.declared.codes.Code.{Code}
use Rattle.line21_codes.specs.declared.codes.Code.TheVariants.{Null, Text, Xds, Control}
use Rattle.xds_packets.specs.declared.packets.XdsPacket.{XdsPacket}
use Rattle.xds_packets.specs.declared.under_way.UnderWay.{UnderWay}
use Rattle.xds_packets.specs.Segments.{Segment, data_bytes, is_ended, is_of_type, open_of, segments, segments_text, since_start}
use Rattle.xds_packets.specs.Reading.{checks, ends_at}

-- the class and type of a segment
pub record Label : Type 0 where
  pub class : ℕ
  pub kind : ℕ

abbrev pub label_with : ℕ → ℕ → Label
label_with class kind = record { class = class; kind = kind }

-- the open segment's label, and of each class the packet that is under way: its type and its text so far
pub record State : Type 0 where
  pub label : Option Label
  pub under_way : ℕ → Option UnderWay

-- nothing was read
abbrev pub fresh : State
fresh = record { label = None; under_way = λ class. None }

abbrev pub put : ℕ → Option UnderWay → (ℕ → Option UnderWay) → ℕ → Option UnderWay
put class one under_way other = if class == other then one else under_way other

-- a packet with this text, or none where it has become too long
abbrev pub fitted : ℕ → List ℕ → Option UnderWay
fitted kind text = if nat_le (length text) 32 then Some (record { kind = kind; text = text }) else None

-- a packet with these bytes of the segment after its text, if it is of the segment's type
abbrev pub added : Label → List ℕ → Option UnderWay → Option UnderWay
added label bytes None = None
added label bytes (Some so_far) = if label.kind == so_far.kind then fitted so_far.kind (so_far.text ++ bytes) else Some so_far

-- bytes more of the open segment
abbrev pub gone_on : Option Label → List ℕ → State → State
gone_on None bytes state = state
gone_on (Some label) bytes state = record state { under_way = put label.class (added label bytes (state.under_way label.class)) state.under_way }

-- a packet, unless it is of the segment's type
abbrev pub dropped : Label → Option UnderWay → Option UnderWay
dropped label None = None
dropped label (Some so_far) = if label.kind == so_far.kind then None else Some so_far

-- a start or continue pair: the start of a packet drops the former one of its class
abbrev pub begun : ℕ → ℕ → State → State
begun first kind state = record {
  label = Some (record { class = (first + 1) / 2; kind = kind });
  under_way = if first % 2 == 1 then put ((first + 1) / 2) (Some (record { kind = kind; text = [] })) state.under_way else state.under_way;
}

-- an end pair: the packet whose segment it closes is under way no more
abbrev pub ended : Option Label → State → State
ended None state = record state { label = None }
ended (Some label) state = record { label = None; under_way = put label.class (dropped label (state.under_way label.class)) state.under_way }

-- what is kept after a code more
abbrev pub next_state : Code → State → State
next_state Null state = state
next_state (Text first second) state = gone_on state.label (data_bytes (Text first second)) state
next_state (Xds first second) state = if nat_lt first 0x0F then begun first second state else ended state.label state
next_state (Control second control) state = record state { label = None }

-- the packet of the segment's type that is under way, if the checksum sums it up
abbrev pub finished : Label → Option UnderWay → ℕ → Option XdsPacket
finished label None check = None
finished label (Some so_far) check =
    if label.kind == so_far.kind && checks label.class label.kind so_far.text check then Some (record { class = label.class; kind = label.kind; text = so_far.text }) else None

abbrev pub given_end : Option Label → State → ℕ → Option XdsPacket
given_end None state check = None
given_end (Some label) state check = finished label (state.under_way label.class) check

-- the packet that ends at a code
abbrev pub given : Code → State → Option XdsPacket
given Null state = None
given (Text first second) state = None
given (Xds first second) state = if first == 0x0F then given_end state.label state second else None
given (Control second control) state = None

-- what the segments so far come to
abbrev pub label_of : Option Segment → Option Label
label_of None = None
label_of (Some segment) = Some (record { class = segment.class; kind = segment.kind })

abbrev pub under_way_from : ℕ → List Segment → Option UnderWay
under_way_from class [] = None
under_way_from class (segment ∷ segments) =
    if list_any is_ended (filter (is_of_type class segment.kind) (segment ∷ segments)) then None
    else fitted segment.kind (segments_text (filter (is_of_type class segment.kind) (segment ∷ segments)))

-- what is kept after these codes
pub record StandsAt (codes : List Code) (state : State) : Type 0 where
  pub label_is : state.label ≡ label_of (open_of (segments codes))
  pub under_way_are : (class : ℕ) → state.under_way class ≡ under_way_from class (since_start class (segments codes))

-- a byte of a pair is below 80, so a first byte of a pair of extended data is at most 0F
abbrev pub IsCode : Code → Type 0
IsCode Null = ⊤
IsCode (Text first second) = ⊤
IsCode (Xds first second) = first ≤ 0x0F
IsCode (Control second control) = ⊤

-- the packet that ends at a code is the reading's, whatever came before, and what is kept after it is what the reading needs
abbrev pub CodesAreReadOneByOne : Type 0
CodesAreReadOneByOne = StandsAt [] fresh × ((codes : List Code) (code : Code) (state : State) → IsCode code → StandsAt codes state
    → (given code state ≡ ends_at codes code) × StandsAt (codes ++ code ∷ []) (next_state code state))

-- a byte of a pair, if it stands in a text
abbrev pub text_bytes : ℕ → List ℕ
text_bytes byte = filter (nat_le 0x20) (byte ∷ [])
