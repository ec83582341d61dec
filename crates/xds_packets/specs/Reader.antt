-- Between crates: the program's answer stands on none of these definitions.
-- A reader of packets, and the pairs that it has read.
use Rattle.std.specs.Prelude.{◌≡◌, ℕ, List, None, option_map, map, slice_index_or}
use Rattle.line21_codes.specs.declared.pairs.Pair.{Pair}
use Rattle.line21_codes.specs.Reading.{code_of}
use Rattle.xds_packets.specs.declared.segments.OpenSegment.{OpenSegment}
use Rattle.xds_packets.specs.declared.reader.XdsReader.{XdsReader}
use Rattle.xds_packets.specs.OneByOne.{Label, StandsAt, State, label_with}

abbrev pub segment_seen : OpenSegment → Label
segment_seen segment = label_with segment.class segment.kind

-- what a reader keeps
abbrev pub state_of : XdsReader → State
state_of reader = record { label = option_map segment_seen reader.segment; under_way = λ class. slice_index_or reader.under_way class None }

pub record IsState (one two : State) : Type 0 where
  pub label : one.label ≡ two.label
  pub under_way : (class : ℕ) → one.under_way class ≡ two.under_way class

-- it follows these pairs of field 2
abbrev pub HasRead : List Pair → XdsReader → Type 0
HasRead pairs reader = StandsAt (map code_of pairs) (state_of reader)
