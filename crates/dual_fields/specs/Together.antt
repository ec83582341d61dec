-- Between crates: the program's answer stands on none of these definitions.
-- Two lanes in one field, and what each of its channels gets.
use Rattle.std.specs.Prelude.{◌≡◌, ⊤, ℕ, suc, true, false, List, [], ◌∷◌, Option, Some, None}
use Rattle.line21_codes.specs.declared.channels.FieldNumber.{FieldNumber}
use Rattle.line21_codes.specs.declared.channels.DataChannel.{DataChannel}
use Rattle.line21_codes.specs.declared.channels.DataChannel.TheVariants as data_channels
use Rattle.line21_codes.specs.ControlPairs.{is_control}
use Rattle.line21_codes.specs.Reading.{code_of}
use Rattle.line21_codes.specs.Writable.{IsWritable}
use Rattle.line21_author.specs.declared.unit.Unit.{Unit}
use Rattle.line21_screen.specs.Fields.{channel}
use Rattle.line21_screen.specs.Meaning.{after}
use Rattle.lanes.specs.Timeline.{Timeline, over, slot}
use Rattle.line21_shown.specs.Reading.{acts, pairs_before}
use Rattle.dual_fields.specs.ResumedLane.{Stand}
use Rattle.dual_fields.specs.FieldSlots.{first_slots, holds, second_slots}
use Rattle.dual_fields.specs.Spans.{in_spans}
use Rattle.dual_fields.specs.declared.part.Part.{Part}
use Rattle.dual_fields.specs.Lanes.{AreCues, AreQuiet, whole, part_chunks}
use Rattle.dual_fields.specs.Sharing.{IsFor, is_text}
use Rattle.lanes.specs.LaneTimeline.{lane_timeline}

-- what begins on a channel is for it, and doubled exactly where it is a control pair
pub record IsOfChannel (of_channel : DataChannel) (unit : Unit) : Type 0 where
  pub marked : is_control unit.pair ≡ unit.doubled
  pub own : IsFor of_channel (code_of unit.pair)
  pub writable : IsWritable (code_of unit.pair)

-- so are all units, and those that come again
abbrev pub AreOfChannel : DataChannel → List Part → Type 0
AreOfChannel of_channel [] = ⊤
AreOfChannel of_channel (part ∷ parts) =
    IsOfChannel of_channel part.chunk.unit × IsOfChannel of_channel part.first × AreOfChannel of_channel parts

-- a lane as its list gives it: its events lie apart and are control codes, and its units are cues' units
pub record IsListed (of_channel : DataChannel) (events : Timeline) (parts : List Part) : Type 0 where
  pub apart : (n : ℕ) (unit : Unit) → events n ≡ Some unit → events (suc n) ≡ None
  pub controls : (n : ℕ) (unit : Unit) → events n ≡ Some unit → is_text (code_of unit.pair) ≡ false
  pub events_own : (n : ℕ) (unit : Unit) → events n ≡ Some unit → IsOfChannel of_channel unit
  pub quiet : AreQuiet events parts
  pub cues : AreCues None parts
  pub parts_own : AreOfChannel of_channel parts

-- two such lanes in one field, the first placed first
pub record AreTogether (one two : Timeline) (parts others : List Part) (fs gs : List ℕ) (rs qs : List (Option ℕ)) : Type 0 where
  pub first : IsListed data_channels.One one parts
  pub second : IsListed data_channels.Two two others
  pub clash : (n : ℕ) → holds one n ≡ true → holds two n ≡ false
  pub stand : Stand (first_slots one two) 0 parts fs rs
  pub beside : Stand (second_slots one two (in_spans parts fs)) 0 others gs qs

-- each channel gets what its own list gives it, as if it were alone and no unit came again
pub record EachIsAlone (in_field : FieldNumber) (one two : Timeline) (parts others : List Part) (fs gs : List ℕ) (rs qs : List (Option ℕ)) (n : ℕ) : Type 0 where
  pub first : channel data_channels.One (after in_field (pairs_before (slot (over (whole one parts fs rs) (whole two others gs qs))) n)) ≡ acts (lane_timeline one (part_chunks parts) fs) n
  pub second : channel data_channels.Two (after in_field (pairs_before (slot (over (whole one parts fs rs) (whole two others gs qs))) n)) ≡ acts (lane_timeline two (part_chunks others) gs) n

abbrev pub TogetherIsAlone : Type 0
TogetherIsAlone = (in_field : FieldNumber) (one two : Timeline) (parts others : List Part) (fs gs : List ℕ) (rs qs : List (Option ℕ))
    → AreTogether one two parts others fs gs rs qs → (n : ℕ) → EachIsAlone in_field one two parts others fs gs rs qs n
