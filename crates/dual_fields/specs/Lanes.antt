-- Believed in part: the program's answer stands on some of these definitions.
-- A lane beside another one of its field: its timeline, with the first units of cues that come again, and what its cues give.
use Rattle.std.specs.Prelude.{◌≡◌, ⊤, ℕ, ◌+◌, ◌<◌, ◌==◌, Bool, true, false, if◌then◌else◌, List, [], ◌∷◌, Option, Some, None, map}
use Rattle.line21_codes.specs.Reading.{code_of}
use Rattle.line21_author.specs.declared.unit.Unit.{Unit}
use Rattle.line21_screen.specs.declared.modes.Mode.{Mode}
use Rattle.lanes.specs.declared.chunk.FieldChunk.{FieldChunk}
use Rattle.lanes.specs.LaneTimeline.{lane_timeline}
use Rattle.lanes.specs.Timeline.{Timeline, over}
use Rattle.dual_fields.specs.ResumedLane.{Stand}
use Rattle.dual_fields.specs.Slots.{AreSound, Slots}
use Rattle.dual_fields.specs.declared.part.Part.{Part}
use Rattle.dual_fields.specs.Resuming.{keeps_mode, opens}
use Rattle.dual_fields.specs.Sharing.{is_text}

-- the timeline of the first units that come again
abbrev pub again : List Part → List (Option ℕ) → Timeline
again [] rs n = None
again (part ∷ parts) [] n = None
again (part ∷ parts) (None ∷ rs) n = again parts rs n
again (part ∷ parts) (Some at ∷ rs) n = if n == at then Some part.first else again parts rs n

-- the units by themselves
abbrev pub part_chunks : List Part → List FieldChunk
part_chunks parts = map (λ part. part.chunk) parts

-- the lane's own timeline, with the first units that come again
abbrev pub whole : Timeline → List Part → List ℕ → List (Option ℕ) → Timeline
whole events parts fs rs = over (lane_timeline events (part_chunks parts) fs) (again parts rs)

-- a cue's first unit begins its mode, and is doubled
pub record Begins (part : Part) : Type 0 where
  pub first : part.first ≡ part.chunk.unit
  pub mode : Mode
  pub opens_it : opens (code_of part.first.pair) ≡ Some mode
  pub doubled : part.chunk.unit.doubled ≡ true

-- a later one belongs to the cue of the one before, and leaves the mode
pub record Continues (former part : Part) : Type 0 where
  pub first : part.first ≡ former.first
  pub load : part.chunk.load ≡ former.chunk.load
  pub keeps_it : keeps_mode (code_of part.chunk.unit.pair) ≡ true

-- a unit after another, by whether it is its cue's first
abbrev pub IsBehind : Bool → Option Part → Part → Type 0
IsBehind false former part = Begins part
IsBehind true None part = ⊥
IsBehind true (Some former) part = Continues former part

-- the units are cues' units, one after another
abbrev pub AreCues : Option Part → List Part → Type 0
AreCues former [] = ⊤
AreCues former (part ∷ parts) = IsBehind part.later former part × AreCues (Some part) parts

-- what the lane's own events send while a unit's cue is under way leaves the mode
abbrev pub AreQuiet : Timeline → List Part → Type 0
AreQuiet events [] = ⊤
AreQuiet events (part ∷ parts) =
    ((n : ℕ) (unit : Unit) → part.chunk.load < n → n < part.chunk.until → events n ≡ Some unit → keeps_mode (code_of unit.pair) ≡ true)
    × AreQuiet events parts

-- a lane in a field
pub record IsLane (slots : Slots) (events : Timeline) (parts : List Part) (fs : List ℕ) (rs : List (Option ℕ)) : Type 0 where
  pub sound : AreSound slots
  pub held : (n : ℕ) (unit : Unit) → events n ≡ Some unit → (slots.free n ≡ false) × (slots.free (n + 1) ≡ false)
  pub controls : (n : ℕ) (unit : Unit) → events n ≡ Some unit → is_text (code_of unit.pair) ≡ false
  pub quiet : AreQuiet events parts
  pub cues : AreCues None parts
  pub stand : Stand slots 0 parts fs rs
