-- Between crates: the program's answer stands on none of these definitions.
-- What makes the control pairs of a field's lane doubled (CTA-608-E, 47 CFR 79.101).
use Rattle.std.specs.Prelude.{◌≡◌, ℕ, ◌≤◌, List, IsTrue, All}
use Rattle.line21_codes.specs.ControlPairs.{is_control}
use Rattle.line21_author.specs.declared.event.Event.{Event}
use Rattle.lanes.specs.declared.chunk.FieldChunk.{FieldChunk}
use Rattle.lanes.specs.LaneEvents.{AreOver}

-- every event is a control pair, and the doubled units are those whose pairs are control pairs
pub record AreDoubledControls (events : List Event) (chunks : List FieldChunk) : Type 0 where
  pub events_are : All (λ event. IsTrue (is_control event.pair)) events
  pub chunks_are : All (λ chunk. is_control chunk.unit.pair ≡ chunk.unit.doubled) chunks

-- the events are over before slot n, and so is the time of each unit
pub record AreEnded (events : List Event) (chunks : List FieldChunk) (n : ℕ) : Type 0 where
  pub events_are : AreOver n events
  pub chunks_are : All (λ chunk. chunk.until ≤ n) chunks
