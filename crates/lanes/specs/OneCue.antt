-- Between crates: the program's answer stands on none of these definitions.
-- One cue alone in a field's lane.
use Rattle.std.specs.Prelude.{◌≡◌, ℕ, ◌<◌, List, length, All, sum_by}
use Rattle.line21_author.specs.EventOrder.{AreFrom}
use Rattle.line21_author.specs.declared.event.Event.{Event}
use Rattle.lanes.specs.FieldLane.{slots_of}
use Rattle.lanes.specs.declared.chunk.FieldChunk.{FieldChunk}

-- the units are of one cue, the first of all, with its LOAD and SHOW, and the events are at SHOW or later
pub record AreOfOneCue (events : List Event) (chunks : List FieldChunk) (load show : ℕ) : Type 0 where
  pub some : 0 < length chunks
  pub cue : All (λ chunk. chunk.cue ≡ 1) chunks
  pub load_is : All (λ chunk. chunk.load ≡ load) chunks
  pub until_is : All (λ chunk. chunk.until ≡ show) chunks
  pub later : AreFrom show events

-- the slots that the units take together
abbrev pub total_slots : List FieldChunk → ℕ
total_slots chunks = sum_by slots_of chunks
