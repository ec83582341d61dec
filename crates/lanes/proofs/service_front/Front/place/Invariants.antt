use Rattle.std.proofs.Common.{◌-◌, ◌<◌, ℕ, List}
use Rattle.lanes.specs.CueChunks.{chunk_in}
use Rattle.lanes.specs.ServiceRoom.{IsFirstBehind, IsFront, caption_lane}
use Rattle.lanes.specs.Chunks.{ServiceChunk}
use Rattle.lanes.proofs.service_front.Front.place.Given as goal

abbrev pub invariant-loop-self : goal.invariant-loop-self
invariant-loop-self l = record {
  front : (before : List (ServiceChunk × ℕ)) → IsFront l.share l.captions before l.fn.self → IsFront l.share l.captions before l.self;
  below : (before : List (ServiceChunk × ℕ)) → IsFront l.share l.captions before l.fn.self → IsFirstBehind before l.fn.self.frame
      → (frame : ℕ) → frame < l.self.frame → caption_lane l.share l.captions before (chunk_in l.cue l.unit) frame → ⊥;
}

abbrev pub decreases-loop-self : goal.decreases-loop-self
decreases-loop-self l = l.until - l.self.frame
