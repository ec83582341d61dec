-- Between crates: the program's answer stands on none of these definitions.
-- How far the units of a service have been placed.
use Rattle.std.specs.Prelude.{◌≡◌, ℕ, ◌+◌, ◌<◌, ◌≤◌, List, [], ◌∷◌, ◌++◌, length, slice_index_or, take}
use Rattle.std.specs.List.{zip}
use Rattle.cc_base.specs.declared.rate.Rate.{Rate}
use Rattle.dtvcc_author.specs.Kept.{AreKept}
use Rattle.dtvcc_author.specs.declared.caption.Caption.{Caption}
use Rattle.lanes.specs.Placing.{IsEarliest}
use Rattle.lanes.specs.CueChunks.{chunk_in}
use Rattle.lanes.specs.ServiceRoom.{IsFirstBehind, IsFront, caption_lane}
use Rattle.lanes.specs.Batches.{AreBatches, batch_frames}
use Rattle.lanes.specs.Chunks.{ServiceChunk}
use Rattle.lanes.specs.declared.cue_load.CueLoad.{CueLoad}
use Rattle.lanes.specs.declared.service_front.Front.{Front}
use Rattle.lanes.specs.declared.placing.Placing.{Placing}
use Rattle.lanes.specs.declared.batch.Batch.{Batch}

-- the units in their earliest frames, with the front after them
pub record Reaches (share : ℕ) (cs : List Caption) (us : List ServiceChunk) (frames : List ℕ) (front : Front) : Type 0 where
  pub earliest : IsEarliest (caption_lane share cs) us frames
  pub front_is : IsFront share cs (zip us frames) front
  pub first : IsFirstBehind (zip us frames) front.frame

-- the batches of the units placed, the last of which may still grow
abbrev pub batches_of : Placing → List Batch
batches_of placing = placing.batches.items ++ placing.last ∷ []

-- the first units stand in their earliest frames, and the last batch is in the frame of the front
pub record IsPlacing (share : ℕ) (cs : List Caption) (chunks : List ServiceChunk) (placing : Placing) : Type 0 where
  pub reaches : Reaches share cs (take placing.last.units chunks) (batch_frames (batches_of placing)) placing.front
  pub batches : AreBatches chunks 0 0 (batches_of placing)
  pub frame : placing.last.frame ≡ placing.front.frame

-- the unit of this place is one of the cue
pub record IsOfCue (cue : CueLoad) (units : List (List ℕ)) (chunks : List ServiceChunk) (index : ℕ) : Type 0 where
  pub within : index < length chunks
  pub is : (d : ServiceChunk) → slice_index_or chunks index d ≡ chunk_in cue (slice_index_or units index [])

-- the next units are all the cue's
abbrev pub AreOfCue : CueLoad → List (List ℕ) → List ServiceChunk → ℕ → Type 0
AreOfCue cue units chunks from = (index : ℕ) → from ≤ index → index < from + cue.count → IsOfCue cue units chunks index

-- the front is at a frame that the units of a cue may stand in
pub record MayStand (cue : CueLoad) (front : Front) : Type 0 where
  pub loaded : cue.load ≤ front.frame
  pub ended : front.frame < cue.until

-- the next units, up to this many in all, are of a cue whose units may stand in the front's frame
pub record FillsFrame (cs : List Caption) (cue : CueLoad) (units : List (List ℕ)) (chunks : List ServiceChunk) (placing : Placing) (end : ℕ) : Type 0 where
  pub kept : (rate : Rate) × ((frames : ℕ) × AreKept rate frames cs)
  pub stand : MayStand cue placing.front
  pub of_cue : (index : ℕ) → placing.last.units ≤ index → index < end → IsOfCue cue units chunks index
