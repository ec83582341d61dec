-- Believed in part: the program's answer stands on some of these definitions.
-- The bytes that a service is sent in a frame: the frame's events, and after them the units that stand in the frame.
use Rattle.std.specs.Prelude.{◌≡◌, ℕ, ◌≤◌, ◌==◌, if◌then◌else◌, List, [], ◌∷◌, ◌++◌, drop, ⊤}
use Rattle.std.specs.List.{flat_map, zip}
use Rattle.cc_base.specs.declared.rate.Rate.{Rate}
use Rattle.dtvcc_author.specs.FrameEvents.{event_bytes}
use Rattle.dtvcc_author.specs.Kept.{AreKept}
use Rattle.dtvcc_author.specs.Latest.{IsLatestAt}
use Rattle.dtvcc_author.specs.declared.caption.Caption.{Caption}
use Rattle.lanes.specs.Batches.{AreBatches, bytes_of_first, frames_from, batch_frames}
use Rattle.lanes.specs.Chunks.{ServiceChunk}
use Rattle.lanes.specs.declared.service_cursor.Cursor.{Cursor}
use Rattle.lanes.specs.declared.batch.Batch.{Batch}

-- the bytes of the units that stand in a frame
abbrev pub loads_at : List (ServiceChunk × ℕ) → ℕ → List ℕ
loads_at placed frame = flat_map (λ (each : ServiceChunk × ℕ). if each.1 == frame then each.0.unit else []) placed

-- the bytes of a frame
abbrev pub bytes_in : List Caption → List (ServiceChunk × ℕ) → ℕ → List ℕ
bytes_in cs placed frame =
    event_bytes frame cs
    ++ flat_map (λ (each : ServiceChunk × ℕ). if each.1 == frame then each.0.unit else []) placed

-- the frames are in order, from one on
abbrev pub AreFramesFrom : ℕ → List ℕ → Type 0
AreFramesFrom frame [] = ⊤
AreFramesFrom frame (f ∷ fs) = (frame ≤ f) × AreFramesFrom f fs

-- the cursor is after the units that stand before its frame: the units of the frames from there on are its next batches
pub record IsLoading (chunks : List ServiceChunk) (batches : List Batch) (cursor : Cursor) : Type 0 where
  -- how many units are passed
  pub passed : ℕ
  pub start : cursor.start ≡ bytes_of_first passed chunks
  pub same : (frame : ℕ) → cursor.frame ≤ frame
      → loads_at (zip chunks (batch_frames batches)) frame ≡ loads_at (zip (drop passed chunks) (frames_from passed (drop cursor.next batches))) frame
  pub ahead : AreBatches chunks cursor.frame passed (drop cursor.next batches)

-- the cursor is ready to give the bytes of its frame
pub record IsReadyForBytes (cs : List Caption) (chunks : List ServiceChunk) (batches : List Batch) (cursor : Cursor) : Type 0 where
  pub kept : (rate : Rate) × ((all : ℕ) × AreKept rate all cs)
  pub at : IsLatestAt cs cursor.frame cursor.latest
  pub loading : IsLoading chunks batches cursor
