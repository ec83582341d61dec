-- Between crates: the program's answer stands on none of these definitions.
-- The frames of placed units, kept by batches of units that stand in one frame.
use Rattle.std.specs.Prelude.{◌≡◌, ℕ, ◌+◌, ◌-◌, ◌≤◌, List, [], ◌∷◌, ◌++◌, ⊤, length, replicate, take}
use Rattle.std.specs.List.{flat_map}
use Rattle.lanes.specs.CueChunks.{chunk_bytes}
use Rattle.lanes.specs.Chunks.{ServiceChunk}
use Rattle.lanes.specs.declared.batch.Batch.{Batch}

-- the frame of each unit, where this many units stand before
abbrev pub frames_from : ℕ → List Batch → List ℕ
frames_from before [] = []
frames_from before (batch ∷ batches) = replicate (batch.units - before) batch.frame ++ frames_from batch.units batches

-- the frame of each unit
abbrev pub batch_frames : List Batch → List ℕ
batch_frames batches = frames_from 0 batches

-- the bytes of the first this many units
abbrev pub bytes_of_first : ℕ → List ServiceChunk → ℕ
bytes_of_first count chunks = length (flat_map chunk_bytes (take count chunks))

-- the batches stand in ascending frames, from one on, have units after this many, and end with the bytes of their last unit
abbrev pub AreBatches : List ServiceChunk → ℕ → ℕ → List Batch → Type 0
AreBatches chunks frame before [] = ⊤
AreBatches chunks frame before (batch ∷ batches) =
    (frame ≤ batch.frame) × (before ≤ batch.units) × (batch.units ≤ length chunks)
    × (batch.bytes ≡ bytes_of_first batch.units chunks) × AreBatches chunks (batch.frame + 1) batch.units batches
