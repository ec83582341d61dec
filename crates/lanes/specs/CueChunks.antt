-- Between crates: the program's answer stands on none of these definitions.
-- The units of a service as they are kept: the units themselves, and once a cue what it asks of their places.
use Rattle.std.specs.Prelude.{◌≡◌, ℕ, ◌≤◌, List, [], ◌∷◌, ◌++◌, drop, length, map, take}
use Rattle.lanes.specs.Chunks.{ServiceChunk}
use Rattle.lanes.specs.declared.cue_load.CueLoad.{CueLoad}

-- a unit of the cue
abbrev pub chunk_in : CueLoad → List ℕ → ServiceChunk
chunk_in cue unit = record { unit = unit; load = cue.load; until = cue.until; cue = cue.cue }

-- the units of these cues, each of which has as many of them as it counts
abbrev pub chunks_of : List CueLoad → List (List ℕ) → List ServiceChunk
chunks_of [] units = []
chunks_of (cue ∷ cues) units = map (chunk_in cue) (take cue.count units) ++ chunks_of cues (drop cue.count units)

-- the cues have all of the units
abbrev pub AreCounted : List CueLoad → List (List ℕ) → Type 0
AreCounted [] units = units ≡ []
AreCounted (cue ∷ cues) units = (cue.count ≤ length units) × AreCounted cues (drop cue.count units)

-- the bytes of a unit
abbrev pub chunk_bytes : ServiceChunk → List ℕ
chunk_bytes chunk = chunk.unit
