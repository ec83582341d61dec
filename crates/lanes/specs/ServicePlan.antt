-- Believed in part: the library's answers stand on some of these definitions.
-- A service's lane that is placed, and what placing one answers.
use Rattle.std.specs.Prelude.{◌≡◌, ℕ, ◌≤◌, List, length, ⊤}
use Rattle.std.specs.List.{zip}
use Rattle.dtvcc_author.specs.declared.caption.Caption.{Caption}
use Rattle.lanes.specs.LaneRoom.{IsFirstCrowded}
use Rattle.lanes.specs.Placing.{IsEarliest}
use Rattle.lanes.specs.declared.planning.PlanFault.{PlanFault}
use Rattle.lanes.specs.declared.planning.PlanFault.TheVariants.{Memory, NoRoom}
use Rattle.lanes.specs.ServiceBytes.{bytes_in}
use Rattle.lanes.specs.ServiceChunks.{service_chunk_cue}
use Rattle.lanes.specs.ServiceRoom.{caption_lane}
use Rattle.lanes.specs.Chunks.{ServiceChunk}

-- a placed lane: its service and the share of it, its captions, its units in their frames, and the frame whose bytes come next
pub record PlannedService : Type 0 where
  pub service : ℕ
  pub share : ℕ
  pub captions : List Caption
  pub chunks : List ServiceChunk
  pub frames : List ℕ
  pub frame : ℕ

-- the bytes of the lane in a frame
abbrev pub lane_bytes : PlannedService → ℕ → List ℕ
lane_bytes planned frame = bytes_in planned.captions (zip planned.chunks planned.frames) frame

-- why a lane isn't planned: memory ran out, or this is the first cue without room
abbrev pub IsServiceFault : ℕ → List Caption → List ServiceChunk → PlanFault → Type 0
IsServiceFault share cs chunks (Memory error) = ⊤
IsServiceFault share cs chunks (NoRoom cue) = IsFirstCrowded (caption_lane share cs) service_chunk_cue chunks cue

-- planning a lane gives it at frame 0, its units in their earliest placement
pub record IsServicePlan (service share : ℕ) (cs : List Caption) (chunks : List ServiceChunk) (planned : PlannedService) : Type 0 where
  pub earliest : IsEarliest (caption_lane share cs) chunks planned.frames
  pub service_is : planned.service ≡ service
  pub share_is : planned.share ≡ share
  pub captions_are : planned.captions ≡ cs
  pub chunks_are : planned.chunks ≡ chunks
  pub at_first : planned.frame ≡ 0

-- the bytes of no frame pass the share
abbrev pub IsWithinShare : ℕ → List Caption → List ServiceChunk → List ℕ → Type 0
IsWithinShare share cs chunks frames = (frame : ℕ) → length (bytes_in cs (zip chunks frames) frame) ≤ share
