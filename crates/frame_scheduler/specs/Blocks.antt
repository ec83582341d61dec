-- Believed in part: the program's answer stands on some of these definitions.
-- The service blocks of a frame (CTA-708-E, section 6.2), in ascending order of service.
use Rattle.std.specs.Prelude.{ℕ, ◌+◌, List, [], ◌∷◌, sum_by}
use Rattle.std.specs.List.{flat_map}
use Rattle.service_blocks.specs.Written.{block_written}
use Rattle.lanes.specs.ServicePlan.{PlannedService, lane_bytes}

-- the block of a service, where it is sent something
abbrev pub service_block : ℕ → List ℕ → List ℕ
service_block service [] = []
service_block service (byte ∷ bytes) = block_written service (byte ∷ bytes)

-- the block of a lane in a frame
abbrev pub lane_block : ℕ → PlannedService → List ℕ
lane_block frame planned = service_block planned.service (lane_bytes planned frame)

-- the blocks of lanes in a frame, and those that come next
abbrev pub blocks_of : List PlannedService → ℕ → List ℕ
blocks_of planned frame = flat_map (lane_block frame) planned

abbrev pub next_blocks : List PlannedService → List ℕ
next_blocks planned = flat_map (λ one. lane_block one.frame one) planned

-- a lane after the frame whose bytes come next
abbrev pub moved_on : PlannedService → PlannedService
moved_on planned = record planned { frame = planned.frame + 1 }

-- the bytes that the blocks of lanes may take, with their headers
abbrev pub blocks_room : List PlannedService → ℕ
blocks_room planned = sum_by (λ one. one.share + 1) planned
