-- Between crates: the program's answer stands on none of these definitions.
-- The lane of a service whose units are placed: each frame is loaded with the units that stand in it.
use Rattle.std.specs.Prelude.{ℕ, List, [], All, Option, option_map}
use Rattle.frame_scheduler.specs.Chunks.{ServiceChunk}
use Rattle.frame_scheduler.specs.Placing.{IsPlaced}
use Rattle.frame_scheduler.specs.ServiceBytes.{loads_at}
use Rattle.frame_scheduler.specs.ServiceLane.{IsAllowedInService}
use Rattle.dtvcc_author.specs.declared.frame_events.Delay.{Delay}
use Rattle.windows_shown.specs.ServiceLanes.{Lane}
use Rattle.windows_shown.specs.Soundness.{ArePlain, IsSoundLane}

-- the lane with these units, and with none
abbrev pub loaded : Lane → List (ServiceChunk × ℕ) → Lane
loaded lane placed = record { rate = lane.rate; events = lane.events; delay = lane.delay; loads = loads_at placed }

abbrev pub unloaded : Lane → Lane
unloaded lane = record { rate = lane.rate; events = lane.events; delay = lane.delay; loads = λ frame. [] }

-- the frame in which the delay ends that starts in a frame, if one starts there
abbrev pub delay_ends : Lane → ℕ → Option ℕ
delay_ends lane start = option_map (λ (delay : Delay). delay.ends) (lane.delay start)

-- units of plain commands, placed in a lane whose events and delays are sound by themselves
pub record IsPlacedLane (lane : Lane) (room : ℕ → ℕ) (chunks : List ServiceChunk) (frames : List ℕ) : Type 0 where
  pub sound : IsSoundLane (unloaded lane)
  pub plain : All (λ chunk. ArePlain chunk.unit) chunks
  pub placed : IsPlaced (IsAllowedInService room (delay_ends lane)) [] chunks frames
