-- Believed in part: the program's answer stands on some of these definitions.
-- The room of a service's frames, and how far its units have been placed.
use Rattle.std.specs.Prelude.{◌≡◌, ℕ, ◌+◌, ◌-◌, ◌<◌, ◌≤◌, ◌&&◌, nat_le, nat_lt, Bool, true, if◌then◌else◌, List, Option, Some, None, length}
use Rattle.lanes.specs.declared.budget.Budget.{Budget}
use Rattle.dtvcc_author.specs.FrameEvents.{delay_end, event_bytes}
use Rattle.dtvcc_author.specs.Latest.{IsLatestAt}
use Rattle.dtvcc_author.specs.declared.caption.Caption.{Caption}
use Rattle.lanes.specs.ServiceLane.{AreUpTo, most_in_delay, IsAllowedInService, used}
use Rattle.lanes.specs.Chunks.{ServiceChunk}
use Rattle.lanes.specs.declared.service_front.Front.{Front}

-- the bytes of a frame for units: its share of the service, less its events
abbrev pub frame_room : ℕ → List Caption → ℕ → ℕ
frame_room share cs frame = share - length (event_bytes frame cs)

-- what the lane of a service allows, with this share of each frame, less the bytes of its events, and these captions
abbrev pub caption_lane : ℕ → List Caption → List (ServiceChunk × ℕ) → ServiceChunk → ℕ → Type 0
caption_lane share cs = IsAllowedInService (λ frame. share - length (event_bytes frame cs)) (delay_end cs)

-- the budget is the one of the delay that is on in the frame, less the units in it
pub record IsSpent (cs : List Caption) (before : List (ServiceChunk × ℕ)) (frame : ℕ) (budget : Budget) : Type 0 where
  pub delay : delay_end cs budget.start ≡ Some budget.end
  pub from : budget.start ≤ frame
  pub to : frame < budget.end
  pub left : used budget.start budget.end before + budget.left ≡ most_in_delay

-- no delay is on in the frame
abbrev pub IsUndelayed : List Caption → ℕ → Type 0
IsUndelayed cs frame = (start end : ℕ) → delay_end cs start ≡ Some end → start ≤ frame → end ≤ frame

abbrev pub IsBudgetAt : List Caption → List (ServiceChunk × ℕ) → ℕ → Option Budget → Type 0
IsBudgetAt cs before frame None = IsUndelayed cs frame
IsBudgetAt cs before frame (Some budget) = IsSpent cs before frame budget

-- the front is at a frame after which no unit stands, and knows what the units before leave of it and of its delay
pub record IsFront (share : ℕ) (cs : List Caption) (before : List (ServiceChunk × ℕ)) (front : Front) : Type 0 where
  pub at : IsLatestAt cs front.frame front.latest
  pub order : AreUpTo front.frame before
  pub room : used front.frame (front.frame + 1) before + front.room ≡ frame_room share cs front.frame
  pub budget : IsBudgetAt cs before front.frame front.budget

-- no frame before is after all units
abbrev pub IsFirstBehind : List (ServiceChunk × ℕ) → ℕ → Type 0
IsFirstBehind before frame = (other : ℕ) → AreUpTo other before → frame ≤ other

-- the budget in a frame: a new one where a delay starts there, else the previous delay's, until its end
abbrev pub budget_in : Option Budget → Option ℕ → ℕ → Option Budget
budget_in former (Some end) frame = Some (record { start = frame; end = end; left = most_in_delay })
budget_in None None frame = None
budget_in (Some budget) None frame = if nat_lt frame budget.end then Some budget else None

-- as many bytes are left of the delay that is on
abbrev pub has_left : Option Budget → ℕ → Bool
has_left None size = true
has_left (Some budget) size = nat_le size budget.left

-- the budget less these bytes
abbrev pub spent_of : Option Budget → ℕ → Option Budget
spent_of None size = None
spent_of (Some budget) size = Some (record budget { left = budget.left - size })

-- the frame and its delay have as many bytes left
abbrev pub takes : Front → ℕ → Bool
takes front size = nat_le size front.room && has_left front.budget size

-- the front less these bytes
abbrev pub behind_taking : Front → ℕ → Front
behind_taking front size = record front { room = front.room - size; budget = spent_of front.budget size }
