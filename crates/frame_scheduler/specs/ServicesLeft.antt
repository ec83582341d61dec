-- Between crates: the program's answer stands on none of these definitions.
-- The lanes of services of a plan: their services, and the frames that are left for them.
use Rattle.std.specs.Prelude.{ℕ, ◌+◌, ◌^◌, ◌<◌, ◌≤◌}
use Rattle.lanes.specs.ServicePlan.{PlannedService}

-- the service is one of those whose blocks have a header byte
pub record IsNumbered (planned : PlannedService) : Type 0 where
  pub least : 1 ≤ planned.service
  pub most : planned.service ≤ 6

-- this many frames are left for it
abbrev pub HasLeft : ℕ → PlannedService → Type 0
HasLeft left planned = left + planned.frame < 2 ^ 32
