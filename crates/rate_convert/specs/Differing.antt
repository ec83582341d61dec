-- Between crates: the program's answer stands on none of these definitions.
-- The first service of which something else is seen (CTA-708-E, caption windows).
use Rattle.std.specs.Prelude.{◌≡◌, ◌≢◌, ℕ, ◌<◌, ◌≤◌, Option, Some, None}
use Rattle.dtvcc_services.specs.Numbers.{IsService}
use Rattle.dtvcc_windows.specs.Showing.{ShownWindow}

-- the windows of services, by the service and the window's id
abbrev pub ServiceWindows : Type 0
ServiceWindows = ℕ → ℕ → Option ShownWindow

-- the same is seen of the eight windows of a service, or not of one of them
abbrev pub LookAlike : ServiceWindows → ServiceWindows → ℕ → Type 0
LookAlike windows others service = (id : ℕ) → id < 8 → others service id ≡ windows service id

abbrev pub Differ : ServiceWindows → ServiceWindows → ℕ → Type 0
Differ windows others service = (id : ℕ) × (id < 8) × (others service id ≢ windows service id)

-- the first service that differs, if one does
pub record IsFirstService (windows others : ServiceWindows) (service : ℕ) : Type 0 where
  pub numbered : IsService service
  pub differs : Differ windows others service
  pub before : (other : ℕ) → 1 ≤ other → other < service → LookAlike windows others other

abbrev pub IsFirstDiffering : ServiceWindows → ServiceWindows → Option ℕ → Type 0
IsFirstDiffering windows others None = (service : ℕ) → IsService service → LookAlike windows others service
IsFirstDiffering windows others (Some service) = IsFirstService windows others service
