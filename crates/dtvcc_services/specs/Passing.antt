-- Believed in part: the library's answers stand on some of these definitions.
-- A pass over all services, in which each takes the same step.
use Rattle.std.specs.Prelude.{◌≡◌, ℕ, ◌≤◌, min, Bool, false, List, Option, Some, None, length, slice_get}
use Rattle.dtvcc_screen.specs.Cores.{CoreState}
use Rattle.dtvcc_screen.specs.Objects.{Stands, core_delay_end, screen_in}
use Rattle.dtvcc_screen.specs.Shown.{LooksSame}
use Rattle.dtvcc_services.specs.declared.members.Member.{Member}

-- a service took a step from state to state; its delay, if it is in one, doesn't end before a frame; and where nothing was
-- noted the same is shown
pub record HasStepped (step : CoreState → CoreState) (next : ℕ) (noted : Bool) (was now : Member) : Type 0 where
  pub stands : (state : CoreState) → Stands state was.core → Stands (step state) now.core
  pub ends : (end : ℕ) → core_delay_end now.core ≡ Some end → next ≤ end
  pub same : noted ≡ false → LooksSame (screen_in was.core) (screen_in now.core)

-- each of them did
pub record HaveStepped (step : CoreState → CoreState) (next : ℕ) (noted : Bool) (was now : List Member) : Type 0 where
  pub count : length now ≡ length was
  pub each : (place : ℕ) (before after : Member) → slice_get was place ≡ Some before → slice_get now place ≡ Some after
      → HasStepped step next noted before after

-- no delay ends before a frame
abbrev pub NoneEndsBefore : ℕ → List Member → Type 0
NoneEndsBefore next members =
    (place : ℕ) (member : Member) → slice_get members place ≡ Some member → (end : ℕ) → core_delay_end member.core ≡ Some end → next ≤ end

-- the lesser one of a number and of another, if there is one
abbrev pub least_with : ℕ → Option ℕ → ℕ
least_with n None = n
least_with n (Some m) = min n m
