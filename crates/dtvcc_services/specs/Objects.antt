-- Believed: the library's answers stand on these definitions.
-- What the objects of the program stand for.
use Rattle.std.specs.Prelude.{◌≡◌, ℕ, ◌+◌, Bool, false, List, ◌++◌, Option, Some, slice_get}
use Rattle.dtvcc_screen.specs.declared.clock.Clock.{Clock}
use Rattle.dtvcc_screen.specs.declared.cores.Core.{Core}
use Rattle.dtvcc_screen.specs.Meaning.{Event, Served, served_after, start}
use Rattle.dtvcc_screen.specs.Objects.{Stands}
use Rattle.dtvcc_screen.specs.Screens.{ScreenState}
use Rattle.dtvcc_screen.specs.Shown.{LooksSame}
use Rattle.dtvcc_services.specs.declared.members.Member.{Member}
use Rattle.dtvcc_services.specs.declared.services.Services.{Services}
use Rattle.dtvcc_services.specs.Filling.{is_filled}
use Rattle.dtvcc_services.specs.Numbers.{IsLowest, IsService}
use Rattle.dtvcc_services.specs.Passing.{NoneEndsBefore}

-- the events of each service, by its number
abbrev pub Events : Type 0
Events = ℕ → List Event

-- a service after its events
abbrev pub service_behind : Events → ℕ → Served
service_behind events service = served_after start (events service)

-- after its events of the frames before, and of the present frame
abbrev pub served_now : Events → Events → ℕ → Served
served_now before frame service = served_after start (before service ++ frame service)

-- its screen
abbrev pub screen_at : Served → ScreenState
screen_at s = s.core.screen

-- events led to where a service is, and its clock
pub record Serves (events : List Event) (now : Clock) (core : Core) : Type 0 where
  pub told : now ≡ (served_after start events).clock
  pub stands : Stands (served_after start events).core core

-- these events of the frames before, and these of the present frame, led each service to where it is
pub record LeadTo (before frame : Events) (members : List Member) (now : Clock) (next : ℕ) (touched : Bool) (filled : Option ℕ) : Type 0 where
  pub serves : (place : ℕ) (member : Member) → slice_get members place ≡ Some member
      → Serves (before (place + 1) ++ frame (place + 1)) now member.core
  pub waits : NoneEndsBefore next members
  pub same : touched ≡ false → (service : ℕ) → IsService service
      → LooksSame (screen_at (service_behind before service)) (screen_at (served_now before frame service))
  pub lowest : IsLowest (λ service. is_filled (service_behind before service) (frame service)) filled

abbrev pub Leads : Events → Events → Services → Type 0
Leads before frame services =
    LeadTo before frame services.members.items services.clock services.next services.touched services.filled

-- the frames that all services were told of
abbrev pub all_ticks : Services → ℕ
all_ticks services = services.clock.ticks
