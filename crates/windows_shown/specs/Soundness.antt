-- Between crates: the program's answer stands on none of these definitions.
-- What makes a service's lane sound: its events and loads are whole commands of which none delays or resets, its delays lie
-- apart from its other events, and no more is loaded in a delay than a receiver holds (CTA-708-E, Delay).
use Rattle.std.specs.Prelude.{◌≡◌, ℕ, ◌+◌, ◌-◌, ◌<◌, ◌≤◌, Bool, true, false, List, [], Option, Some, None}
use Rattle.std.specs.List.{AllByRecursion}
use Rattle.cc_base.specs.Rate.{delay_frames_of}
use Rattle.cc_base.specs.Steps.{front_from}
use Rattle.dtvcc_codes.specs.declared.commands.Command.{Command}
use Rattle.dtvcc_codes.specs.declared.commands.Command.TheVariants.{Dly, Dlc, Rst}
use Rattle.dtvcc_codes.specs.Reading.{completions, open_after}
use Rattle.dtvcc_author.specs.declared.frame_events.Delay.{Delay}
use Rattle.windows_shown.specs.ServiceLanes.{Lane, spent}

-- the command neither delays nor ends a delay nor resets
abbrev pub is_plain : Command → Bool
is_plain (Dly tenths) = false
is_plain Dlc = false
is_plain Rst = false
is_plain _ = true

-- nor does what a byte completed
abbrev pub IsPlainOrNone : Option Command → Type 0
IsPlainOrNone None = Unit {0}
IsPlainOrNone (Some command) = is_plain command ≡ true

-- the bytes are whole commands, all of them plain
pub record ArePlain (bytes : List ℕ) : Type 0 where
  pub plain : AllByRecursion IsPlainOrNone (completions [] bytes)
  pub whole : front_from open_after [] bytes ≡ []

-- a delay lasts its tenths of a second, and some frame
pub record IsLasting (lane : Lane) (start : ℕ) (delay : Delay) : Type 0 where
  pub some : 0 < delay.tenths
  pub ends_is : delay.ends ≡ start + delay_frames_of lane.rate delay.tenths
  pub after : start < delay.ends

-- nothing but loads comes in a frame
pub record HasOnlyLoads (lane : Lane) (frame : ℕ) : Type 0 where
  pub events : lane.events frame ≡ []
  pub delay : lane.delay frame ≡ None

pub record IsSoundLane (lane : Lane) : Type 0 where
  pub events : (frame : ℕ) → ArePlain (lane.events frame)
  pub loads : (frame : ℕ) → ArePlain (lane.loads frame)
  pub lasting : (start : ℕ) (delay : Delay) → lane.delay start ≡ Some delay → IsLasting lane start delay
  -- strictly within a delay nothing but loads comes
  pub quiet : (start frame : ℕ) (delay : Delay) → lane.delay start ≡ Some delay → start < frame → frame < delay.ends → HasOnlyLoads lane frame
  -- the loads from a delay's start up to its end have at most 125 bytes
  pub budget : (start : ℕ) (delay : Delay) → lane.delay start ≡ Some delay → spent lane start (delay.ends - start) ≤ 125
