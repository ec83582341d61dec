-- Between crates: the program's answer stands on none of these definitions.
-- What a service of DTVCC is sent frame by frame: in each frame first what hides and shows windows, then perhaps a delay with
-- what it puts off, then what loads windows (CTA-708-E, DeleteWindows, DisplayWindows and Delay).
use Rattle.std.specs.Prelude.{◌≡◌, ℕ, zero, suc, ◌+◌, ◌<◌, ◌≤◌, List, ◌∷◌, ◌++◌, Option, Some, length, map}
use Rattle.cc_base.specs.declared.rate.Rate.{Rate}
use Rattle.dtvcc_author.specs.EventBytes.{delay_bytes}
use Rattle.dtvcc_author.specs.declared.frame_events.Delay.{Delay}
use Rattle.dtvcc_screen.specs.Meaning.{Event, Tick, Byte, Served, served_after, start}

-- the rate of the frames, and for each frame the bytes of its events, the delay that starts there, and the bytes of its loads
pub record Lane : Type 0 where
  pub rate : Rate
  pub events : ℕ → List ℕ
  pub delay : ℕ → Option Delay
  pub loads : ℕ → List ℕ

-- the bytes of a frame
abbrev pub lane_frame_bytes : Lane → ℕ → List ℕ
lane_frame_bytes lane frame = lane.events frame ++ (delay_bytes (lane.delay frame) ++ lane.loads frame)

-- what the service gets in a frame, and as much of it as stands before a delay
abbrev pub lane_frame_events : Lane → ℕ → List Event
lane_frame_events lane frame = Tick lane.rate ∷ map Byte (lane_frame_bytes lane frame)

abbrev pub opening_events : Lane → ℕ → List Event
opening_events lane frame = Tick lane.rate ∷ map Byte (lane.events frame)

-- the service before a frame, when all frames before it have come
abbrev pub served : Lane → ℕ → Served
served lane zero = start
served lane (suc frame) = served_after (served lane frame) (lane_frame_events lane frame)

-- the bytes of the loads of this many frames from one on
abbrev pub spent : Lane → ℕ → ℕ → ℕ
spent lane from zero = 0
spent lane from (suc count) = spent lane from count + length (lane.loads (from + count))

-- the delay that starts in one frame is on before another
pub record IsInDelay (lane : Lane) (start : ℕ) (delay : Delay) (frame : ℕ) : Type 0 where
  pub starts : lane.delay start ≡ Some delay
  pub from : start < frame
  pub to : frame ≤ delay.ends

-- no delay is
abbrev pub IsOutside : Lane → ℕ → Type 0
IsOutside lane frame = (start : ℕ) (delay : Delay) → IsInDelay lane start delay frame → ⊥
