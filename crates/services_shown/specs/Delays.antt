-- Believed: the program's answer stands on these definitions.
-- That the delays of a cue list are sent (CTA-708-E, Delay and DisplayWindows): in the frame in which the delay of a window cue
-- starts, its service is sent Delay and, next, the DisplayWindows that it puts off; in the frame of SHOW nothing that it is sent
-- shows the window. What it is sent goes by its bytes alone: by their cut into commands.
use Rattle.std.specs.Prelude.{◌≡◌, ℕ, ◌-◌, ◌^◌, ◌<◌, Bool, false, List, [], ◌∷◌, ◌++◌, All, Contains}
use Rattle.cc_base.specs.declared.rate.Rate.{Rate}
use Rattle.cc_base.specs.Rate.{delay_frames_of}
use Rattle.line21_shown.specs.Listing.{Listing}
use Rattle.line21_shown.specs.Cue.{Cue}
use Rattle.line21_shown.specs.Kind.TheVariants.{Win}
use Rattle.line21_shown.specs.WinCue.{WinCue}
use Rattle.line21_shown.specs.Lane.TheVariants.{Service}
use Rattle.dtvcc_codes.specs.Cut.{IsCut}
use Rattle.dtvcc_codes.specs.declared.commands.Command.{Command}
use Rattle.dtvcc_codes.specs.declared.commands.Command.TheVariants.{Dly, Dsw}
use Rattle.dtvcc_screen.specs.Commands.{is_named}
use Rattle.frame_carrier.specs.Planned.{Placement, service_bytes}

-- the command is DisplayWindows, and names the window
abbrev pub shows : ℕ → Command → Bool
shows id (Dsw windows) = is_named windows id
shows id _ = false

-- the delay of a cue in a window is sent, where its service is sent these bytes in each frame
pub record IsDelaySent (rate : Rate) (window : WinCue) (cue : Cue) (sent : ℕ → List ℕ) : Type 0 where
  -- in each frame: whole commands, so that each is cut from the first byte of a frame
  pub whole : (frame : ℕ) → (commands : List Command) × IsCut commands [] (sent frame)
  -- where it starts: Delay with its tenths of a second and, next, DisplayWindows with the bit of the window alone
  pub starts : (before : List Command) × (behind : List Command)
      × IsCut (before ++ Dly window.delay ∷ Dsw (2 ^ window.id) ∷ behind) [] (sent (cue.show - delay_frames_of rate window.delay))
  -- at SHOW: no DisplayWindows that names the window
  pub shows_none : (commands : List Command) × IsCut commands [] (sent cue.show) × All (λ command. shows window.id command ≡ false) commands

-- so is the delay of each window cue of a list that has one
abbrev pub AreDelaysSent : Listing → Placement → Type 0
AreDelaysSent list placed = (cue : Cue) (window : WinCue) → Contains list.cues cue → cue.kind ≡ Win window → 0 < window.delay
    → IsDelaySent list.rate window cue (service_bytes list window.service (placed (Service window.service)))
