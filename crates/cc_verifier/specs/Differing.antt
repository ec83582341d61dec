-- Believed: the library's answers stand on these definitions.
-- Where a channel of line 21, or a service of DTVCC, shows something else than a cue list authors (CTA-608-E; 47 CFR 79.101; CTA-708-E,
-- caption windows).
use Rattle.std.specs.Prelude.{◌≡◌, ◌≢◌, ◌<◌, ℕ, List, Option}
use Rattle.line21_codes.specs.declared.channels.Chan.{Chan}
use Rattle.line21_screen.specs.Differences.{HasOther}
use Rattle.line21_screen.specs.Grid.{Grid}
use Rattle.cue_lists.specs.AuthoredGrid.{IsSettled, authored_grid}
use Rattle.cue_lists.specs.AuthoredServiceGrid.{authored_windows}
use Rattle.cue_types.specs.declared.cue.Cue.{Cue}
use Rattle.dtvcc_windows.specs.Showing.{ShownWindow}

-- at a frame that is settled for it a channel shows some place otherwise than it is authored
pub record ShowsOther (cues : List Cue) (frame : ℕ) (screens : Chan → Grid) (channel : Chan) : Type 0 where
  pub settled : IsSettled channel cues frame
  pub other : HasOther (screens channel) (authored_grid channel cues frame)

-- what is seen of the windows of services, by the service and the window's id
abbrev pub AllSeenWindows : Type 0
AllSeenWindows = ℕ → ℕ → Option ShownWindow

-- of a service a window, 0 to 7, is seen otherwise than it is authored; every frame is settled for a service
pub record ShowsOtherWindow (cues : List Cue) (frame : ℕ) (windows : AllSeenWindows) (service : ℕ) : Type 0 where
  pub id : ℕ
  pub id_to : id < 8
  pub other : windows service id ≢ authored_windows service cues frame id

-- each is seen as it is authored
abbrev pub ShowsItsWindows : List Cue → ℕ → AllSeenWindows → ℕ → Type 0
ShowsItsWindows cues frame windows service = (id : ℕ) → id < 8 → windows service id ≡ authored_windows service cues frame id
