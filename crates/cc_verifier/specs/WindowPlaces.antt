-- Believed in part: the library's answers stand on some of these definitions.
-- Where a caption window stands in the cues of a list at a frame.
use Rattle.std.specs.Prelude.{◌≡◌, ◌<◌, ◌≤◌, ℕ, true, false, List, length, slice_get, Option, Some, None, IfSome}
use Rattle.std.specs.Borrow.{Bor}
use Rattle.cue_types.specs.Channels.{uses_window}
use Rattle.cue_lists.specs.AuthoredServiceGrid.{authored_windows, cue_window, is_before}
use Rattle.cue_types.specs.declared.cue.Cue.{Cue}
use Rattle.dtvcc_windows.specs.Showing.{ShownWindow}

-- a window of a list: services 1 to 6 have 8 each
pub record IsWindowId (service id : ℕ) : Type 0 where
  pub from : 1 ≤ service
  pub to : service ≤ 6
  pub id_to : id < 8

-- a cue isn't shown in the window at a frame or later: it has another window, or its HIDE has come
abbrev pub IsOver : ℕ → ℕ → ℕ → Cue → Type 0
IsOver service id frame cue = uses_window service id cue.kind ≡ true → is_before frame cue.hide ≡ false

-- a cue of the window whose HIDE is to come
pub record IsToHide (service id frame : ℕ) (cue : Cue) : Type 0 where
  pub has : uses_window service id cue.kind ≡ true
  pub before : is_before frame cue.hide ≡ true

-- all cues before a place are over
pub record HasPassed (service id : ℕ) (cues : List Cue) (frame place : ℕ) : Type 0 where
  pub within : place ≤ length cues
  pub over : (k : ℕ) → k < place → IfSome (slice_get cues k) (IsOver service id frame)

-- and the one there is to be hidden, if there is one
pub record StandsAtPlace (service id : ℕ) (cues : List Cue) (frame place : ℕ) : Type 0 where
  pub passed : HasPassed service id cues frame place
  pub next : IfSome (slice_get cues place) (IsToHide service id frame)

-- after a frame a cue isn't shown or hidden before another
pub record IsQuiet (frame until : ℕ) (cue : Cue) : Type 0 where
  pub show : frame < cue.show → until ≤ cue.show
  pub hide : IfSome cue.hide (λ hide. until ≤ hide)

-- the window stands at the place, where nothing happens before a frame
pub record StandsUntil (service id : ℕ) (cues : List Cue) (frame until place : ℕ) : Type 0 where
  pub stands : StandsAtPlace service id cues frame place
  pub quiet : IfSome (slice_get cues place) (IsQuiet frame until)

-- the window of a cue as it is seen, if there is one
abbrev pub seen_cue : Option (Bor Cue) → Option ShownWindow
seen_cue None = None
seen_cue (Some cue) = cue_window cue.now.kind cue.now.runs

-- a window is to show this cue, or none
abbrev pub IsAuthoredBy : List Cue → ℕ → ℕ → ℕ → Option (Bor Cue) → Type 0
IsAuthoredBy cues frame service id cue = authored_windows service cues frame id ≡ seen_cue cue

-- each window is to show the same at two frames
abbrev pub SameWindows : List Cue → ℕ → ℕ → Type 0
SameWindows cues former frame = (service id : ℕ) → IsWindowId service id → authored_windows service cues frame id ≡ authored_windows service cues former id
