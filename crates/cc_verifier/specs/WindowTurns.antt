-- Believed: the library's answers stand on these definitions.
-- The cues of a caption window are shown one after another (CTA-708-E, caption windows).
use Rattle.std.specs.Prelude.{◌≡◌, ◌<◌, ℕ, true, List, [], ◌∷◌, ⊤}
use Rattle.std.specs.List.{AllByRecursion}
use Rattle.cue_types.specs.Channels.{uses_window}
use Rattle.cue_types.specs.declared.cue.Cue.{Cue}

-- another cue, if it has the window, is shown later
abbrev pub IsLater : ℕ → ℕ → Cue → Cue → Type 0
IsLater service id cue other = uses_window service id other.kind ≡ true → cue.show < other.show

-- each cue of the window is shown before its later cues
abbrev pub AreInTurn : ℕ → ℕ → List Cue → Type 0
AreInTurn service id [] = ⊤
AreInTurn service id (cue ∷ later) =
    (uses_window service id cue.kind ≡ true → AllByRecursion (IsLater service id cue) later) × AreInTurn service id later

-- so are the cues of each window
abbrev pub AreAllInTurn : List Cue → Type 0
AreAllInTurn cues = (service id : ℕ) → AreInTurn service id cues
