-- Believed: the library's answers stand on these definitions.
-- What a viewer sees of a service: of each window what is shown of it (CTA-708-E, caption windows).
use Rattle.std.specs.Prelude.{◌≡◌, ℕ, Option}
use Rattle.dtvcc_windows.specs.Showing.{ShownWindow, shown}
use Rattle.dtvcc_screen.specs.Screens.{ScreenState}

-- what a viewer sees of the window of each id
abbrev pub grids : ScreenState → ℕ → Option ShownWindow
grids s id = shown (s.windows id)

-- the same is seen of each window
abbrev pub LooksSame : ScreenState → ScreenState → Type 0
LooksSame old new = (id : ℕ) → grids new id ≡ grids old id
