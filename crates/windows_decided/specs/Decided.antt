-- Between crates: the program's answer stands on none of these definitions.
-- Whether two windows are seen alike is decided (CTA-708-E, caption windows).
use Rattle.std.specs.Prelude.{◌≡◌, ◌⊎◌, ℕ, List, Option}
use Rattle.dtvcc_screen.specs.Meaning.{Event, served_after, start}
use Rattle.dtvcc_screen.specs.Shown.{grids}
use Rattle.dtvcc_windows.specs.Showing.{ShownWindow}

-- it holds, or it doesn't
abbrev pub Decided : Type 0 → Type 0
Decided P = P ⊎ (P → ⊥)

-- what is seen of the window of an id after events
abbrev pub seen_after : List Event → ℕ → Option ShownWindow
seen_after events id = grids (served_after start events).core.screen id

-- after any two streams of events it is seen alike, or it isn't
abbrev pub WindowsAreDecided : Type 0
WindowsAreDecided = (events others : List Event) (id : ℕ) → Decided (seen_after events id ≡ seen_after others id)
