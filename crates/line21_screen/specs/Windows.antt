-- Believed in part: the program's answer stands on some of these definitions.
-- The window of roll-up captions: this many rows, of which the lowest is the base row
-- (CTA-608-E, roll-up captions; 47 CFR 79.101, roll-up style).
use Rattle.std.specs.Prelude.{◌≡◌, ℕ, ◌+◌, ◌-◌, ◌&&◌, nat_le, nat_lt, Bool, false, if◌then◌else◌, None}
use Rattle.line21_screen.specs.Grid.{Grid}

-- the row is one of the rows that end at the base row
abbrev pub in_window : ℕ → ℕ → ℕ → Bool
in_window rows base row = nat_le 1 row && nat_le row base && nat_lt base (row + rows)

-- the rows that ended at one base row end at another; what then stands outside of the window is erased
abbrev pub moved : Grid → ℕ → ℕ → ℕ → Grid
moved g rows old new r c = if in_window rows new r then g (r + old - new) c else None

-- the rows of the window move up by one: the top one is lost, and the base row is empty
abbrev pub rolled : Grid → ℕ → ℕ → Grid
rolled g rows base = moved g (rows - 1) base (base - 1)

-- no cell stands outside of the window
abbrev pub IsWithin : Grid → ℕ → ℕ → Type 0
IsWithin g rows base = (r c : ℕ) → in_window rows base r ≡ false → g r c ≡ None
