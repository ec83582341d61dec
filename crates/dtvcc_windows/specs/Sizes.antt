-- Believed in part: the program's answer stands on some of these definitions.
-- The size of a caption window: this many rows and columns (CTA-708-E, DefineWindow: row count and
-- column count).
use Rattle.std.specs.Prelude.{◌≡◌, ℕ, ◌&&◌, nat_lt, Bool, false, if◌then◌else◌, None}
use Rattle.dtvcc_windows.specs.Places.{Cells}

-- the row and the column lie in a size
abbrev pub in_size : ℕ → ℕ → ℕ → ℕ → Bool
in_size rows cols row col = nat_lt row rows && nat_lt col cols

-- the cells that lie in a size
abbrev pub cells_in : ℕ → ℕ → Cells → Cells
cells_in rows cols cells r c = if in_size rows cols r c then cells r c else None

-- no cell stands outside of the size
abbrev pub IsWithin : ℕ → ℕ → Cells → Type 0
IsWithin rows cols cells = (row col : ℕ) → in_size rows cols row col ≡ false → cells row col ≡ None
