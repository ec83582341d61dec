-- Between crates: the program's answer stands on none of these definitions.
-- What stands at the places of a window, row by row, after a roll of its rows.
use Rattle.std.specs.Prelude.{◌≡◌, ℕ, ◌+◌, ◌<◌, List, Option, None, slice_index_or}
use Rattle.std.specs.List.{AllWithin}
use Rattle.dtvcc_windows.specs.declared.cells.DCell.{DCell}

-- each place has what stood one row of 64 below it, and the last row has no cell
pub record HasRaised (was now : List (Option DCell)) : Type 0 where
  pub moved : (k : ℕ) (d : Option DCell) → k < 960 → slice_index_or now k d ≡ slice_index_or was (k + 64) d
  pub last : AllWithin (λ cell. cell ≡ None) now 960 1024
