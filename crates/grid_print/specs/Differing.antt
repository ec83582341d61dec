-- Between crates: the program's answer stands on none of these definitions.
-- Which channels differ.
use Rattle.std.specs.Prelude.{◌≡◌, Bool, false}
use Rattle.line21_codes.specs.declared.channels.Chan.{Chan}
use Rattle.line21_codes.specs.declared.channels.Chan.TheVariants.{Cc1, Cc2, Cc3, Cc4}
use Rattle.line21_screen.specs.Differences.{grid_differs}
use Rattle.line21_screen.specs.Grid.{Grid}
use Rattle.grid_print.specs.declared.differing.Differing.{Differing}

-- whether a channel does
abbrev pub differs_on : Differing → Chan → Bool
differs_on told Cc1 = told.cc1
differs_on told Cc2 = told.cc2
differs_on told Cc3 = told.cc3
differs_on told Cc4 = told.cc4

-- it is told whether a grid differs from another one; where not, it is the same
pub record TellsDifference (old new : Grid) (told : Bool) : Type 0 where
  pub differs : told ≡ grid_differs old new
  pub same : told ≡ false → old ≡ new

-- and so of the grid of each channel
abbrev pub TellsChannels : (Chan → Grid) → (Chan → Grid) → Differing → Type 0
TellsChannels old new told = (chan : Chan) → TellsDifference (old chan) (new chan) (differs_on told chan)
