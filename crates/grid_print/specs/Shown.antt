-- Believed: the library's answers stand on these definitions.
-- What was shown last.
use Rattle.std.specs.Prelude.{◌-◌}
use Rattle.line21_codes.specs.declared.channels.Chan.{Chan}
use Rattle.line21_codes.specs.declared.channels.Chan.TheVariants.{Cc1, Cc2, Cc3, Cc4}
use Rattle.line21_screen.specs.Grid.{Grid}
use Rattle.line21_screen.specs.Objects.{grid_in}
use Rattle.grid_print.specs.declared.shown.Shown.{Shown}
use Rattle.grid_print.specs.Kept.{seen_at}
use Rattle.grid_print.specs.Screens.{Screens}

-- the grid of a channel
abbrev pub last_grid : Shown → Chan → Grid
last_grid made Cc1 = grid_in made.cc1
last_grid made Cc2 = grid_in made.cc2
last_grid made Cc3 = grid_in made.cc3
last_grid made Cc4 = grid_in made.cc4

-- all screens
abbrev pub last_shown : Shown → Screens
last_shown made = record { grids = last_grid made; windows = λ service. seen_at made.services.items (service - 1) }
