-- Believed: the library's answers stand on these definitions.
-- Which channels and services are shown otherwise, as bits.
use Rattle.std.specs.Prelude.{◌≡◌, ℕ, ◌^◌, Bool, List, if◌then◌else◌, sum_by}
use Rattle.line21_codes.specs.declared.channels.Chan.{Chan}
use Rattle.line21_codes.specs.declared.channels.Chan.TheVariants.{Cc1, Cc2, Cc3, Cc4}
use Rattle.line21_screen.specs.Differences.{grid_differs}
use Rattle.grid_print.specs.GridTexts.{all_services, channels, service_differs}
use Rattle.grid_print.specs.Screens.{Screens}
use Rattle.grid_print.specs.declared.changed.Changed.{Changed}

-- the bit of a channel, and of a service
abbrev pub channel_bit : Chan → ℕ
channel_bit Cc1 = 1
channel_bit Cc2 = 2
channel_bit Cc3 = 4
channel_bit Cc4 = 8

abbrev pub service_bit : ℕ → ℕ
service_bit service = 2 ^ service

-- the bits of those that changed
abbrev pub bits : {A : Type 0} → (A → Bool) → (A → ℕ) → List A → ℕ
bits changed bit all = sum_by (λ one. if changed one then bit one else 0) all

-- which channels and services of a screen are shown otherwise than on another
pub record HaveChanged (was now : Screens) (told : Changed) : Type 0 where
  pub channels : told.channels ≡ bits (λ chan. grid_differs (was.grids chan) (now.grids chan)) channel_bit channels
  pub services : told.services ≡ bits (λ service. service_differs (was.windows service) (now.windows service)) service_bit all_services
