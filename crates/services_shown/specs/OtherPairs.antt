-- Between crates: the program's answer stands on none of these definitions.
-- Columns with the same service blocks and other pairs.
use Rattle.std.specs.Prelude.{◌≡◌, ℕ, ◌≤◌, is_some, take}
use Rattle.cc_base.specs.declared.rate.Rate.{Rate}
use Rattle.cc_receiver.specs.ReceivedServices.{received_windows}
use Rattle.frame_carrier.specs.Carrying.{column_packets}
use Rattle.frame_carrier.specs.Columns.{Columns}
use Rattle.cc_receiver.specs.Events.{service_events}
use Rattle.services_shown.specs.Shares.{AreSharesKept}
use Rattle.services_shown.specs.Sound.{HasFitBlocks}

-- the same blocks in each frame, and a pair of each field where the others have one
pub record HaveOtherPairs (columns others : Columns) : Type 0 where
  pub blocks : (frame : ℕ) → (others frame).blocks ≡ (columns frame).blocks
  pub one : (frame : ℕ) → is_some (others frame).one ≡ is_some (columns frame).one
  pub two : (frame : ℕ) → is_some (others frame).two ≡ is_some (columns frame).two

-- their blocks are fit; each service gets the same, so it keeps to the same share, and shows the same windows
pub record AreFitAlike (rate : Rate) (n : ℕ) (columns others : Columns) : Type 0 where
  pub fit : HasFitBlocks rate n others
  pub events : (service k : ℕ) → k ≤ n
      → service_events service (take k (column_packets rate others 0 n)) ≡ service_events service (take k (column_packets rate columns 0 n))
  pub shares : (share : ℕ → ℕ) → AreSharesKept rate share n (column_packets rate columns 0 n) → AreSharesKept rate share n (column_packets rate others 0 n)
  pub windows : (k : ℕ) → k ≤ n → (service id : ℕ)
      → received_windows (take k (column_packets rate others 0 n)) service id ≡ received_windows (take k (column_packets rate columns 0 n)) service id

abbrev pub OtherPairsAreFit : Type 0
OtherPairsAreFit = (rate : Rate) (n : ℕ) (columns others : Columns) → HaveOtherPairs columns others → HasFitBlocks rate n columns
    → AreFitAlike rate n columns others
