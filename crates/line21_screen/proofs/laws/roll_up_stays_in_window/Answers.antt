use Rattle.line21_screen.proofs.WindowLemmas.{stays_in_window}
use Rattle.line21_screen.proofs.laws.roll_up_stays_in_window.Goals as goal

pub returns : goal.returns
returns c = stays_in_window
