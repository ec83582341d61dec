use Rattle.dtvcc_screen.proofs.HiddenLemmas.{hidden_shows_nothing}
use Rattle.dtvcc_screen.proofs.laws.text_in_a_hidden_window_shows_nothing.Goals as goal

pub returns : goal.returns
returns c = hidden_shows_nothing
