use Rattle.line21_screen.proofs.LawLemmas.{doubled_acts_once}
use Rattle.line21_screen.proofs.laws.doubled_codes_act_once.Goals as goal

pub returns : goal.returns
returns c = doubled_acts_once
