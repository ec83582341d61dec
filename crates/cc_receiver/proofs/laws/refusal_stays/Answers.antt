use Rattle.cc_receiver.proofs.StayLemmas.{screens_stay, windows_stay}
use Rattle.cc_receiver.proofs.laws.refusal_stays.Goals as goal

pub returns-clause-shown : goal.returns-clause-shown
returns-clause-shown c = screens_stay

pub returns-clause-windows : goal.returns-clause-windows
returns-clause-windows c = windows_stay
