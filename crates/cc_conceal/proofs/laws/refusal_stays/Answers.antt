use Rattle.cc_conceal.proofs.StayLemmas.{frames_stay, screens_stay}
use Rattle.cc_conceal.proofs.laws.refusal_stays.Goals as goal

pub returns-clause-frames : goal.returns-clause-frames
returns-clause-frames c = frames_stay

pub returns-clause-shown : goal.returns-clause-shown
returns-clause-shown c = screens_stay
