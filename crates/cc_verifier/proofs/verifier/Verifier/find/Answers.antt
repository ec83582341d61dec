use Rattle.cc_verifier.proofs.FindingLemmas.{filled_first, tried_buffers}
use Rattle.cc_verifier.proofs.verifier.Verifier.find.Goals as goal

pub returns-in-Some-clause-finds : goal.returns-in-Some-clause-finds
returns-in-Some-clause-finds c bytes earlier last had are at on = c.in-Some.ensures bytes earlier last had are on.counter

pub returns-in-Some-filled-clause-finds : goal.returns-in-Some-filled-clause-finds
returns-in-Some-filled-clause-finds c bytes earlier last had are at on =
    filled_first c.args.self.now.list earlier last c.in-Some-filled.service (c.in_default.ensures bytes earlier last had are on.counter)
    (c.in-Some-filled.ensures bytes earlier last had are)

pub returns-clause-finds : goal.returns-clause-finds
returns-clause-finds c bytes earlier last had are at on =
    c.find_on_screens.ensures.finds bytes earlier last had are at on
    (tried_buffers c.args.self.now.list earlier last (c.in_default.ensures bytes earlier last had are on.counter) (c.in_default-filled.ensures bytes earlier last had are))
