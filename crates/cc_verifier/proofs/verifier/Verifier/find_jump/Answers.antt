use Rattle.std.proofs.Common.{◌∙◌, refl, sym}
use Rattle.cc_verifier.proofs.FindingLemmas.{goes_on, jump_first, jump_is, tried_one}
use Rattle.cc_verifier.proofs.verifier.Verifier.find_jump.Goals as goal

pub returns-then-seen-expected : goal.returns-then-seen-expected
returns-then-seen-expected c bytes earlier last had are was =
    jump_first c.args.self.now.list earlier last _ _
    (jump_is earlier last c.args.self.now.counter c.in-Some.former _ c.counter-seen.result was c.in-Some.is refl (c.counter-seen.ensures bytes earlier last had are) c.if-seen-expected.true)

pub returns-else-seen-expected : goal.returns-else-seen-expected
returns-else-seen-expected c bytes earlier last had are was =
    tried_one c.args.self.now.list earlier last
    (goes_on earlier last c.args.self.now.counter c.in-Some.former was c.in-Some.is (sym (c.counter-seen.ensures bytes earlier last had are) ∙ c.if-seen-expected.false))
