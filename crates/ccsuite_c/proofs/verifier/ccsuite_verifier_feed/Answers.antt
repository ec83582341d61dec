use Rattle.std.proofs.Common.{subst, sym}
use Rattle.std.specs.Prelude.{Option}
use Rattle.ccsuite_c.specs.Verifiers.{VerifiesAnswer}
use Rattle.ccsuite_c.specs.declared.state.State.{State}
use Rattle.ccsuite_c.proofs.verifier.ccsuite_verifier_feed.Goals as goal

pub returns-in-Some-clause-verifies : goal.returns-in-Some-clause-verifies
returns-in-Some-clause-verifies c = λ v before is had.
    subst (λ (s : Option State). VerifiesAnswer before c.args.words.now v c.feed-code.result c.feed-code.new.fed s) (sym c.of.ensures)
    (c.feed-code.ensures.verifies v before (cc (c.in-Some.ensures.taken)) had)
