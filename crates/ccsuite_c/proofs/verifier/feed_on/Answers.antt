use Rattle.std.proofs.Common.{◌≡◌, false}
use Rattle.std.specs.Prelude.{is_some}
use Rattle.caption_streams.specs.Verifications.{finding_in}
use Rattle.ccsuite_c.proofs.FedLemmas.{tells_none, tells_other}
use Rattle.ccsuite_c.proofs.verifier.feed_on.Goals as goal
use Rattle.ccsuite_c.proofs.verifier.feed_on.Goals.{else-code-eq0-via-then-code-eq0+else-is_some, else-code-eq0-via-else-code-eq0}

pub returns-else-code-eq0-clause-verifies : goal.returns-else-code-eq0-clause-verifies
returns-else-code-eq0-clause-verifies c = λ before had. record {
  answer = c.feed.result;
  verified = c.feed.ensures.verified before had;
  tells = elim c.else-code-eq0.branch [
    | else-code-eq0-via-then-code-eq0+else-is_some w ↦
        let none : is_some (finding_in c.feed.new.self) ≡ false = cc (w.finding.ensures, w.is_some.ensures, w.if-is_some.false) in
        tells_none c.feed.result _ c.tell-code.result c.tell-code.new.fed none c.tell-code.ensures
    | else-code-eq0-via-else-code-eq0 w ↦
        tells_other c.feed.result _ c.tell-code.result c.tell-code.new.fed w.if-code-eq0.false c.tell-code.ensures
  ];
}
