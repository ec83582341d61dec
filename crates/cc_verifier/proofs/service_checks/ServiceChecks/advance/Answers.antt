use Rattle.std.proofs.Common.{◌∙◌, sym}
use Rattle.cc_verifier.proofs.ServiceLemmas.{same_windows}
use Rattle.cc_verifier.proofs.service_checks.ServiceChecks.advance.Goals as goal

pub returns-else-advance-clause-knows : goal.returns-else-advance-clause-knows
returns-else-advance-clause-knows c former windows next at knows agrees service is id within =
    knows agrees service is id within
    ∙ sym (same_windows service id former c.args.frame c.args.cues.now is within c.requires.formed (c.advance.ensures.same former c.requires.turn next at c.if-advance.false))
