use Rattle.std.proofs.Common.{◌∷◌, ◌++◌, []}
use Rattle.cc_verifier.proofs.ServiceLemmas.{none_is_first}
use Rattle.cc_verifier.proofs.service_checks.ServiceChecks.find.Goals as goal

pub returns-clause-first : goal.returns-clause-first
returns-clause-first c bytes earlier last had are knows = c.first_other-first.ensures bytes (earlier ++ last ∷ []) had are

pub returns-clause-knows : goal.returns-clause-knows
returns-clause-knows c bytes earlier last had are knows none agrees =
    none_is_first c.args.cues.now c.args.frame _ c.first_other-first.result none (c.first_other-first.ensures bytes (earlier ++ last ∷ []) had are)
