use Rattle.std.proofs.Common.{◌∙◌, ap, sym}
use Rattle.cc_base.specs.Rate.{rate_code}
use Rattle.rate_convert.proofs.SortedLemmas.{rate_misfit}
use Rattle.rate_convert.proofs.halver.sort_frame.Goals as goal

pub returns-in-F2997-clause-sorted : goal.returns-in-F2997-clause-sorted
returns-in-F2997-clause-sorted c = λ bytes earlier last had are.
    c.sort_triplets.ensures.sorted bytes earlier last had are (sym (c.in-F2997.ensures bytes earlier last had are))

pub returns-in_default-clause-sorted : goal.returns-in_default-clause-sorted
returns-in_default-clause-sorted c = λ bytes earlier last had are.
    let seen = c.rate.ensures bytes earlier last had are in
    rate_misfit earlier last c.code.result (λ is. c.in_default.not-F2997 (seen ∙ is), c.code.ensures ∙ ap rate_code seen)
