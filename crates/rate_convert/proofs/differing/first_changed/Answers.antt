use Rattle.std.proofs.Common.{◌∙◌, ◌++◌, ◌∷◌, [], sym}
use Rattle.rate_convert.proofs.ServedLemmas.{neither}
use Rattle.rate_convert.proofs.differing.first_changed.Goals as goal

pub returns-then-moved : goal.returns-then-moved
returns-then-moved c = λ bytes earlier before others last had are served same none.
    c.first_differing.ensures bytes (earlier ++ last ∷ []) others had are served

pub returns-else-moved : goal.returns-else-moved
returns-else-moved c = λ bytes earlier before others last had are served same none service is id below.
    let w = neither c.args.touched c.is_touched.result c.if-moved.false in
    none w.0 service id is ∙ same service is id below ∙ sym (c.is_touched.ensures bytes earlier last had are w.1 service id is)
