use Rattle.std.proofs.Common.{◌∙◌, ap, ◌++◌}
use Rattle.text_output.proofs.PageLemmas.{written_same}
use Rattle.text_output.proofs.gathered.Gathered.write_encoded.Goals as goal

pub returns : goal.returns
returns g c start faults before has =
    written_same start faults _ _ _ (ap (λ l. before ++ l) (c.as_bytes.ensures.value ∙ c.encode_utf8.ensures.value)) (c.write.ensures start faults before has)
