use Rattle.std.proofs.Common.{◌<◌, ◌++◌, ◌∙◌, ap, ltb-true, sym}
use Rattle.std.proofs.lemmas.Str.{encode_ascii}
use Rattle.text_output.proofs.PageLemmas.{written_same}
use Rattle.text_output.proofs.gathered.Gathered.write_character.Goals as goal

pub returns-then-is_ascii : goal.returns-then-is_ascii
returns-then-is_ascii g c = λ start faults before has.
    let below : c.args.ch < 128 = ltb-true c.args.ch 128 (sym c.is_ascii.ensures ∙ c.if-is_ascii.true) in
    written_same start faults _ _ _ (ap (λ l. before ++ l) (sym (encode_ascii c.args.ch below))) (c.write_byte.ensures start faults before has)
