use Rattle.std.proofs.Common.{◌≡◌, ◌+◌, ◌≤◌, ◌==◌, true, false, length, rules, arith}
use Rattle.std.proofs.lemmas.Grind.{common_steps}
use Rattle.std.specs.List.{list_all}
use Rattle.cue_form.specs.Form.{cue_columns}
use Rattle.cue_form.specs.Texts.{is_plain_byte}
use Rattle.cue_form.proofs.PlainTexts.{plain_good}
use Rattle.cue_form.proofs.texts.read_text.Goals as goal

pub returns-then-are_plain : goal.returns-then-are_plain
returns-then-are_plain c =
    let plain : list_all is_plain_byte c.args.text.now ≡ true = first_of (search rules, grind (arith, common_steps)) in
    let some : (length c.args.text.now == 0) ≡ false = first_of (search rules, grind (arith, common_steps)) in
    let fits : c.args.col + length c.args.text.now ≤ cue_columns c.args.kind = omega arith in
    rw (plain_good c.args.kind c.args.col c.args.text.now plain some fits) c.plain_text.ensures
