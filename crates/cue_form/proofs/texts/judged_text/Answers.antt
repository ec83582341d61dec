use Rattle.std.proofs.Common.{◌≡◌, ◌+◌, ◌≤◌, ◌==◌, true, false, chars, length, sym, rules, arith}
use Rattle.std.specs.List.{list_all}
use Rattle.std.proofs.lemmas.Str.{chars_from_encodes}
use Rattle.cue_form.specs.Form.{cue_columns, is_coded}
use Rattle.cue_form.proofs.TextFacts.{text_good, text_not_coded, text_not_utf8}
use Rattle.cue_form.proofs.texts.judged_text.Goals as goal

pub returns-in_default : goal.returns-in_default
returns-in_default c = rw c.out_of_form.ensures (text_not_utf8 _ _ _ c.in_default.ensures.cases.0)

pub returns-then-not-are_coded : goal.returns-then-not-are_coded
returns-then-not-are_coded c =
    let same = c.in-Ok.ensures.cases.0 in
    let some : (length c.in-Ok.text.now == 0) ≡ false = sym (c.if-is_empty.ensures {u = tt}) in
    let coded : list_all (is_coded c.args.kind) (chars c.in-Ok.text.now) ≡ false = sym (c.if-not-are_coded.ensures {u = tt}) in
    text_not_coded _ _ _ c.in-Ok.ensures.cases.1 (rw same at some) (rw same at coded)

pub returns-in-Ok-collect : goal.returns-in-Ok-collect
returns-in-Ok-collect c =
    let same = c.in-Ok.ensures.cases.0 in
    let got : c.from_vec.result ≡ chars c.in-Ok.text.now = search (rules, chars_from_encodes) in
    let fits : c.args.col + length (chars c.in-Ok.text.now) ≤ cue_columns c.args.kind = omega arith in
    let some : (length c.in-Ok.text.now == 0) ≡ false = sym (c.if-is_empty.ensures {u = tt}) in
    let coded : list_all (is_coded c.args.kind) (chars c.in-Ok.text.now) ≡ true = sym (c.if-not-are_coded.ensures {u = tt}) in
    rw (got, same) (text_good _ _ _ c.in-Ok.ensures.cases.1 (rw same at some) (rw same at coded) (rw same at fits))
