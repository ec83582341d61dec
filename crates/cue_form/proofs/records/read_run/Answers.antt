use Rattle.std.proofs.Common.{◌≡◌, ◌-◌, ◌==◌, true, length, Err, Some, rules, arith}
use Rattle.std.proofs.lemmas.Grind.{common_steps}
use Rattle.csv.specs.Records.{fields_of}
use Rattle.cue_form.specs.Answers.{AnswersOffence}
use Rattle.cue_form.specs.Fields.{number_within}
use Rattle.cue_form.specs.Form.{cue_columns, first_row, last_row, run_pen_field, suits_row}
use Rattle.cue_form.specs.Records.{field}
use Rattle.cue_form.specs.Texts.{run_text_of}
use Rattle.cue_form.proofs.TextRun.{run_refused}
use Rattle.cue_form.proofs.records.read_run.Goals as goal

-- a run whose text is refused
pub returns-in_err-text : goal.returns-in_err-text
returns-in_err-text c =
    let count : (length (fields_of c.args.row.now) == 5) ≡ true = first_of (search rules, grind (arith, common_steps)) in
    let row : number_within (first_row c.args.cue.now.kind) (last_row c.args.cue.now.kind) (field (fields_of c.args.row.now) 1) ≡ Some c.in-Some.value = first_of (search rules, grind (arith, common_steps)) in
    let suits : suits_row c.args.cue.now.kind c.args.cue.now.runs c.in-Some.value ≡ true = first_of (search rules, grind (arith, common_steps)) in
    let col : number_within 0 (cue_columns c.args.cue.now.kind - 1) (field (fields_of c.args.row.now) 2) ≡ Some c.in-Some-read_within.value = first_of (search rules, grind (arith, common_steps)) in
    let pen : run_pen_field c.args.cue.now.kind (field (fields_of c.args.row.now) 3) ≡ Some c.in-Some-read_run_pen.value = first_of (search rules, grind (arith, common_steps)) in
    let refused : AnswersOffence (run_text_of c.args.cue.now.kind c.in-Some-read_within.value (field (fields_of c.args.row.now) 4)) c.in_err-text.field-0.0 = first_of (search rules, grind (arith, common_steps)) in
    let answer : c.from_residual.result ≡ Err c.in_err-text.field-0.0 = search rules in
    rw answer (run_refused c.args.cue.now.kind c.args.cue.now.runs (fields_of c.args.row.now) c.in-Some.value c.in-Some-read_within.value c.in-Some-read_run_pen.value c.in_err-text.field-0.0
    count row suits col pen refused)
