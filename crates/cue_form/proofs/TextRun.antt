-- A run whose text is refused.
use Rattle.std.proofs.Common.{◌≡◌, ℕ, ◌+◌, ◌-◌, ◌==◌, ◌&&◌, true, nat_lt, nat_le, List, length, chars, Some, None, Ok, refl, ◌∙◌}
use Rattle.std.specs.List.{list_all}
use Rattle.std.specs.Str.{is_utf8}
use Rattle.cue_form.specs.Answers.{AnswersOffence}
use Rattle.cue_form.specs.Fields.{number_within}
use Rattle.cue_form.specs.Form.{cue_columns, first_row, is_coded, last_row, run_pen_field, suits_row}
use Rattle.cue_form.specs.Reading.{on_ok, run_of}
use Rattle.cue_form.specs.Records.{Record, field}
use Rattle.cue_form.specs.Texts.{run_text_of}
use Rattle.cue_types.specs.declared.cue.Kind.{Kind}
use Rattle.cue_types.specs.declared.cue.Pen.{Pen}
use Rattle.cue_types.specs.declared.cue.Run.{Run}
use Rattle.cue_form.specs.declared.offence.Offence.{Offence}
use Rattle.cue_form.specs.declared.offence.Offence.TheVariants as offence
use Rattle.cue_form.proofs.Passing.{on_test}

run_by_text : (k : Kind) (runs : List Run) (r : Record) (row col : ℕ) (p : Pen) → (length r == 5) ≡ true
    → number_within (first_row k) (last_row k) (field r 1) ≡ Some row → suits_row k runs row ≡ true
    → number_within 0 (cue_columns k - 1) (field r 2) ≡ Some col → run_pen_field k (field r 3) ≡ Some p
    → run_of k runs r ≡ on_ok (run_text_of k col (field r 4)) (λ text. Ok (record { row = row; col = col; pen = p; text = text; colors = None }))
run_by_text k runs r row col p count is_row suits is_col is_pen =
    rw (count, is_row, suits, is_col, is_pen) (
    on_test _ (is_utf8 (field r 4) && nat_lt 0 (length (field r 4))) (λ f. rw f refl) (λ t. rw t (
    on_test _ (list_all (is_coded k) (chars (field r 4))) (λ f. rw f refl) (λ t. rw t (
    on_test _ (nat_le (col + length (chars (field r 4))) (cue_columns k)) (λ f. rw f refl) (λ t. rw t refl))))))

pub run_refused : (k : Kind) (runs : List Run) (r : Record) (row col : ℕ) (p : Pen) (o : Offence) → (length r == 5) ≡ true
    → number_within (first_row k) (last_row k) (field r 1) ≡ Some row → suits_row k runs row ≡ true
    → number_within 0 (cue_columns k - 1) (field r 2) ≡ Some col → run_pen_field k (field r 3) ≡ Some p
    → AnswersOffence (run_text_of k col (field r 4)) o → AnswersOffence (run_of k runs r) o
run_refused k runs r row col p (offence.Memory error) count is_row suits is_col is_pen refused = tt
run_refused k runs r row col p (offence.Limit which) count is_row suits is_col is_pen refused =
    run_by_text k runs r row col p count is_row suits is_col is_pen ∙ rw refused refl
run_refused k runs r row col p (offence.At place why) count is_row suits is_col is_pen refused =
    run_by_text k runs r row col p count is_row suits is_col is_pen ∙ rw refused refl
