-- The last of the runs.
use Rattle.std.proofs.Common.{◌≡◌, ◌-◌, ◌<◌, false, suc, List, [], ◌∷◌, length, refl, arith}
use Rattle.std.specs.Prelude.{is_none, slice_index_or}
use Rattle.cue_form.specs.Form.{last_is_plain}
use Rattle.cue_types.specs.declared.cue.Run.{Run}

pub last_plain : (runs : List Run) (run : Run) → 0 < length runs → run ≡ slice_index_or runs (length runs - 1) run → is_none run.colors ≡ last_is_plain runs
last_plain [] run some is = absurd (omega arith)
last_plain (x ∷ []) run some is = rw is refl
last_plain (x ∷ (y ∷ ys)) run some is =
    let place : length (x ∷ (y ∷ ys)) - 1 ≡ suc (length (y ∷ ys) - 1) = omega arith in
    last_plain (y ∷ ys) run (omega arith) (rw place at is)

pub none_plain : (runs : List Run) → length runs ≡ 0 → false ≡ last_is_plain runs
none_plain [] none = refl
none_plain (x ∷ runs) none = absurd (omega arith)
