-- The last of the runs is given colours of its own.
use Rattle.std.proofs.Common.{◌≡◌, ℕ, ◌-◌, ◌<◌, suc, List, [], ◌∷◌, length, Some, ap, arith}
use Rattle.std.specs.Prelude.{slice_index_or, slice_set}
use Rattle.dtvcc_codes.specs.declared.pens.PenColors.{PenColors}
use Rattle.cue_types.specs.Coloured.{coloured}
use Rattle.cue_types.specs.declared.cue.Run.{Run}

pub set_last : (colours : PenColors) (runs : List Run) (run : Run) → 0 < length runs → run ≡ slice_index_or runs (length runs - 1) run
    → slice_set runs (length runs - 1) (record run { colors = Some colours }) ≡ coloured colours runs
set_last colours [] run some is = absurd (omega arith)
set_last colours (x ∷ []) run some is = ap (λ (r : Run). record r { colors = Some colours } ∷ []) is
set_last colours (x ∷ (y ∷ ys)) run some is =
    let place : length (x ∷ (y ∷ ys)) - 1 ≡ suc (length (y ∷ ys) - 1) = omega arith in
    let rest = set_last colours (y ∷ ys) run (omega arith) (rw place at is) in
    rw place (ap (λ rs. x ∷ rs) rest)

-- the same where the number of runs is known by another name
pub set_at_last : (colours : PenColors) (runs : List Run) (count : ℕ) (run : Run) → count ≡ length runs → 0 < count → run ≡ slice_index_or runs (count - 1) run
    → slice_set runs (count - 1) (record run { colors = Some colours }) ≡ coloured colours runs
set_at_last colours runs count run all some is =
    let last : run ≡ slice_index_or runs (length runs - 1) run = rw all at is in
    rw all (set_last colours runs run (rw all at some) last)
