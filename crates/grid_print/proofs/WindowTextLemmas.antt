-- What is written of a text, step by step.
use Rattle.std.proofs.Common.{◌≡◌, ◌++◌, ℕ, List, [], ◌∷◌, ap, ◌∙◌, append_assoc}
use Rattle.std.proofs.lemmas.List.{append-nil}
use Rattle.std.specs.List.{flat_map}
use Rattle.cc_base.specs.Texts.{text}
use Rattle.dtvcc_windows.specs.Showing.{ShownWindow}
use Rattle.grid_print.specs.WindowRuns.{window_runs}
use Rattle.grid_print.specs.WindowTexts.{window_line, window_run_line, window_text}

-- the text of a window of its parts
pub window_joined : (before lines : List ℕ) (id : ℕ) (window : ShownWindow) → lines ≡ flat_map window_run_line (window_runs window)
    → before ++ window_line id window ++ lines ≡ before ++ window_text id window
unfolding window_text
window_joined before lines id window are =
    append_assoc before (window_line id window) lines ∙ ap (λ ls. before ++ (window_line id window ++ ls)) are

-- pieces that are added one by one make one text
pub join6 : (before p1 p2 p3 p4 p5 p6 : List ℕ) → before ++ p1 ++ p2 ++ p3 ++ p4 ++ p5 ++ p6 ≡ before ++ text (p1 ∷ p2 ∷ p3 ∷ p4 ∷ p5 ∷ p6 ∷ [])
join6 before p1 p2 p3 p4 p5 p6 = simp (append_assoc, append-nil)

pub join7 : (before p1 p2 p3 p4 p5 p6 p7 : List ℕ) → before ++ p1 ++ p2 ++ p3 ++ p4 ++ p5 ++ p6 ++ p7 ≡ before ++ text (p1 ∷ p2 ∷ p3 ∷ p4 ∷ p5 ∷ p6 ∷ p7 ∷ [])
join7 before p1 p2 p3 p4 p5 p6 p7 = simp (append_assoc, append-nil)

pub join8 : (before p1 p2 p3 p4 p5 p6 p7 p8 : List ℕ) → before ++ p1 ++ p2 ++ p3 ++ p4 ++ p5 ++ p6 ++ p7 ++ p8 ≡ before ++ text (p1 ∷ p2 ∷ p3 ∷ p4 ∷ p5 ∷ p6 ∷ p7 ∷ p8 ∷ [])
join8 before p1 p2 p3 p4 p5 p6 p7 p8 = simp (append_assoc, append-nil)
