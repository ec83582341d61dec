-- What is seen of a window that a call gives.
use Rattle.std.proofs.Common.{◌≡◌, ◌∙◌, Option, None, Some, ap, sym}
use Rattle.std.specs.Prelude.{MatchOption}
use Rattle.dtvcc_windows.specs.Showing.{ShownWindow, shown}
use Rattle.dtvcc_windows.specs.Windows.{WindowState}

pub seen_of_window : (A : Type 0) (state : A → Option WindowState) (result : Option A) (w : Option WindowState) (seen : Option ShownWindow) → seen ≡ shown w
    → MatchOption result (w ≡ None) (λ (window : A). state window ≡ w)
    → MatchOption result (seen ≡ None) (λ (window : A). seen ≡ shown (state window))
seen_of_window A state None w seen is none = is ∙ ap shown none
seen_of_window A state (Some window) w seen is same = is ∙ ap shown (sym same)
