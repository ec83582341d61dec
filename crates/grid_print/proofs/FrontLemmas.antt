-- The front of a row that is written as its first cell: its characters are the characters of the cells there, and after it stands no cell
-- that is written alike.
use Rattle.std.proofs.Common.{◌≡◌, ℕ, zero, suc, ◌+◌, ◌<◌, ◌++◌, true, false, List, [], ◌∷◌, Option, Some, None, drop, encode_utf8_all, get_or, length, take, refl, sym, ap, ◌∙◌, add_comm, add-one, arith, inl, inr}
use Rattle.std.proofs.lemmas.Bool.{cases_Bool}
use Rattle.std.proofs.lemmas.List.{append-nil, at_drop_more}
use Rattle.std.specs.List.{prefix_len}
use Rattle.text_output.specs.Pages.{HasWrittenText, Page}
use Rattle.text_output.proofs.PageLemmas.{written_same}
use Rattle.grid_print.specs.CellRuns.{front_text, is_alike}
use Rattle.grid_print.specs.Writing.{Writing}

-- one element more of a list
take_one_more : {X : Type 0} (n : ℕ) (x : X) (xs : List X) → take (1 + n) (x ∷ xs) ≡ x ∷ take n xs
take_one_more n x xs = rw (add_comm 1 n, add-one) refl

-- a cell that is written alike at the front
front_same : {C : Type 0} (w : Writing C) (first cell : C) (cells : List (Option C)) → w.alike first cell ≡ true
    → front_text w first (Some cell ∷ cells) ≡ w.ch cell ∷ front_text w first cells
front_same w first cell cells same = rw (same, take_one_more (prefix_len (is_alike w first) cells) (Some cell) cells) refl

-- another one
front_other : {C : Type 0} (w : Writing C) (first : C) (here : Option C) (cells : List (Option C)) → is_alike w first here ≡ false
    → front_text w first (here ∷ cells) ≡ []
front_other w first here cells other = rw other refl

-- the front ends at a place without a cell that is written alike
pub front_stop : {C : Type 0} (w : Writing C) (first : C) (cells : List (Option C)) (i : ℕ) → i < length cells → is_alike w first (get_or cells i None) ≡ false
    → front_text w first (drop i cells) ≡ []
front_stop w first cells i within other = at_drop_more (front_text w first) cells i None within ∙ front_other w first (get_or cells i None) (drop (i + 1) cells) other

-- and continues with one
pub front_more : {C : Type 0} (w : Writing C) (first : C) (cells : List (Option C)) (i : ℕ) (cell : C) → i < length cells → get_or cells i None ≡ Some cell
    → w.alike first cell ≡ true → front_text w first (drop i cells) ≡ w.ch cell ∷ front_text w first (drop (i + 1) cells)
front_more w first cells i cell within is same =
    at_drop_more (front_text w first) cells i None within ∙ ap (λ x. front_text w first (x ∷ drop (i + 1) cells)) is
    ∙ front_same w first cell (drop (i + 1) cells) same

-- what is added is all that there is, where nothing is to come
pub front_done : {C : Type 0} (w : Writing C) (start : Option (List ℕ)) (faults : ℕ) (first : C) (cells : List (Option C)) (i : ℕ) (before done : List ℕ) (now : Page)
    → front_text w first (drop i cells) ≡ []
    → HasWrittenText start faults (before ++ done) now → done ++ encode_utf8_all (front_text w first (drop i cells)) ≡ encode_utf8_all (front_text w first cells)
    → HasWrittenText start faults (before ++ encode_utf8_all (front_text w first cells)) now
front_done w start faults first cells i before done now none holds is =
    written_same start faults _ _ now (ap (λ t. before ++ t) (sym (append-nil done) ∙ ap (λ t. done ++ encode_utf8_all t) (sym none) ∙ is)) holds

-- each character of the front is the character of the cell there, which is written alike
pub front_cells : {C : Type 0} (w : Writing C) (first : C) (cells : List (Option C)) (k : ℕ) → k < length (front_text w first cells)
    → (cell : C) × (get_or cells k None ≡ Some cell) × (w.alike first cell ≡ true) × (w.ch cell ≡ get_or (front_text w first cells) k 0)
front_cells w first [] k within = absurd (omega arith)
front_cells w first (None ∷ cells) k within = absurd (omega arith)
front_cells w first (Some cell ∷ cells) zero within =
    elim (cases_Bool (w.alike first cell)) [
      | inl same ↦ (cell, refl, same, ap (λ (text : List ℕ). get_or text 0 0) (sym (front_same w first cell cells same)))
      | inr other ↦ absurd (omega (arith, within, ap (λ (text : List ℕ). length text) (front_other w first (Some cell) cells other)))
    ]
front_cells w first (Some cell ∷ cells) (suc k) within =
    elim (cases_Bool (w.alike first cell)) [
      | inl same ↦
          let (there, is, alike, ch) = front_cells w first cells k (omega (arith, within, ap (λ (text : List ℕ). length text) (front_same w first cell cells same))) in
          (there, is, alike, ch ∙ ap (λ (text : List ℕ). get_or text (suc k) 0) (sym (front_same w first cell cells same)))
      | inr other ↦ absurd (omega (arith, within, ap (λ (text : List ℕ). length text) (front_other w first (Some cell) cells other)))
    ]

-- after the front stands no cell that is written alike
pub front_ends : {C : Type 0} (w : Writing C) (first : C) (cells : List (Option C)) → is_alike w first (get_or cells (length (front_text w first cells)) None) ≡ false
front_ends w first [] = refl
front_ends w first (None ∷ cells) = refl
front_ends w first (Some cell ∷ cells) =
    elim (cases_Bool (w.alike first cell)) [
      | inl same ↦ rw (front_same w first cell cells same) (front_ends w first cells)
      | inr other ↦ rw (front_other w first (Some cell) cells other) other
    ]
