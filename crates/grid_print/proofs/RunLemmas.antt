-- Steps along a row.
use Rattle.std.proofs.Common.{◌≡◌, ℕ, ◌+◌, ◌++◌, List, [], ◌∷◌, Option, Some, None, drop, get_or, length, refl, sym, ap, ◌∙◌, add-one, zero-add, is_some, if◌then◌else◌}
use Rattle.std.proofs.lemmas.List.{append-nil, flat_map_more, length-append, map-id}
use Rattle.std.proofs.lemmas.List.Elements.{filter_map-append}
use Rattle.std.proofs.lemmas.List.FromFn.{map-range_with_len_more}
use Rattle.std.specs.Option.{option_map}
use Rattle.std.specs.List.{cons_option, filter_map, flat_map, range_with_len}
use Rattle.grid_print.specs.CellRuns.{Run, begun, front_text, run_at}
use Rattle.grid_print.specs.Writing.{Writing}

-- what stands on the left of a column of a row
abbrev pub left_of : {C : Type 0} → List (Option C) → ℕ → Option C
left_of cells col = get_or (None ∷ cells) col None

-- the run from a column of a row on, of which this is the first cell
abbrev pub run_from : {C : Type 0} → Writing C → ℕ → List (Option C) → ℕ → C → Run C
run_from w row cells col first = record { row = row; col = col; first = first; text = front_text w first (drop col cells) }

-- what stood at a column is on the left of the next one
pub left_next : {C : Type 0} (cells : List (Option C)) (i : ℕ) → get_or cells i None ≡ left_of cells (i + 1)
left_next cells i = rw add-one refl

-- one number more
pub range_push : (a n : ℕ) → range_with_len a (n + 1) ≡ range_with_len a n ++ (a + n) ∷ []
range_push a n = sym (map-id (range_with_len a (n + 1))) ∙ map-range_with_len_more (λ x. x) a n (a + n) refl ∙ ap (λ xs. xs ++ (a + n) ∷ []) (map-id (range_with_len a n))

-- one column more
runs_push : {C : Type 0} (w : Writing C) (row : ℕ) (cells : List (Option C)) (i : ℕ)
    → filter_map (run_at w row cells) (range_with_len 0 (i + 1)) ≡ filter_map (run_at w row cells) (range_with_len 0 i) ++ cons_option (run_at w row cells i) []
runs_push w row cells i =
    ap (filter_map (run_at w row cells)) (range_push 0 i) ∙ filter_map-append (run_at w row cells) (range_with_len 0 i) ((0 + i) ∷ [])
    ∙ ap (λ k. filter_map (run_at w row cells) (range_with_len 0 i) ++ cons_option (run_at w row cells k) []) (zero-add i)

-- one run, or none
length_one : {C : Type 0} (f : C → Run C) (o : Option C) → length (cons_option (option_map f o) []) ≡ (if is_some o then 1 else 0)
length_one f None = refl
length_one f (Some first) = refl

-- one column more, counted
pub runs_counted : {C : Type 0} (w : Writing C) (row : ℕ) (cells : List (Option C)) (i : ℕ)
    → length (filter_map (run_at w row cells) (range_with_len 0 i)) + (if is_some (begun w (left_of cells i) (get_or cells i None)) then 1 else 0)
    ≡ length (filter_map (run_at w row cells) (range_with_len 0 (i + 1)))
runs_counted w row cells i =
    ap (λ n. length (filter_map (run_at w row cells) (range_with_len 0 i)) + n) (sym (length_one (run_from w row cells i) (begun w (left_of cells i) (get_or cells i None))))
    ∙ sym (length-append (filter_map (run_at w row cells) (range_with_len 0 i)) (cons_option (run_at w row cells i) [])) ∙ ap length (sym (runs_push w row cells i))

-- where no run begins at a column, there is none more
no_run : {C : Type 0} (w : Writing C) (row : ℕ) (cells : List (Option C)) (i : ℕ) → begun w (left_of cells i) (get_or cells i None) ≡ None
    → filter_map (run_at w row cells) (range_with_len 0 (i + 1)) ≡ filter_map (run_at w row cells) (range_with_len 0 i)
no_run w row cells i none =
    runs_push w row cells i ∙ ap (λ o. filter_map (run_at w row cells) (range_with_len 0 i) ++ cons_option (option_map (run_from w row cells i) o) []) none
    ∙ append-nil (filter_map (run_at w row cells) (range_with_len 0 i))

-- where one begins, it is the next
one_run : {C : Type 0} (w : Writing C) (row : ℕ) (cells : List (Option C)) (i : ℕ) (first : C) → begun w (left_of cells i) (get_or cells i None) ≡ Some first
    → filter_map (run_at w row cells) (range_with_len 0 (i + 1)) ≡ filter_map (run_at w row cells) (range_with_len 0 i) ++ run_from w row cells i first ∷ []
one_run w row cells i first one =
    runs_push w row cells i ∙ ap (λ o. filter_map (run_at w row cells) (range_with_len 0 i) ++ cons_option (option_map (run_from w row cells i) o) []) one

-- the lines of the runs, one column on, where no run begins there
pub lines_kept : {C : Type 0} (w : Writing C) (line : Run C → List ℕ) (row : ℕ) (cells : List (Option C)) (i : ℕ) (before : List ℕ)
    → begun w (left_of cells i) (get_or cells i None) ≡ None
    → before ++ flat_map line (filter_map (run_at w row cells) (range_with_len 0 i)) ≡ before ++ flat_map line (filter_map (run_at w row cells) (range_with_len 0 (i + 1)))
lines_kept w line row cells i before none = ap (λ rs. before ++ flat_map line rs) (sym (no_run w row cells i none))

-- and where one does
pub lines_more : {C : Type 0} (w : Writing C) (line : Run C → List ℕ) (row : ℕ) (cells : List (Option C)) (i : ℕ) (before : List ℕ) (first : C)
    → begun w (left_of cells i) (get_or cells i None) ≡ Some first
    → before ++ flat_map line (filter_map (run_at w row cells) (range_with_len 0 i)) ++ line (run_from w row cells i first)
    ≡ before ++ flat_map line (filter_map (run_at w row cells) (range_with_len 0 (i + 1)))
lines_more w line row cells i before first one =
    flat_map_more line before (filter_map (run_at w row cells) (range_with_len 0 i)) (run_from w row cells i first)
    ∙ ap (λ rs. before ++ flat_map line rs) (sym (one_run w row cells i first one))
