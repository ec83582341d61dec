-- The runs of rows of cells are the longest stretches of neighbouring cells of one row that are written alike.
use Rattle.std.proofs.Common.{◌≡◌, ℕ, zero, suc, ◌+◌, ◌<◌, ◌≤◌, ◌++◌, true, false, List, [], ◌∷◌, Option, Some, None, Contains, IsSome, drop, get_or, length, refl, sym, ap, subst, ◌∙◌, arith, inl, inr, All}
use Rattle.std.proofs.lemmas.Bool.{cases_Bool, cases_lt, true≢false}
use Rattle.std.proofs.lemmas.List.{get_or-drop, get_or_past}
use Rattle.std.proofs.lemmas.List.Elements.{All-append, All-cons, All-head, All-nil, All-tail, All-weaker, Contains-append_left, Contains-append_right}
use Rattle.std.specs.List.{cons_option, filter_map, flat_map, range_with_len}
use Rattle.std.specs.Option.{option_map}
use Rattle.grid_print.specs.CellRuns.{Run, begun, front_text, is_alike, row_runs, run_at}
use Rattle.grid_print.specs.RunsOf.{AreInOrder, AreRunsOf, IsBefore, IsPlaceOfRun, IsRun, Places}
use Rattle.grid_print.specs.Writing.{Writing}
use Rattle.grid_print.proofs.FrontLemmas.{front_cells, front_ends, front_more}
use Rattle.grid_print.proofs.RunLemmas.{left_next, left_of, run_from}

-- what holds of a test of whether cells are written alike
pub record IsWriting {C : Type 0} (w : Writing C) : Type 0 where
  pub itself : (a : C) → w.alike a a ≡ true
  pub after : (a b c : C) → w.alike a b ≡ true → w.alike c b ≡ true → w.alike a c ≡ true

-- the lists of the rows of places, of this many columns, this many from one on
pub record AreRows {C : Type 0} (p : Places C) (cells : ℕ → List (Option C)) (start count cols : ℕ) : Type 0 where
  pub long : (row : ℕ) → length (cells row) ≡ cols
  pub cell : (row col : ℕ) → col < cols → get_or (cells row) col None ≡ p.cell row col
  pub is_inside : (row col : ℕ) → start ≤ row → row < start + count → col < cols → p.inside row col ≡ true
  pub row_from : (row col : ℕ) → p.inside row col ≡ true → start ≤ row
  pub row_to : (row col : ℕ) → p.inside row col ≡ true → row < start + count
  pub col_to : (row col : ℕ) → p.inside row col ≡ true → col < cols

-- a run begins at a cell
record Begins {C : Type 0} (w : Writing C) (cells : List (Option C)) (col : ℕ) (first : C) : Type 0 where
  pub stands : get_or cells col None ≡ Some first
  pub alone : is_alike w first (left_of cells col) ≡ false

-- where the test says so
begins_where : {C : Type 0} (w : Writing C) (cells : List (Option C)) (col : ℕ) (here : Option C) (first : C) → get_or cells col None ≡ here
    → begun w (left_of cells col) here ≡ Some first → Begins w cells col first
begins_where w cells col None first is starts = absurd (cc)
begins_where w cells col (Some cell) first is starts = elim (cases_Bool (is_alike w cell (left_of cells col))) [
  | inl same ↦ absurd (let none = rw same at starts in cc)
  | inr alone ↦ let one : cell ≡ first = (let some = rw alone at starts in cc) in record {
    stands = is ∙ ap Some one;
    alone = ap (λ c. is_alike w c (left_of cells col)) (sym one) ∙ alone;
  }
]

-- a place of a row where a cell stands is in the row
in_the_row : {C : Type 0} (cells : List (Option C)) (col : ℕ) (cell : C) → get_or cells col None ≡ Some cell → col < length cells
in_the_row cells col cell is = elim (cases_lt col (length cells)) [
  | inl within ↦ within
  | inr past ↦ absurd (let none = get_or_past cells col None (omega (arith, past)) in cc)
]

-- a run that begins at a column is a run of the places
is_run : {C : Type 0} (w : Writing C) (laws : IsWriting w) (p : Places C) (cells : ℕ → List (Option C)) (start count cols : ℕ) (rows : AreRows p cells start count cols)
    (row col : ℕ) (first : C) → start ≤ row → row < start + count → Begins w (cells row) col first → IsRun w p (run_from w row (cells row) col first)
is_run w laws p cells start count cols rows row col first from to begins =
    let text : List ℕ = front_text w first (drop col (cells row)) in
    let long = rows.long row in
    let here = in_the_row (cells row) col first begins.stands in
    let front = front_more w first (cells row) col first here begins.stands (laws.itself first) in
    let at = λ (k : ℕ) (within : k < length text). front_cells w first (drop col (cells row)) k within in
    let stands = λ (k : ℕ) (within : k < length text). sym (get_or-drop col (cells row) k None) ∙ (at k within).1 in
    let in_row = λ (k : ℕ) (within : k < length text). in_the_row (cells row) (col + k) (at k within).0 (stands k within) in
    record {
      some = omega (arith, ap (λ (text : List ℕ). length text) front);
      first = sym (rows.cell row col (omega (arith, here, long))) ∙ begins.stands;
      within = λ k within. rows.is_inside row (col + k) from to (omega (arith, long, in_row k within));
      cells = λ k within. ((at k within).0, sym (rows.cell row (col + k) (omega (arith, long, in_row k within))) ∙ stands k within, (at k within).2, (at k within).3);
      begins = λ left is. ap (is_alike w first) (sym (rows.cell row left (omega (arith, here, long, is))) ∙ left_next (cells row) left ∙ ap (left_of (cells row)) is) ∙ begins.alone;
      ends = λ inside. ap (is_alike w first) (sym (rows.cell row (col + length text) (rows.col_to row _ inside)) ∙ sym (get_or-drop col (cells row) (length text) None))
          ∙ front_ends w first (drop col (cells row));
    }

-- the run that is found at a column begins there
mapped : {C : Type 0} (f : C → Run C) (o : Option C) (run : Run C) → option_map f o ≡ Some run → (first : C) × (o ≡ Some first) × (f first ≡ run)
mapped f None run is = absurd (cc)
mapped f (Some first) run is = (first, refl, let one : f first ≡ run = cc in one)

-- what holds of the next run, if there is one, and of the rest holds of all
kept_all : {C : Type 0} (P : Run C → Type 0) (o : Option (Run C)) (rs : List (Run C)) → ((run : Run C) → o ≡ Some run → P run) → All P rs → All P (cons_option o rs)
kept_all P None rs next rest = rest
kept_all P (Some run) rs next rest = All-cons P run rs (next run refl) rest

-- what holds of each run that begins at a column holds of the runs of a row
cols_all : {C : Type 0} (w : Writing C) (P : Run C → Type 0) (row : ℕ) (cells : List (Option C)) (col n : ℕ)
    → ((c : ℕ) (run : Run C) → col ≤ c → c < col + n → run_at w row cells c ≡ Some run → P run) → All P (filter_map (run_at w row cells) (range_with_len col n))
cols_all w P row cells col zero each = All-nil P
cols_all w P row cells col (suc n) each =
    kept_all P (run_at w row cells col) (filter_map (run_at w row cells) (range_with_len (col + 1) n)) (λ run is. each col run (omega arith) (omega arith) is)
    (cols_all w P row cells (col + 1) n (λ c run from to is. each c run (omega arith) (omega arith) is))

-- the runs of this many rows from one on, where `cells` are those of a row
abbrev pub rows_runs : {C : Type 0} → Writing C → (ℕ → List (Option C)) → ℕ → ℕ → List (Run C)
rows_runs w cells start count = flat_map (λ row. row_runs w row (cells row)) (range_with_len start count)

-- what holds of the runs of each row holds of the runs of all
rows_all : {C : Type 0} (w : Writing C) (P : Run C → Type 0) (cells : ℕ → List (Option C)) (a n : ℕ)
    → ((row : ℕ) → a ≤ row → row < a + n → All P (row_runs w row (cells row))) → All P (rows_runs w cells a n)
rows_all w P cells a zero each = All-nil P
rows_all w P cells a (suc n) each =
    All-append P (row_runs w a (cells a)) (rows_runs w cells (a + 1) n) (each a (omega arith) (omega arith))
    (rows_all w P cells (a + 1) n (λ row from to. each row (omega arith) (omega arith)))

-- each run of a row is one of the places
each_in_row : {C : Type 0} (w : Writing C) (laws : IsWriting w) (p : Places C) (cells : ℕ → List (Option C)) (start count cols : ℕ) (rows : AreRows p cells start count cols)
    (row : ℕ) → start ≤ row → row < start + count → All (IsRun w p) (row_runs w row (cells row))
unfolding row_runs
each_in_row w laws p cells start count cols rows row from to =
    cols_all w (IsRun w p) row (cells row) 0 (length (cells row)) (λ c run least most is.
    let (first, starts, same) = mapped (run_from w row (cells row) c) (begun w (left_of (cells row) c) (get_or (cells row) c None)) run is in
    subst (IsRun w p) same (is_run w laws p cells start count cols rows row c first from to (begins_where w (cells row) c (get_or (cells row) c None) first refl starts)))

-- where a run of the row has a column, whose cell is written as its first one
record Found {C : Type 0} (w : Writing C) (cells : List (Option C)) (col : ℕ) (cell : C) : Type 0 where
  pub begin : ℕ
  pub first : C
  pub starts : begun w (left_of cells begin) (get_or cells begin None) ≡ Some first
  pub alike : w.alike first cell ≡ true
  pub from : begin ≤ col
  pub to : col < begin + length (front_text w first (drop begin cells))

-- it begins there
begins_here : {C : Type 0} (w : Writing C) (laws : IsWriting w) (cells : List (Option C)) (col : ℕ) (cell : C) → col < length cells → get_or cells col None ≡ Some cell
    → is_alike w cell (left_of cells col) ≡ false → Found w cells col cell
begins_here w laws cells col cell within is alone =
    let front = front_more w cell cells col cell within is (laws.itself cell) in
    record {
      begin = col;
      first = cell;
      starts = rw (is, alone) refl;
      alike = laws.itself cell;
      from = omega arith;
      to = omega (arith, ap (λ (text : List ℕ). length text) front);
    }

-- or it goes on there
goes_on : {C : Type 0} (w : Writing C) (laws : IsWriting w) (cells : List (Option C)) (k : ℕ) (cell left : C) → get_or cells (suc k) None ≡ Some cell
    → w.alike cell left ≡ true → Found w cells k left → Found w cells (suc k) cell
goes_on w laws cells k cell left is same found =
    let alike : w.alike found.first cell ≡ true = laws.after found.first left cell found.alike same in
    record {
      begin = found.begin;
      first = found.first;
      starts = found.starts;
      alike = alike;
      from = let before = found.from in omega (arith, before);
      to = elim (cases_lt (suc k) (found.begin + length (front_text w found.first (drop found.begin cells)))) [
        | inl within ↦ within
        | inr past ↦ absurd (
            let ends : found.begin + length (front_text w found.first (drop found.begin cells)) ≡ suc k = omega (arith, past, found.to) in
            true≢false (sym alike ∙ ap (is_alike w found.first) (sym is ∙ ap (λ at. get_or cells at None) (sym ends)
            ∙ sym (get_or-drop found.begin cells (length (front_text w found.first (drop found.begin cells))) None))
            ∙ front_ends w found.first (drop found.begin cells)))
      ];
    }

-- a cell that is written alike
cell_there : {C : Type 0} (w : Writing C) (first : C) (o : Option C) → is_alike w first o ≡ true → (cell : C) × (o ≡ Some cell)
cell_there w first None has = absurd (true≢false (sym has))
cell_there w first (Some cell) has = (cell, refl)

-- each cell of a row is in a run
found_at : {C : Type 0} (w : Writing C) (laws : IsWriting w) (cells : List (Option C)) (col : ℕ) (cell : C) → col < length cells → get_or cells col None ≡ Some cell → Found w cells col cell
found_at w laws cells zero cell within is = begins_here w laws cells zero cell within is refl
found_at w laws cells (suc k) cell within is = elim (cases_Bool (is_alike w cell (get_or cells k None))) [
  | inl same ↦
      let (left, there) = cell_there w cell (get_or cells k None) same in
      goes_on w laws cells k cell left is (ap (is_alike w cell) (sym there) ∙ same) (found_at w laws cells k left (omega arith) there)
  | inr alone ↦ begins_here w laws cells (suc k) cell within is alone
]

-- what is among the rest is among all
behind_next : {C : Type 0} (o : Option (Run C)) (rs : List (Run C)) (run : Run C) → Contains rs run → Contains (cons_option o rs) run
behind_next None rs run among = among
behind_next (Some next) rs run among = Contains-append_right (next ∷ []) rs run among

-- what begins at a column is among the runs of the row
among_cols : {C : Type 0} (w : Writing C) (row : ℕ) (cells : List (Option C)) (col n k : ℕ) (run : Run C) → col ≤ k → k < col + n → run_at w row cells k ≡ Some run
    → Contains (filter_map (run_at w row cells) (range_with_len col n)) run
among_cols w row cells col zero k run from to is = absurd (omega arith)
among_cols w row cells col (suc n) k run from to is = elim (cases_lt col k) [
  | inl later ↦ behind_next (run_at w row cells col) (filter_map (run_at w row cells) (range_with_len (col + 1) n)) run (among_cols w row cells (col + 1) n k run (omega arith) (omega arith) is)
  | inr now ↦ let here : k ≡ col = omega arith in rw (ap (run_at w row cells) (sym here) ∙ is) (zero, omega arith, refl)
]

-- and of all rows
among_rows : {C : Type 0} (w : Writing C) (cells : ℕ → List (Option C)) (a n row : ℕ) (run : Run C) → a ≤ row → row < a + n → Contains (row_runs w row (cells row)) run
    → Contains (rows_runs w cells a n) run
among_rows w cells a zero row run from to among = absurd (omega arith)
among_rows w cells a (suc n) row run from to among = elim (cases_lt a row) [
  | inl later ↦ Contains-append_right (row_runs w a (cells a)) (rows_runs w cells (a + 1) n) run (among_rows w cells (a + 1) n row run (omega arith) (omega arith) among)
  | inr now ↦ let here : row ≡ a = omega arith in
      Contains-append_left (row_runs w a (cells a)) (rows_runs w cells (a + 1) n) run (subst (λ r. Contains (row_runs w r (cells r)) run) here among)
]

-- each cell of the places is in a run
in_a_run : {C : Type 0} (w : Writing C) (laws : IsWriting w) (p : Places C) (cells : ℕ → List (Option C)) (start count cols : ℕ) (rows : AreRows p cells start count cols)
    (row col : ℕ) (here : Option C) → p.inside row col ≡ true → p.cell row col ≡ here → IsSome here → (run : Run C) × Contains (rows_runs w cells start count) run × IsPlaceOfRun row col run
unfolding row_runs
in_a_run w laws p cells start count cols rows row col None inside is some = absurd (true≢false (sym some))
in_a_run w laws p cells start count cols rows row col (Some cell) inside is some =
    let in_col = rows.col_to row col inside in
    let long = rows.long row in
    let found = found_at w laws (cells row) col cell (omega (arith, in_col, long)) (rows.cell row col in_col ∙ is) in
    let within : found.begin < length (cells row) = omega (arith, found.from, in_col, long) in
    let run = run_from w row (cells row) found.begin found.first in
    let among = among_rows w cells start count row run (rows.row_from row col inside) (rows.row_to row col inside)
    (among_cols w row (cells row) 0 (length (cells row)) found.begin run (omega arith) (omega (arith, within)) (ap (option_map (run_from w row (cells row) found.begin)) found.starts)) in
    (run, among, record { in_row = refl; from = found.from; to = found.to })

-- runs in order, and more after them
AreInOrder-append : {C : Type 0} (xs ys : List (Run C)) → AreInOrder xs → AreInOrder ys → All (λ x. All (IsBefore x) ys) xs → AreInOrder (xs ++ ys)
AreInOrder-append [] ys first next before = next
AreInOrder-append (x ∷ xs) ys (here, first) next before =
    (All-append (IsBefore x) xs ys here (All-head (λ x. All (IsBefore x) ys) x xs before), AreInOrder-append xs ys first next (All-tail (λ x. All (IsBefore x) ys) x xs before))

kept_order : {C : Type 0} (o : Option (Run C)) (rs : List (Run C)) → ((run : Run C) → o ≡ Some run → All (IsBefore run) rs) → AreInOrder rs → AreInOrder (cons_option o rs)
kept_order None rs next rest = rest
kept_order (Some run) rs next rest = (next run refl, rest)

-- the runs of a row stand by column
cols_order : {C : Type 0} (w : Writing C) (row : ℕ) (cells : List (Option C)) (col n : ℕ) → AreInOrder (filter_map (run_at w row cells) (range_with_len col n))
cols_order w row cells col zero = tt
cols_order {C} w row cells col (suc n) =
    kept_order (run_at w row cells col) (filter_map (run_at w row cells) (range_with_len (col + 1) n)) (λ run is.
    let (one, _, same) = mapped (run_from w row cells col) (begun w (left_of cells col) (get_or cells col None)) run is in
    cols_all w (IsBefore run) row cells (col + 1) n (λ c later from to there.
    let (other, _, as_well) = mapped (run_from w row cells c) (begun w (left_of cells c) (get_or cells c None)) later there in
    inr (sym (ap (λ (r : Run C). r.row) same) ∙ ap (λ (r : Run C). r.row) as_well, omega (arith, ap (λ (r : Run C). r.col) same, ap (λ (r : Run C). r.col) as_well))))
    (cols_order w row cells (col + 1) n)

-- the row of each run of a row
row_of_each : {C : Type 0} (w : Writing C) (row : ℕ) (cells : List (Option C)) → All (λ run. run.row ≡ row) (row_runs w row cells)
unfolding row_runs
row_of_each {C} w row cells =
    cols_all w (λ run. run.row ≡ row) row cells 0 (length cells) (λ c run from to is.
    let (one, _, same) = mapped (run_from w row cells c) (begun w (left_of cells c) (get_or cells c None)) run is in
    sym (ap (λ (r : Run C). r.row) same))

-- the runs of a row are in order
row_order : {C : Type 0} (w : Writing C) (row : ℕ) (cells : List (Option C)) → AreInOrder (row_runs w row cells)
unfolding row_runs
row_order w row cells = cols_order w row cells 0 (length cells)

-- and so are the rows' runs
rows_order : {C : Type 0} (w : Writing C) (cells : ℕ → List (Option C)) (a n : ℕ) → AreInOrder (rows_runs w cells a n)
rows_order w cells a zero = tt
rows_order w cells a (suc n) =
    AreInOrder-append (row_runs w a (cells a)) (rows_runs w cells (a + 1) n) (row_order w a (cells a)) (rows_order w cells (a + 1) n)
    (All-weaker (λ run. run.row ≡ a) (λ run. All (IsBefore run) (rows_runs w cells (a + 1) n))
    (λ run is. rows_all w (IsBefore run) cells (a + 1) n (λ row from to.
    All-weaker (λ later. later.row ≡ row) (IsBefore run) (λ later there. inl (omega arith)) (row_runs w row (cells row)) (row_of_each w row (cells row))))
    (row_runs w a (cells a)) (row_of_each w a (cells a)))

-- the runs of rows are their longest stretches
pub are_runs_of : {C : Type 0} (w : Writing C) (laws : IsWriting w) (p : Places C) (cells : ℕ → List (Option C)) (start count cols : ℕ) → AreRows p cells start count cols
    → AreRunsOf w p (rows_runs w cells start count)
are_runs_of w laws p cells start count cols rows = record {
  each = rows_all w (IsRun w p) cells start count (λ row from to. each_in_row w laws p cells start count cols rows row from to);
  all = λ row col inside some. in_a_run w laws p cells start count cols rows row col (p.cell row col) inside refl some;
  order = rows_order w cells start count;
}
