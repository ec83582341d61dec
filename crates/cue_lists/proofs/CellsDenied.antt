-- The test of runs that write one cell is passed exactly where some two of them do.
use Rattle.std.proofs.Common.{◌≡◌, ℕ, suc, ◌<◌, ◌≤◌, ◌==◌, ◌&&◌, max, min, true, List, [], ◌∷◌, refl, arith, leb-true, le-leb, ltb-true, lt-ltb, eqb-true, eq-eqb}
use Rattle.std.specs.Prelude.{nat_le, nat_lt, All}
use Rattle.std.specs.List.{AllPairs, list_any}
use Rattle.std.proofs.lemmas.Bool.{and_from, and_parts}
use Rattle.std.proofs.lemmas.List.Elements.{All-cons, All-head, All-nil, All-tail}
use Rattle.std.proofs.lemmas.List.Kept.{AllPairs-cons}
use Rattle.cue_types.specs.Cells.{covers, end_column, first_column, have_shared_cell, share_cell}
use Rattle.cue_types.specs.declared.cue.Run.{Run}
use Rattle.cue_lists.proofs.Denials.{Denies, denied_both, denied_like}

-- no cell is written by both
abbrev pub WriteNone : Run → Run → Type 0
WriteNone a b = (row column : ℕ) → covers a row column ≡ true → covers b row column ≡ true → ⊥

pair_denied : (a b : Run) → Denies (share_cell a b) (WriteNone a b)
pair_denied a b = record {
  holds = λ no row column ours theirs.
      let one = and_parts (row == a.row) (nat_le (first_column a) column && nat_lt column (end_column a)) ours in
      let two = and_parts (row == b.row) (nat_le (first_column b) column && nat_lt column (end_column b)) theirs in
      let ours_at = and_parts (nat_le (first_column a) column) (nat_lt column (end_column a)) one.1 in
      let theirs_at = and_parts (nat_le (first_column b) column) (nat_lt column (end_column b)) two.1 in
      let from_a : first_column a ≤ column = leb-true (first_column a) column ours_at.0 in
      let from_b : first_column b ≤ column = leb-true (first_column b) column theirs_at.0 in
      let to_a : column < end_column a = ltb-true column (end_column a) ours_at.1 in
      let to_b : column < end_column b = ltb-true column (end_column b) theirs_at.1 in
      let in_row : row ≡ a.row = eqb-true row a.row one.0 in
      let same : a.row ≡ b.row = let too : row ≡ b.row = eqb-true row b.row two.0 in cc in
      let shared = and_from (a.row == b.row) (nat_lt (max (first_column a) (first_column b)) (min (end_column a) (end_column b)))
      (eq-eqb a.row b.row same) (lt-ltb (max (first_column a) (first_column b)) (min (end_column a) (end_column b)) (omega arith)) in
      cc;
  fails = λ yes' none.
      let parts = and_parts (a.row == b.row) (nat_lt (max (first_column a) (first_column b)) (min (end_column a) (end_column b))) yes' in
      let column : ℕ = max (first_column a) (first_column b) in
      let room : max (first_column a) (first_column b) < min (end_column a) (end_column b) =
      ltb-true (max (first_column a) (first_column b)) (min (end_column a) (end_column b)) parts.1 in
      none a.row (max (first_column a) (first_column b))
      (covered a a.row (max (first_column a) (first_column b)) refl (omega arith) (omega arith))
      (covered b a.row (max (first_column a) (first_column b)) (eqb-true a.row b.row parts.0) (omega arith) (omega arith));
}
  where
    covered : (run : Run) (row column : ℕ) → row ≡ run.row → first_column run ≤ column → column < end_column run → covers run row column ≡ true
    covered run row column same from to =
        and_from (row == run.row) (nat_le (first_column run) column && nat_lt column (end_column run)) (eq-eqb row run.row same)
        (and_from (nat_le (first_column run) column) (nat_lt column (end_column run)) (le-leb (first_column run) column from) (lt-ltb column (end_column run) to))

-- a run with each of others
others_denied : (run : Run) (runs : List Run) → Denies (list_any (share_cell run) runs) (All (WriteNone run) runs)
others_denied run [] = record { holds = λ no. All-nil (WriteNone run); fails = λ yes' all. cc }
others_denied run (other ∷ runs) =
    denied_like (list_any (share_cell run) (other ∷ runs))
    (denied_both (share_cell run other) (list_any (share_cell run) runs) (pair_denied run other) (others_denied run runs))
    (λ p. All-cons (WriteNone run) other runs p.0 p.1)
    (λ all. (All-head (WriteNone run) other runs all, All-tail (WriteNone run) other runs all))

-- the first of some pairs, and the others
pairs_head : (run : Run) (runs : List Run) → AllPairs WriteNone (run ∷ runs) → All (WriteNone run) runs
pairs_head run runs pairs = λ j d within. pairs 0 (suc j) d (omega arith) (omega arith)

pairs_tail : (run : Run) (runs : List Run) → AllPairs WriteNone (run ∷ runs) → AllPairs WriteNone runs
pairs_tail run runs pairs = λ i j d below within. pairs (suc i) (suc j) d (omega arith) (omega arith)

pub cells_denied : (runs : List Run) → Denies (have_shared_cell runs) (AllPairs WriteNone runs)
cells_denied [] = record { holds = λ no i j d below within. absurd (omega arith); fails = λ yes' all. cc }
cells_denied (run ∷ runs) =
    denied_like (have_shared_cell (run ∷ runs))
    (denied_both (list_any (share_cell run) runs) (have_shared_cell runs) (others_denied run runs) (cells_denied runs))
    (λ p. AllPairs-cons WriteNone run runs p.0 p.1)
    (λ pairs. (pairs_head run runs pairs, pairs_tail run runs pairs))
