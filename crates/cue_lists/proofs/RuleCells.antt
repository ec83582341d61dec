-- Cells that runs write, as bits of rows.
use Rattle.std.proofs.Common.{◌≡◌, ℕ, ◌+◌, ◌-◌, ◌*◌, ◌%◌, ◌^◌, ◌<◌, ◌≤◌, min, max, Bool, true, false, if◌then◌else◌, not, ◌||◌, List, [], ◌∷◌, length, get_or, set, drop, zero, suc, ◌⊎◌, inl, inr, add-one, drop-cons, refl, sym, ap, ◌∙◌, arith}
use Rattle.std.specs.List.{list_any}
use Rattle.std.specs.Int.{bit_at}
use Rattle.std.specs.Prelude.{bit_and, bit_or, nat_lt, ◌==◌, All, replicate}
use Rattle.std.proofs.Math.Pow.{pow_mono}
use Rattle.std.proofs.Math.Bool.{or-false}
use Rattle.std.proofs.lemmas.Bool.{cases_lt}
use Rattle.std.proofs.lemmas.Nat.{one_shl}
use Rattle.std.proofs.lemmas.List.{at_drop_all, get_or-set_same, get_or-set_other}
use Rattle.std.proofs.lemmas.List.Folds.{list_any_none}
use Rattle.std.proofs.lemmas.Bool.Decides.{eqb_tells, leb_tells}
use Rattle.std.proofs.lemmas.Nat.Bits.{bit_at_and, bit_at_or, bit_at-zero, same_from_bits, bit_at_mask_inside, bit_at_mask_below, bit_at_mask_above}
use Rattle.cue_types.specs.declared.cue.Run.{Run}
use Rattle.cue_types.specs.Cells.{has_lead, first_column, end_column, share_cell, have_shared_cell}

-- a run's first column is no further right than its text
pub first_before_end : (run : Run) → first_column run ≤ end_column run
first_before_end run = elim (has_lead run) as (λ b. (if b then run.col - 1 else run.col) ≤ run.col + length run.text)
    [ true ↦ omega arith | false ↦ omega arith ]

-- the columns from lo up to hi, a bit each
abbrev pub mask : ℕ → ℕ → ℕ
mask lo hi = 2 ^ hi - 2 ^ lo

-- the columns of a run
abbrev pub run_mask : Run → ℕ
run_mask run = mask (first_column run) (end_column run)

-- no bit is in both
abbrev pub IsApart : ℕ → ℕ → Type 0
IsApart x y = (i : ℕ) → min (bit_at x i) (bit_at y i) ≡ 0

and_apart : (x y : ℕ) → IsApart x y → bit_and x y ≡ 0
and_apart x y apart = same_from_bits _ _ (λ i. bit_at_and x y i ∙ apart i ∙ sym (bit_at-zero i))

apart_and : (x y : ℕ) → bit_and x y ≡ 0 → IsApart x y
apart_and x y none i = sym (bit_at_and x y i) ∙ ap (λ n. bit_at n i) none ∙ bit_at-zero i

-- with the bits of both x and y: apart from z exactly where each is
apart_or : (x y z : ℕ) → IsApart x z → IsApart y z → IsApart (bit_or x y) z
apart_or x y z p q i = let e = p i in let f = q i in rw bit_at_or (omega (arith, p i, q i))

or_apart_left : (x y z : ℕ) → IsApart (bit_or x y) z → IsApart x z
or_apart_left x y z p i = let e = rw bit_at_or at (p i) in omega (arith, e)

or_apart_right : (x y z : ℕ) → IsApart (bit_or x y) z → IsApart y z
or_apart_right x y z p i = let e = rw bit_at_or at (p i) in omega (arith, e)

-- a bit of the columns from lo up to hi is 1 inside, and else 0
mask_bit : (lo hi i : ℕ) → ((lo ≤ i) × (i < hi) × (bit_at (mask lo hi) i ≡ 1)) ⊎ (((i < lo) ⊎ (hi ≤ i)) × (bit_at (mask lo hi) i ≡ 0))
mask_bit lo hi i = elim (cases_lt i lo) [
  | inl below ↦ inr (inl below, bit_at_mask_below lo hi i below)
  | inr from ↦ elim (cases_lt i hi) [
    | inl inside ↦ inl (from, inside, bit_at_mask_inside lo hi i from inside)
    | inr above ↦ inr (inr above, bit_at_mask_above lo hi i above)
  ]
]

-- columns without a common one are apart
masks_apart : (a z b y : ℕ) → min z y ≤ max a b → IsApart (mask a z) (mask b y)
masks_apart a z b y none i = elim (mask_bit a z i) [
  | inr out ↦ omega (arith, out.1)
  | inl inside ↦ elim (mask_bit b y i) [
    | inr out ↦ omega (arith, out.1)
    | inl too ↦ absurd (omega (arith, inside.0, inside.1, too.0, too.1))
  ]
]

-- columns with a common one aren't
masks_meet : (a z b y : ℕ) → max a b < min z y → IsApart (mask a z) (mask b y) → ⊥
masks_meet a z b y some apart =
    let left : bit_at (mask a z) (max a b) ≡ 1 = bit_at_mask_inside a z (max a b) (omega arith) (omega arith) in
    let right : bit_at (mask b y) (max a b) ≡ 1 = bit_at_mask_inside b y (max a b) (omega arith) (omega arith) in
    omega (arith, apart (max a b), left, right)

-- x and y have a common bit
abbrev pub meet : ℕ → ℕ → Bool
meet x y = not (bit_and x y == 0)

apart_meet : (x y : ℕ) → IsApart x y → meet x y ≡ false
apart_meet x y apart = rw (and_apart x y apart) refl

meet_true : (x y : ℕ) → (IsApart x y → ⊥) → meet x y ≡ true
meet_true x y together = elim (eqb_tells (bit_and x y) 0) [
  | inl none ↦ absurd (together (apart_and x y none.1))
  | inr some ↦ ap not some.0
]

-- either two numbers have a common bit, or none
meet_tells : (x y : ℕ) → ((meet x y ≡ true) × (IsApart x y → ⊥)) ⊎ ((meet x y ≡ false) × IsApart x y)
meet_tells x y = elim (eqb_tells (bit_and x y) 0) [
  | inl none ↦ inr (ap not none.0, apart_and x y none.1)
  | inr some ↦ inl (ap not some.0, λ apart. some.1 (and_apart x y apart))
]

-- the bits of x and y together meet z where one of them does
meet-or : (x y z : ℕ) → meet (bit_or x y) z ≡ (meet x z || meet y z)
meet-or x y z = elim (meet_tells x z) [
  | inl yes' ↦ rw yes'.0 (meet_true _ _ (λ apart. yes'.1 (or_apart_left x y z apart)))
  | inr none ↦ rw none.0 (elim (meet_tells y z) [
    | inl yes' ↦ rw yes'.0 (meet_true _ _ (λ apart. yes'.1 (or_apart_right x y z apart)))
    | inr too ↦ rw too.0 (apart_meet _ _ (apart_or x y z none.1 too.1))
  ])
]

-- columns meet where the later start is before the earlier end
meet-mask : (a z b y : ℕ) → meet (mask a z) (mask b y) ≡ nat_lt (max a b) (min z y)
meet-mask a z b y = elim (leb_tells (suc (max a b)) (min z y)) [
  | inl some ↦ rw some.0 (meet_true _ _ (masks_meet a z b y some.1))
  | inr none ↦ rw none.0 (apart_meet _ _ (masks_apart a z b y (omega (arith, none.1))))
]

-- a cell of the run is written already, where each row has a bit for each written column
abbrev pub touches : List ℕ → Run → Bool
touches written run = meet (get_or written run.row 0) (run_mask run)

-- the rows after a run was written
abbrev pub with_run : List ℕ → Run → List ℕ
with_run written run = set written run.row (bit_or (get_or written run.row 0) (run_mask run))

-- after one more run, a run touches what was written before, or that one
touches_more : (written : List ℕ) (a b : Run) → a.row < length written
    → touches (with_run written a) b ≡ (touches written b || share_cell a b)
touches_more written a b within = elim (eqb_tells a.row b.row) [
  | inl one ↦
      let here : get_or (with_run written a) b.row 0 ≡ bit_or (get_or written b.row 0) (run_mask a) =
      rw (← one.1) (get_or-set_same written a.row _ 0 within) in
      rw (one.0, here, meet-or) (rw (meet-mask (first_column a) (end_column a) (first_column b) (end_column b)) refl)
  | inr two ↦
      let there : get_or (with_run written a) b.row 0 ≡ get_or written b.row 0 = get_or-set_other written a.row b.row _ 0 (λ e. two.1 (sym e)) in
      rw (two.0, there) (sym (or-false _))
]

-- and so for a list of runs
any_more : (written : List ℕ) (a : Run) (runs : List Run) → a.row < length written
    → list_any (touches (with_run written a)) runs ≡ (list_any (touches written) runs || list_any (share_cell a) runs)
any_more written a [] within = refl
any_more written a (b ∷ runs) within =
    rw (touches_more written a b within, any_more written a runs within)
    (swap_or (touches written b) (share_cell a b) (list_any (touches written) runs) (list_any (share_cell a) runs))
  where
    swap_or : (p q r s : Bool) → ((p || q) || (r || s)) ≡ ((p || r) || (q || s))
    swap_or true q r s = refl
    swap_or false true true s = refl
    swap_or false true false s = refl
    swap_or false false r s = refl

-- whether runs that are left touch what was written, or each other
abbrev pub meet_left : List ℕ → List Run → Bool
meet_left written runs = list_any (touches written) runs || have_shared_cell runs

-- the next run is apart from what was written: it is written too
pub meet_left_more : (written : List ℕ) (run : Run) (runs : List Run) → run.row < length written
    → touches written run ≡ false → meet_left written (run ∷ runs) ≡ meet_left (with_run written run) runs
meet_left_more written run runs within apart =
    rw (apart, any_more written run runs within)
    (regroup (list_any (touches written) runs) (list_any (share_cell run) runs) (have_shared_cell runs))
  where
    regroup : (p q r : Bool) → (p || (q || r)) ≡ ((p || q) || r)
    regroup true q r = refl
    regroup false q r = refl

-- the next run touches what was written
pub meet_left_touched : (written : List ℕ) (run : Run) (runs : List Run) → touches written run ≡ true
    → meet_left written (run ∷ runs) ≡ true
meet_left_touched written run runs touched = rw touched refl

-- rows without a written column
abbrev pub AreBlank : List ℕ → Type 0
AreBlank written = (row : ℕ) → get_or written row 0 ≡ 0

-- nothing is touched before the first run
pub meet_left_start : (written : List ℕ) (runs : List Run) → AreBlank written
    → meet_left written runs ≡ have_shared_cell runs
meet_left_start written runs blank = rw (list_any_none (touches written) runs untouched) refl
  where
    apart : (n : ℕ) → meet 0 n ≡ false
    apart n = apart_meet 0 n (λ i. let none : bit_at 0 i ≡ 0 = bit_at-zero i in omega (arith, none))

    untouched : All (λ run. touches written run ≡ false) runs
    untouched k d within = rw (blank (get_or runs k d).row) (apart (run_mask (get_or runs k d)))

-- sixteen rows without a written column
pub sixteen_blank : AreBlank (replicate 16 0)
sixteen_blank = zero_row 16
  where
    zero_row : (n row : ℕ) → get_or (replicate n (zero)) row 0 ≡ zero
    zero_row zero row = refl
    zero_row (suc n) zero = refl
    zero_row (suc n) (suc row) = zero_row n row

-- a 1 that is shifted further is greater
pub shifted_order : (a z : ℕ) → a ≤ z → z < 64 → (1 * 2 ^ a) % 2 ^ 64 ≤ (1 * 2 ^ z) % 2 ^ 64
shifted_order a z ordered within = rw (one_shl a 64 (omega arith), one_shl z 64 within) (pow_mono ordered)

-- the difference of two shifted ones
pub shifted_mask : (a z : ℕ) → a ≤ z → z < 64 → (1 * 2 ^ z) % 2 ^ 64 - (1 * 2 ^ a) % 2 ^ 64 ≡ mask a z
shifted_mask a z ordered within = rw (one_shl a 64 (omega arith), one_shl z 64 within) refl

-- the run at hand touches what was written
pub next_touches : (written : List ℕ) (runs : List Run) (i : ℕ) (x : Run) (columns : ℕ) → i < length runs
    → x ≡ get_or runs i x → columns ≡ run_mask x → (bit_and (get_or written x.row 0) columns ≡ 0 → ⊥)
    → meet_left written (drop i runs) ≡ true
next_touches written runs i x columns within is bits some =
    let touched : touches written x ≡ true = elim (eqb_tells (bit_and (get_or written x.row 0) columns) 0) [
      | inl none ↦ absurd (some none.1)
      | inr tells ↦ rw (← bits) (ap not tells.0)
    ] in
    rw (drop-cons runs i x within, ← is) (meet_left_touched written x (drop (suc i) runs) touched)

-- the run at hand is apart from what was written
pub next_apart : (written : List ℕ) (runs : List Run) (i : ℕ) (x : Run) (columns : ℕ) → i < length runs
    → x ≡ get_or runs i x → columns ≡ run_mask x → bit_and (get_or written x.row 0) columns ≡ 0
    → x.row < length written
    → meet_left written (drop i runs)
    ≡ meet_left (set written x.row (bit_or (get_or written x.row 0) columns)) (drop (i + 1) runs)
next_apart written runs i x columns within is bits none room =
    let apart : touches written x ≡ false = rw (← bits, none) refl in
    rw (drop-cons runs i x within, ← is, add-one, bits) (meet_left_more written x (drop (suc i) runs) room apart)

-- no run is left
pub none_left : (written : List ℕ) (runs : List Run) (i : ℕ) → length runs ≤ i → meet_left written (drop i runs) ≡ false
none_left written runs i past = at_drop_all (meet_left written) runs i past
