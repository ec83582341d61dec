-- What a receiver hears that was reset before a slot: of the pairs from there on each acts that isn't ignored as a repeat (CTA-608-E;
-- 47 CFR 79.101, control codes are sent twice).
use Rattle.std.proofs.Common.{◌≡◌, ℕ, zero, suc, ◌+◌, ◌-◌, ◌<◌, ◌≤◌, nat_lt, Bool, true, false, List, [], ◌∷◌, Option, Some, None, refl, sym, ap, ◌∙◌, arith}
use Rattle.std.specs.Prelude.{if◌then◌else◌}
use Rattle.std.proofs.lemmas.Bool.Decides.{nat_tests}
use Rattle.line21_codes.specs.declared.channels.FieldNumber.{FieldNumber}
use Rattle.line21_codes.specs.declared.pairs.Pair.{Pair}
use Rattle.line21_codes.specs.Reading.{code_of}
use Rattle.line21_codes.specs.Repeats.{is_ignored}
use Rattle.line21_author.specs.declared.unit.Unit.{Unit}
use Rattle.line21_screen.specs.Channels.{new_channel}
use Rattle.line21_screen.specs.Fields.{after_code}
use Rattle.line21_screen.specs.Meaning.{after}
use Rattle.line21_screen.proofs.MeaningLemmas.{after-none, after-acts, after-ignored}
use Rattle.lanes.specs.Timeline.{Timeline}
use Rattle.line21_shown.specs.Reading.{acts, does_unit, first_alone, IsForFirst}
use Rattle.line21_shown.proofs.ReadingLemmas.{code_step}

-- the pairs of this many slots from one on, the newest first
abbrev pub pairs_from : (ℕ → Pair) → ℕ → ℕ → List Pair
pairs_from column from zero = []
pairs_from column from (suc count) = column (from + count) ∷ pairs_from column from count

-- what a pair begins, by whether it is ignored
abbrev pub heard_pair : Bool → Pair → Option Unit
heard_pair true pair = None
heard_pair false pair = Some (record { pair = pair; doubled = false })

-- the timeline of the pairs from a slot on: each stands where it acts
abbrev pub heard : (ℕ → Pair) → ℕ → Timeline
heard column from n =
    if nat_lt n from then None else heard_pair (is_ignored (pairs_from column from (n - from)) (column n)) (column n)

-- before the first unit a channel is new
pub quiet : (t : Timeline) (n : ℕ) → ((m : ℕ) → m < n → t m ≡ None) → acts t n ≡ new_channel
quiet t zero none = refl
quiet t (suc n) none =
    ap (λ u. does_unit u (acts t n)) (none n (omega arith)) ∙ quiet t n (λ m below. none m (omega arith))

pub heard_low : (column : ℕ → Pair) (from m : ℕ) → m < from → heard column from m ≡ None
heard_low column from m below = let test : nat_lt m from ≡ true = grind (arith, nat_tests) in rw test refl

pub heard_new : (column : ℕ → Pair) (from n : ℕ) → n ≤ from → acts (heard column from) n ≡ new_channel
heard_new column from n low = quiet (heard column from) n (λ m below. heard_low column from m (omega arith))

pub heard_at : (column : ℕ → Pair) (from k n : ℕ) → from + k ≡ n
    → heard column from n ≡ heard_pair (is_ignored (pairs_from column from k) (column n)) (column n)
heard_at column from k n is =
    let test : nat_lt n from ≡ false = grind (arith, nat_tests) in
    let count : n - from ≡ k = omega arith in
    rw (test, count) refl

-- so the pairs mean what their timeline does
pub heard_read : (f : FieldNumber) (column : ℕ → Pair) (from : ℕ) → ((n : ℕ) → IsForFirst (code_of (column n)))
    → (k n : ℕ) → from + k ≡ n → after f (pairs_from column from k) ≡ first_alone (acts (heard column from) n)
heard_read f column from all zero n is =
    sym (after-none f new_channel new_channel refl refl) ∙ ap first_alone (sym (heard_new column from n (omega arith)))
heard_read f column from all (suc k) n is =
    by_test (is_ignored (pairs_from column from k) (column (from + k))) refl (heard_read f column from all k (from + k) refl)
    ∙ ap (λ m. first_alone (acts (heard column from) m)) (let next : suc (from + k) ≡ n = omega arith in next)
  where
    m : ℕ
    m = from + k

    by_test : (b : Bool) → is_ignored (pairs_from column from k) (column m) ≡ b
        → after f (pairs_from column from k) ≡ first_alone (acts (heard column from) m)
        → after f (column m ∷ pairs_from column from k) ≡ first_alone (acts (heard column from) (suc m))
    by_test true test so =
        let now : heard column from m ≡ None = heard_at column from k m refl ∙ ap (λ b. heard_pair b (column m)) test in
        after-ignored f (pairs_from column from k) (column m) test ∙ so
        ∙ ap first_alone (sym (ap (λ u. does_unit u (acts (heard column from) m)) now))
    by_test false test so =
        let now : heard column from m ≡ Some (record { pair = column m; doubled = false }) =
        heard_at column from k m refl ∙ ap (λ b. heard_pair b (column m)) test in
        after-acts f (pairs_from column from k) (column m) test ∙ ap (after_code f (code_of (column m))) so
        ∙ code_step f (code_of (column m)) (acts (heard column from) m) (all m)
        ∙ ap first_alone (sym (ap (λ u. does_unit u (acts (heard column from) m)) now))
