-- How the pair that is waited for follows from the stretches over all pairs so far.
use Rattle.std.proofs.Common.{◌≡◌, ℕ, ◌+◌, ◌%◌, ◌==◌, ◌&&◌, not, Bool, true, false, if◌then◌else◌, List, [], ◌∷◌, Option, Some, None, refl, sym, ◌∙◌, arith}
use Rattle.std.proofs.lemmas.Bool.Decides.{nat_tests, Decides-eqb}
use Rattle.std.proofs.lemmas.Bool.{and_parts}
use Rattle.std.specs.Cmp.Derive.{both_true}
use Rattle.std.specs.Bool.{then_some}
use Rattle.line21_codes.specs.declared.pairs.Pair.{Pair}
use Rattle.line21_codes.specs.declared.doubling.Doubler.{Doubler}
use Rattle.line21_codes.specs.ControlPairs.{is_control}
use Rattle.line21_codes.specs.Repeats.{same_pair, number_behind, is_ignored, is_waiting, Waits, Blocks, none, doubled, single}

-- nothing stands before the first pair
pub waits_first : Waits [] (record { waiting = None })
unfolding is_ignored number_behind
waits_first = record { repeats = λ pair. elim (is_control pair) as (λ b. (b && false) ≡ false) [ true ↦ refl | false ↦ refl ] }

-- a pair of two bytes
pair_of : ℕ → ℕ → Pair
pair_of a b = record { a = a; b = b }

-- a pair is its bytes' pair
pair_of-bytes : (p : Pair) → pair_of p.a p.b ≡ p
unfolding pair_of
pair_of-bytes p = refl

-- equal bytes make equal pairs
pub same_pair-true : (p q : Pair) → same_pair p q ≡ true → p ≡ q
same_pair-true p q same =
    let parts = and_parts (p.a == q.a) (p.b == q.b) same in
    let a : p.a ≡ q.a = (Decides-eqb p.a q.a).0 parts.0 in
    let b : p.b ≡ q.b = (Decides-eqb p.b q.b).0 parts.1 in cc (pair_of-bytes p, pair_of-bytes q)

-- one more than an even number is odd
odd_behind : (n : ℕ) → (n % 2 == 1) ≡ false → ((n + 1) % 2 == 1) ≡ true
odd_behind n even = grind (arith, nat_tests)

-- one more than an odd number is even
even_behind : (n : ℕ) → (n % 2 == 1) ≡ true → ((n + 1) % 2 == 1) ≡ false
even_behind n odd = grind (arith, nat_tests)

-- what follows an even number is a repeat
turns_odd : (control : Bool) (n : ℕ) → (control && n % 2 == 1) ≡ false → control ≡ true → (control && (n + 1) % 2 == 1) ≡ true
turns_odd true n even is = odd_behind n even
turns_odd false n even is = is

-- what follows an odd number is none
turns_even : (control : Bool) (n : ℕ) → (control && n % 2 == 1) ≡ true → (control && (n + 1) % 2 == 1) ≡ false
turns_even true n odd = even_behind n odd
turns_even false n odd = refl

-- the first pair of a stretch is none
begins : (control : Bool) → (control && false) ≡ false
begins true = refl
begins false = refl

-- the next pair is ignored by whether it is the pair before and a control pair, and by its number
ignored_next : (before : List Pair) (q p : Pair) → is_ignored (q ∷ before) p ≡ (is_control p && (if same_pair q p then number_behind before p + 1 else 0) % 2 == 1)
unfolding is_ignored number_behind
ignored_next before q p = refl

-- a pair is ignored by its number
ignored_now : (before : List Pair) (p : Pair) → is_ignored before p ≡ (is_control p && number_behind before p % 2 == 1)
unfolding is_ignored
ignored_now before p = refl

module _ (before : List Pair) (doubler : Doubler) (q : Pair) (waits : Waits before doubler) where
  control_at : (p : Pair) (same : Bool) → same_pair q p ≡ same → is_waiting doubler.waiting q ≡ false → is_control q ≡ true → is_ignored (q ∷ before) p ≡ same
  control_at p true same acts control = rw (ignored_next before q p, same, ← same_pair-true q p same) (turns_odd (is_control q) (number_behind before q) (sym (ignored_now before q) ∙ waits.repeats q ∙ acts) control)
  control_at p false same acts control = rw (ignored_next before q p, same) (begins (is_control p))

  other_at : (p : Pair) (same : Bool) → same_pair q p ≡ same → is_control q ≡ false → is_ignored (q ∷ before) p ≡ false
  other_at p true same other = rw (ignored_next before q p, ← same_pair-true q p same, other) refl
  other_at p false same other = rw (ignored_next before q p, same) (begins (is_control p))

  repeat_at : (p : Pair) (same : Bool) → same_pair q p ≡ same → is_waiting doubler.waiting q ≡ true → is_ignored (q ∷ before) p ≡ false
  repeat_at p true same repeat = rw (ignored_next before q p, same, ← same_pair-true q p same) (turns_even (is_control q) (number_behind before q) (sym (ignored_now before q) ∙ waits.repeats q ∙ repeat))
  repeat_at p false same repeat = rw (ignored_next before q p, same) (begins (is_control p))

  -- after a control pair that acted its repeat is waited for
  pub waits_behind_control : is_waiting doubler.waiting q ≡ false → is_control q ≡ true → Waits (q ∷ before) (record { waiting = Some q })
  waits_behind_control acts control = record { repeats = λ p. control_at p (same_pair q p) refl acts control }

  -- after another pair nothing is waited for
  pub waits_behind_other : is_control q ≡ false → Waits (q ∷ before) (record { waiting = None })
  waits_behind_other other = record { repeats = λ p. other_at p (same_pair q p) refl other }

  -- after a repeat nothing is waited for
  pub waits_behind_repeat : is_waiting doubler.waiting q ≡ true → Waits (q ∷ before) (record { waiting = None })
  waits_behind_repeat repeat = record { repeats = λ p. repeat_at p (same_pair q p) refl repeat }

module _ (before : List Pair) (doubler : Doubler) (q : Pair) (waits : Waits before doubler) where
  -- the three cases of the next pair
  next_by : (control waiting : Bool) → control ≡ is_control q → waiting ≡ is_waiting doubler.waiting q → Waits (q ∷ before) (record { waiting = then_some (control && not waiting) q })
  next_by true false control waiting = waits_behind_control before doubler q waits (sym waiting) (sym control)
  next_by true true control waiting = waits_behind_repeat before doubler q waits (sym waiting)
  next_by false waiting control _ = waits_behind_other before doubler q waits (sym control)

  -- after the next pair, it is waited for where it is a control pair that is no repeat
  pub waits_next : (control waiting : Bool) (next : Option Pair) → control ≡ is_control q → waiting ≡ is_waiting doubler.waiting q → next ≡ then_some (control && not waiting) q → Waits (q ∷ before) (record { waiting = next })
  waits_next control waiting next is_control is_waiting is = rw is (next_by control waiting is_control is_waiting)

-- a pair equals itself
same_pair-self : (p : Pair) → same_pair p p ≡ true
same_pair-self p = both_true ((Decides-eqb p.a p.a).1 refl) ((Decides-eqb p.b p.b).1 refl)

-- after blocks nothing is waited for
pub blocks_wait : (before : List Pair) → Blocks before → Waits before (record { waiting = None })
blocks_wait _ none = waits_first
blocks_wait _ (doubled p before control blocks) =
    waits_behind_repeat (p ∷ before) (record { waiting = Some p }) p
    (waits_behind_control before (record { waiting = None }) p (blocks_wait before blocks) refl control) (same_pair-self p)
blocks_wait _ (single p before other blocks) = waits_behind_other before (record { waiting = None }) p (blocks_wait before blocks) other

-- the first pair of a block acts
pub blocks-first : (before : List Pair) (pair : Pair) → Blocks before → is_ignored before pair ≡ false
blocks-first before pair blocks = (blocks_wait before blocks).repeats pair

-- the second pair of a block is ignored
pub blocks-second : (before : List Pair) (pair : Pair) → Blocks before → is_control pair ≡ true → is_ignored (pair ∷ before) pair ≡ true
blocks-second before pair blocks control =
    (waits_behind_control before (record { waiting = None }) pair (blocks_wait before blocks) refl control).repeats pair ∙ same_pair-self pair
