-- Spans step by step.
use Rattle.std.proofs.Common.{◌≡◌, ℕ, ◌+◌, ◌≤◌, ◌||◌, ◌&&◌, nat_le, nat_lt, Bool, true, false, List, [], ◌∷◌, refl, sym, ap, ◌∙◌, arith}
use Rattle.std.specs.Prelude.{if◌then◌else◌, not}
use Rattle.std.proofs.lemmas.Bool.Decides.{nat_tests}
use Rattle.dual_fields.specs.Parts.{BeginWithFirst, part_slots}
use Rattle.dual_fields.specs.Spans.{GoOn, SpansAreCovered, covers, in_spans, span_end}
use Rattle.dual_fields.specs.declared.part.Part.{Part}

abbrev within : ℕ → ℕ → ℕ → Bool
within from to n = nat_le from n && nat_lt n to

-- a span that goes on
joined : (start end to n : ℕ) → start ≤ end → end ≤ to → (within end to n || within start end n) ≡ within start to n
joined start end to n from on = grind (arith, nat_tests)

turned : (a b c : Bool) → ((a || b) || c) ≡ (b || (a || c))
turned true true true = refl
turned true true false = refl
turned true false true = refl
turned true false false = refl
turned false true true = refl
turned false true false = refl
turned false false true = refl
turned false false false = refl

parted : (a b c : Bool) → ((a || b) || c) ≡ (c || (b || a))
parted true true true = refl
parted true true false = refl
parted true false true = refl
parted true false false = refl
parted false true true = refl
parted false true false = refl
parted false false true = refl
parted false false false = refl

none_more : (a : Bool) → (false || a) ≡ (a || false)
none_more true = refl
none_more false = refl

walk : (start end : ℕ) (parts : List Part) (fs : List ℕ) (n : ℕ) → start ≤ end → GoOn end parts fs
    → (covers end parts fs n || within start end n) ≡ (within start (span_end end parts fs) n || in_spans parts fs n)
walk start end [] fs n from on = none_more (within start end n)
walk start end (part ∷ parts) [] n from on = none_more (within start end n)
walk start end (part ∷ parts) (f ∷ fs) n from on =
    by_later part.later (λ first below. walk first (f + part_slots part) parts fs n below on.1)
  where
    by_later : (b : Bool)
        → ((first : ℕ) → first ≤ f + part_slots part → (covers (f + part_slots part) parts fs n || within first (f + part_slots part) n)
        ≡ (within first (span_end (f + part_slots part) parts fs) n || in_spans parts fs n))
        → ((within (if b then end else f) (f + part_slots part) n || covers (f + part_slots part) parts fs n) || within start end n)
        ≡ (within start (if b then span_end (f + part_slots part) parts fs else end) n
        || ((not b && within f (span_end (f + part_slots part) parts fs) n) || in_spans parts fs n))
    by_later true again =
        turned (within end (f + part_slots part) n) (covers (f + part_slots part) parts fs n) (within start end n)
        ∙ ap (λ b. covers (f + part_slots part) parts fs n || b) (joined start end (f + part_slots part) n from (omega (arith, on.0)))
        ∙ again start (omega (arith, on.0, from))
    by_later false again =
        parted (within f (f + part_slots part) n) (covers (f + part_slots part) parts fs n) (within start end n)
        ∙ ap (λ b. within start end n || b) (again f (omega arith))

nowhere : (n : ℕ) → within 0 0 n ≡ false
nowhere n = grind (arith, nat_tests)

last_none : (a : Bool) → (a || false) ≡ a
last_none true = refl
last_none false = refl

pub spans_covered : SpansAreCovered
spans_covered parts fs begun on n =
    sym (last_none (covers 0 parts fs n)) ∙ ap (λ b. covers 0 parts fs n || b) (sym (nowhere n))
    ∙ walk 0 0 parts fs n (omega arith) on
    ∙ ap (λ e. within 0 e n || in_spans parts fs n) (none_before parts fs begun)
    ∙ ap (λ b. b || in_spans parts fs n) (nowhere n)
  where
    none_before : (us : List Part) (fs : List ℕ) → BeginWithFirst us → span_end 0 us fs ≡ 0
    none_before [] fs is = refl
    none_before (u ∷ us) [] is = refl
    none_before (u ∷ us) (f ∷ fs) is = rw is refl
