-- Tables of the slots of a field.
use Rattle.std.proofs.Common.{◌≡◌, ℕ, zero, suc, ◌+◌, ◌<◌, ◌==◌, ◌&&◌, ◌||◌, not, is_some, Bool, true, false, List, [], ◌∷◌, Option, slice_get, refl, sym, ap, ◌∙◌, arith}
use Rattle.std.specs.List.{list_any}
use Rattle.std.proofs.lemmas.Bool.Decides.{nat_tests}
use Rattle.line21_author.specs.declared.event.Event.{Event}
use Rattle.lanes.specs.LaneEvents.{event_at}
use Rattle.dual_fields.specs.FieldSlots.{holds}
use Rattle.dual_fields.specs.Parts.{BeginWithFirst}
use Rattle.dual_fields.specs.Slots.{is_foreign, is_free}
use Rattle.dual_fields.specs.Spans.{GoOn, covers, in_spans}
use Rattle.dual_fields.specs.Tables.{AreSpanned, IsTable, IsTableBeside, use_in}
use Rattle.dual_fields.specs.declared.slot_use.SlotUse.{SlotUse}
use Rattle.dual_fields.specs.declared.slot_use.SlotUse.TheVariants.{Foreign}
use Rattle.dual_fields.proofs.SpansLemmas.{spans_covered}
use Rattle.dual_fields.specs.declared.part.Part.{Part}

-- where no places are left, no slot is in a span
pub none_covered : (end : ℕ) (parts : List Part) (n : ℕ) → covers end parts [] n ≡ false
none_covered end [] n = refl
none_covered end (part ∷ parts) n = refl

-- the event holds the slot
abbrev pub holds_at : ℕ → Event → Bool
holds_at n event = event.slot == n || event.slot + 1 == n

some_at : (event : Event) (events : List Event) (n : ℕ) → is_some (event_at (event ∷ events) n) ≡ (event.slot == n || is_some (event_at events n))
some_at event events n = by_test (n == event.slot) refl
  where
    by_test : (b : Bool) → (n == event.slot) ≡ b → is_some (event_at (event ∷ events) n) ≡ (event.slot == n || is_some (event_at events n))
    by_test true test = let other : (event.slot == n) ≡ true = grind (arith, nat_tests) in rw (test, other) refl
    by_test false test = let other : (event.slot == n) ≡ false = grind (arith, nat_tests) in rw (test, other) refl

turned : (a x b y : Bool) → ((a || x) || (b || y)) ≡ ((a || b) || (x || y))
turned true x b y = refl
turned false true true y = refl
turned false false true y = refl
turned false true false y = refl
turned false false false y = refl

not_last : (a : Bool) → (a || false) ≡ a
not_last true = refl
not_last false = refl

-- the slots that events hold, one after another
pub any_holds : (events : List Event) (n : ℕ) → list_any (holds_at n) events ≡ holds (event_at events) n
any_holds [] zero = refl
any_holds [] (suc n) = refl
any_holds (event ∷ events) zero =
    let none : (event.slot + 1 == zero) ≡ false = grind (arith, nat_tests) in
    ap (λ b. (event.slot == zero || b) || list_any (holds_at zero) events) none ∙ ap (λ b. b || list_any (holds_at zero) events) (not_last (event.slot == zero))
    ∙ ap (λ b. event.slot == zero || b) (any_holds events zero) ∙ sym (some_at event events zero)
any_holds (event ∷ events) (suc n) =
    let next : (event.slot + 1 == suc n) ≡ (event.slot == n) = same_test event.slot n in
    ap (λ b. (event.slot == suc n || b) || list_any (holds_at (suc n)) events) next
    ∙ ap (λ b. (event.slot == suc n || event.slot == n) || b) (any_holds events (suc n))
    ∙ sym (turned (event.slot == suc n) (is_some (event_at events (suc n))) (event.slot == n) (is_some (event_at events n)))
    ∙ ap (λ b. b || (event.slot == n || is_some (event_at events n))) (sym (some_at event events (suc n)))
    ∙ ap (λ b. is_some (event_at (event ∷ events) (suc n)) || b) (sym (some_at event events n))
  where
    same_test : (k m : ℕ) → (k + 1 == suc m) ≡ (k == m)
    same_test k m = by_test (k == m) refl
      where
        by_test : (b : Bool) → (k == m) ≡ b → (k + 1 == suc m) ≡ b
        by_test true test = grind (arith, nat_tests)
        by_test false test = grind (arith, nat_tests)

and_true : (a : Bool) → (a && true) ≡ a
and_true true = refl
and_true false = refl

and_false : (a : Bool) → (a && false) ≡ false
and_false true = refl
and_false false = refl

or_true : (a : Bool) → (a || true) ≡ true
or_true true = refl
or_true false = refl

free_in : (b : Bool) (u : Option SlotUse) → is_free (use_in b Foreign u) ≡ (is_free u && not b)
free_in true u = sym (and_false (is_free u))
free_in false u = sym (and_true (is_free u))

foreign_in : (b : Bool) (u : Option SlotUse) → is_foreign (use_in b Foreign u) ≡ (is_foreign u || b)
foreign_in true u = sym (or_true (is_foreign u))
foreign_in false u = sym (not_last (is_foreign u))

first_last : (own first span : Bool) → ((not own && not first) && not span) ≡ (not first && (not own && not span))
first_last true true span = refl
first_last true false span = refl
first_last false true span = refl
first_last false false span = refl

-- a table of events in which the spans are marked too
pub spanned_beside : (count : ℕ) (first own : List Event) (parts : List Part) (fs : List ℕ) (before behind : List SlotUse) → BeginWithFirst parts → GoOn 0 parts fs
    → IsTable count own first before → AreSpanned before behind parts fs → IsTableBeside count first own parts fs behind
spanned_beside count first own parts fs before behind begun onward marked spanned = record {
  count_is = spanned.count ∙ marked.count_is;
  agree = record {
    free = λ n below.
        ap is_free (use_is n below) ∙ free_in (in_spans parts fs n) (slice_get before n) ∙ ap (λ b. b && not (in_spans parts fs n)) (marked.agree.free n below)
        ∙ first_last (holds (event_at own) n) (holds (event_at first) n) (in_spans parts fs n);
    foreign = λ n below.
        ap is_foreign (use_is n below) ∙ foreign_in (in_spans parts fs n) (slice_get before n) ∙ ap (λ b. b || in_spans parts fs n) (marked.agree.foreign n below);
  };
}
  where
    use_is : (n : ℕ) → n < count → slice_get behind n ≡ use_in (in_spans parts fs n) Foreign (slice_get before n)
    use_is n below =
        spanned.uses n (omega (arith, marked.count_is)) ∙ ap (λ b. use_in b Foreign (slice_get before n)) (spans_covered parts fs begun onward n)
