-- A unit is looked for from the slot after the units before it on, or, where it is its cue's first, from its LOAD on: that is the same.
use Rattle.std.proofs.Common.{◌≡◌, ◌<◌, ◌≤◌, ◌||◌, ℕ, Bool, true, false, Option, Some, None, sym, subst, refl, arith}
use Rattle.std.specs.Prelude.{IfNone, IfSome, nat_le, if◌then◌else◌}
use Rattle.std.proofs.lemmas.Bool.Decides.{nat_tests}
use Rattle.lanes.specs.FirstFit.{IsFirst}
use Rattle.dual_fields.specs.ResumedLane.{IsAllowedBeside, IsResume, ResumesAt}
use Rattle.dual_fields.specs.Slots.{Slots}
use Rattle.dual_fields.specs.Waiting.{start_of}
use Rattle.dual_fields.specs.declared.part.Part.{Part}
use Rattle.dual_fields.specs.declared.place.Place.{Place}

or_false : (a b : Bool) → (a || b) ≡ false → b ≡ false
or_false true b is = cc
or_false false b is = is

above : (a b : ℕ) → nat_le a b ≡ false → b < a
above a b test = grind (arith, nat_tests)

module _ (slots : Slots) (end : ℕ) (part : Part) where
  start_low : end ≤ start_of end part
  start_low = by_test (part.later || nat_le part.chunk.load end) refl
    where
      by_test : (t : Bool) → (part.later || nat_le part.chunk.load end) ≡ t → end ≤ (if t then end else part.chunk.load)
      by_test true is = omega arith
      by_test false is = let less : end < part.chunk.load = above part.chunk.load end (or_false part.later (nat_le part.chunk.load end) is) in omega arith

  start_same : part.later ≡ true → start_of end part ≡ end
  start_same is = rw is refl

  start_reached : (slot : ℕ) → end ≤ slot → part.chunk.load ≤ slot → start_of end part ≤ slot
  start_reached slot behind loaded = by_test (part.later || nat_le part.chunk.load end)
    where
      by_test : (t : Bool) → (if t then end else part.chunk.load) ≤ slot
      by_test true = behind
      by_test false = loaded

  -- what is allowed after the units before it is allowed from there on
  to_start : (slot : ℕ) → IsAllowedBeside slots end part slot → IsAllowedBeside slots (start_of end part) part slot
  to_start slot a = record {
    behind = start_reached slot a.behind a.loaded;
    loaded = a.loaded;
    ended = a.ended;
    free = a.free;
    resumed = λ later m high low foreign. a.resumed later m (subst (λ n. n ≤ m) (start_same later) high) low foreign;
  }

  -- and the other way round
  from_start : (slot : ℕ) → IsAllowedBeside slots (start_of end part) part slot → IsAllowedBeside slots end part slot
  from_start slot a = record {
    behind = omega (arith, start_low, a.behind);
    loaded = a.loaded;
    ended = a.ended;
    free = a.free;
    resumed = λ later m high low foreign. a.resumed later m (subst (λ n. n ≤ m) (sym (start_same later)) high) low foreign;
  }

  resumes_start : (slot : ℕ) (resume : Option ℕ) → ResumesAt slots (start_of end part) part slot resume → ResumesAt slots end part slot resume
  resumes_start slot (Some at) is = (is.0, subst (λ n. IsResume slots n slot at) (start_same is.0) is.1)
  resumes_start slot None is = λ later m high low. is later m (subst (λ n. n ≤ m) (sym (start_same later)) high) low

  -- so the first place is the same
  pub first_start : (found : Option Place) → IfSome found (λ place. IsFirst (IsAllowedBeside slots (start_of end part) part) place.slot)
      → IfSome found (λ place. IsFirst (IsAllowedBeside slots end part) place.slot)
  first_start (Some place) is = record { holds = from_start place.slot is.holds; first = λ other a. is.first other (to_start other a) }
  first_start None is = tt

  pub resumed_start : (found : Option Place) → IfSome found (λ place. ResumesAt slots (start_of end part) part place.slot place.resume)
      → IfSome found (λ place. ResumesAt slots end part place.slot place.resume)
  resumed_start (Some place) is = resumes_start place.slot place.resume is
  resumed_start None is = tt

  pub none_start : (found : Option Place) → IfNone found ((slot : ℕ) → IsAllowedBeside slots (start_of end part) part slot → ⊥)
      → IfNone found ((slot : ℕ) → IsAllowedBeside slots end part slot → ⊥)
  none_start (Some place) is = tt
  none_start None is = λ slot a. is slot (to_start slot a)
