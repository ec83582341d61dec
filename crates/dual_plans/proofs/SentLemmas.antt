-- What begins in a lane whose units stand in their places: its pair is of bytes, and its repeat comes within the list.
use Rattle.std.proofs.Common.{◌≡◌, ℕ, zero, suc, ◌+◌, ◌≤◌, ◌==◌, Bool, true, false, List, [], ◌∷◌, Option, Some, None, All, refl, sym, ap, ◌∙◌, subst, arith, ◌⊎◌, inl, inr, ⊎_elim}
use Rattle.std.specs.Option.{option_or}
use Rattle.std.proofs.lemmas.Bool.Decides.{nat_tests}
use Rattle.std.proofs.lemmas.List.Elements.{All-head, All-tail}
use Rattle.line21_codes.specs.declared.pairs.Pair.{Pair}
use Rattle.line21_codes.specs.NullPairs.{null_pair}
use Rattle.line21_author.specs.declared.unit.Unit.{Unit}
use Rattle.frame_carrier.specs.Carried.{IsBytePair}
use Rattle.lanes.specs.LaneTimeline.{stands, lane_timeline}
use Rattle.lanes.specs.Timeline.{Timeline, repeat_at, repeat_of, slot}
use Rattle.dual_fields.specs.Parts.{part_slots}
use Rattle.dual_fields.specs.ResumedLane.{Stand}
use Rattle.dual_fields.specs.Slots.{Slots}
use Rattle.dual_fields.specs.declared.part.Part.{Part}
use Rattle.dual_fields.specs.Lanes.{again, part_chunks, whole}
use Rattle.dual_fields.proofs.LaneLemmas.{again_at, some_size, stands_at, two_size}

-- a unit that begins in a slot is of bytes, and sent within this many slots
pub record IsSent (count n : ℕ) (unit : Unit) : Type 0 where
  pub bytes : IsBytePair unit.pair
  pub ended : unit.doubled ≡ true → n + 2 ≤ count

-- so is a unit wherever it ends in time, and the first of its cue
pub record IsSendable (count : ℕ) (part : Part) : Type 0 where
  pub unit : IsBytePair part.chunk.unit.pair
  pub first : IsBytePair part.first.pair
  pub until : part.chunk.until ≤ count

-- what begins is one of two
pub either_is : (u v : Option Unit) (unit : Unit) → option_or u v ≡ Some unit → (u ≡ Some unit) ⊎ (v ≡ Some unit)
either_is None v unit is = inr is
either_is (Some w) v unit is = inl is

module _ (slots : Slots) (count : ℕ) where
  stands_sent : (end : ℕ) (parts : List Part) (fs : List ℕ) (rs : List (Option ℕ)) → Stand slots end parts fs rs → All (IsSendable count) parts
      → (n : ℕ) (unit : Unit) → stands (part_chunks parts) fs n ≡ Some unit → IsSent count n unit
  stands_sent end [] fs rs stand are n unit is = cc
  stands_sent end (part ∷ parts) [] rs stand are n unit is = cc
  stands_sent end (part ∷ parts) (f ∷ fs) [] stand are n unit is = absurd stand
  stands_sent end (part ∷ parts) (f ∷ fs) (r ∷ rs) stand are n unit is =
      by_slot (n == f) refl (λ rest. stands_sent (f + part_slots part) parts fs rs stand.2 (All-tail (IsSendable count) part parts are) n unit rest)
    where
      own : IsSendable count part
      own = All-head (IsSendable count) part parts are

      by_slot : (b : Bool) → (n == f) ≡ b → (stands (part_chunks parts) fs n ≡ Some unit → IsSent count n unit) → IsSent count n unit
      by_slot true test rest =
          let here : n ≡ f = grind (arith, nat_tests) in
          let it : Some part.chunk.unit ≡ Some unit = sym (stands_at part parts f fs n true test) ∙ is in
          let same : part.chunk.unit ≡ unit = cc in
          record {
            bytes = subst (λ (u : Unit). IsBytePair u.pair) same own.unit;
            ended = λ doubled.
                let two : part_slots part ≡ 2 = two_size part (ap (λ (u : Unit). u.doubled) same ∙ doubled) in
                omega (arith, stand.0.ended, own.until);
          }
      by_slot false test rest = rest (sym (stands_at part parts f fs n false test) ∙ is)

  again_sent : (end : ℕ) (parts : List Part) (fs : List ℕ) (rs : List (Option ℕ)) → Stand slots end parts fs rs → All (IsSendable count) parts
      → (n : ℕ) (unit : Unit) → again parts rs n ≡ Some unit → IsSent count n unit
  again_sent end [] fs rs stand are n unit is = cc
  again_sent end (part ∷ parts) fs [] stand are n unit is = cc
  again_sent end (part ∷ parts) [] (r ∷ rs) stand are n unit is = absurd stand
  again_sent end (part ∷ parts) (f ∷ fs) (None ∷ rs) stand are n unit is =
      again_sent (f + part_slots part) parts fs rs stand.2 (All-tail (IsSendable count) part parts are) n unit is
  again_sent end (part ∷ parts) (f ∷ fs) (Some at ∷ rs) stand are n unit is =
      by_slot (n == at) refl (λ rest. again_sent (f + part_slots part) parts fs rs stand.2 (All-tail (IsSendable count) part parts are) n unit rest)
    where
      own : IsSendable count part
      own = All-head (IsSendable count) part parts are

      by_slot : (b : Bool) → (n == at) ≡ b → (again parts rs n ≡ Some unit → IsSent count n unit) → IsSent count n unit
      by_slot true test rest =
          let here : n ≡ at = grind (arith, nat_tests) in
          let it : Some part.first ≡ Some unit = sym (again_at part parts at rs n true test) ∙ is in
          let same : part.first ≡ unit = cc in
          record {
            bytes = subst (λ (u : Unit). IsBytePair u.pair) same own.first;
            ended = λ doubled. omega (arith, stand.1.1.at_is.before, stand.0.ended, own.until, some_size part);
          }
      by_slot false test rest = rest (sym (again_at part parts at rs n false test) ∙ is)

  -- what begins in the lane
  pub lane_sent : (events : Timeline) (parts : List Part) (fs : List ℕ) (rs : List (Option ℕ)) → Stand slots 0 parts fs rs → All (IsSendable count) parts
      → ((n : ℕ) (unit : Unit) → events n ≡ Some unit → IsSent count n unit) → (n : ℕ) (unit : Unit) → whole events parts fs rs n ≡ Some unit → IsSent count n unit
  lane_sent events parts fs rs stand are sent n unit is =
      ⊎_elim
      (λ (at : lane_timeline events (part_chunks parts) fs n ≡ Some unit).
      ⊎_elim
      (λ (event : events n ≡ Some unit). sent n unit event)
      (λ (at_unit : stands (part_chunks parts) fs n ≡ Some unit). stands_sent 0 parts fs rs stand are n unit at_unit)
      (either_is (events n) (stands (part_chunks parts) fs n) unit at))
      (λ (at : again parts rs n ≡ Some unit). again_sent 0 parts fs rs stand are n unit at)
      (either_is (lane_timeline events (part_chunks parts) fs n) (again parts rs n) unit is)

null_bytes : IsBytePair null_pair
null_bytes = record { a = omega arith; b = omega arith }

-- a timeline of which all that begins is sent within this many slots
module _ (count : ℕ) (t : Timeline) (sent : (n : ℕ) (unit : Unit) → t n ≡ Some unit → IsSent count n unit) where
  -- what is due comes from a doubled unit
  due_sent : (n : ℕ) (o : Option Unit) (pair : Pair) → t n ≡ o → repeat_of o ≡ Some pair → IsBytePair pair × (n + 2 ≤ count)
  due_sent n None pair at due = cc
  due_sent n (Some unit) pair at due = by_doubled unit.doubled refl
    where
      by_doubled : (b : Bool) → unit.doubled ≡ b → IsBytePair pair × (n + 2 ≤ count)
      by_doubled true twice =
          let same : Some unit.pair ≡ Some pair = sym (rw twice refl) ∙ due in
          let it : unit.pair ≡ pair = cc in
          (subst IsBytePair it (sent n unit at).bytes, (sent n unit at).ended twice)
      by_doubled false once = let wrong : None ≡ Some pair = sym (rw once refl) ∙ due in absurd (cc)

  repeat_bytes : (n : ℕ) (pair : Pair) → repeat_at t n ≡ Some pair → IsBytePair pair
  repeat_bytes zero pair due = cc
  repeat_bytes (suc n) pair due = (due_sent n (t n) pair refl due).0

  -- the pairs of its slots are of bytes
  pub slot_bytes : (n : ℕ) → IsBytePair (slot t n)
  slot_bytes n = at_slot (repeat_at t n) refl (t n) refl
    where
      at_slot : (r : Option Pair) → repeat_at t n ≡ r → (o : Option Unit) → t n ≡ o → IsBytePair (slot t n)
      at_slot (Some pair) due o at = subst IsBytePair (sym (rw due refl)) (repeat_bytes n pair due)
      at_slot None due (Some unit) at = subst IsBytePair (sym (rw (due, at) refl)) (sent n unit at).bytes
      at_slot None due None at = subst IsBytePair (sym (rw (due, at) refl)) null_bytes

  -- and nothing is due after them
  pub none_due : repeat_at t count ≡ None
  none_due = behind count refl
    where
      behind : (k : ℕ) → k ≡ count → repeat_at t k ≡ None
      behind zero same = refl
      behind (suc k) same = by_due (repeat_of (t k)) refl
        where
          by_due : (r : Option Pair) → repeat_of (t k) ≡ r → repeat_of (t k) ≡ None
          by_due None is = is
          by_due (Some pair) is = absurd (omega (arith, (due_sent k (t k) pair refl is).1))
