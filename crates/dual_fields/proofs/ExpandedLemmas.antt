-- A lane with the units that come again is a lane of a longer list of units.
use Rattle.std.proofs.Common.{◌≡◌, ℕ, ◌+◌, ◌<◌, ◌≤◌, ◌==◌, Bool, true, false, cond, List, [], ◌∷◌, ◌++◌, Option, Some, None, refl, ap, ◌∙◌, subst, arith, ⊎_elim}
use Rattle.std.specs.Prelude.{⊤, if◌then◌else◌}
use Rattle.std.specs.Option.{option_or}
use Rattle.std.proofs.lemmas.Bool.{cases_lt}
use Rattle.std.proofs.lemmas.Bool.Decides.{nat_tests}
use Rattle.line21_author.specs.declared.event.Event.{Event}
use Rattle.line21_author.specs.declared.unit.Unit.{Unit}
use Rattle.lanes.specs.declared.chunk.FieldChunk.{FieldChunk}
use Rattle.lanes.specs.FieldLane.{end_of, field_lane, slots_of}
use Rattle.lanes.specs.LaneEvents.{IsFree, event_at}
use Rattle.lanes.specs.LaneTimeline.{stands}
use Rattle.lanes.proofs.FieldLaneLemmas.{end_push}
use Rattle.lanes.specs.Placing.{IsPlaced}
use Rattle.dual_fields.specs.Parts.{part_slots}
use Rattle.dual_fields.specs.ResumedLane.{Stand}
use Rattle.dual_fields.specs.Slots.{Slots}
use Rattle.dual_fields.specs.declared.part.Part.{Part}
use Rattle.dual_fields.specs.Lanes.{AreCues, IsBehind, again, part_chunks}
use Rattle.dual_fields.specs.Expanded.{ResumedIsOneLane, expanded, first_again, spread}
use Rattle.dual_fields.proofs.LaneLemmas.{some_size, stands_none}

-- the former unit is of a cue whose LOAD has come, and whose first unit is doubled
record IsSecure (end : ℕ) (former : Part) : Type 0 where
  loaded : former.chunk.load ≤ end
  doubled : former.first.doubled ≡ true

abbrev Secure : ℕ → Option Part → Type 0
Secure end None = ⊤
Secure end (Some former) = IsSecure end former

secure_next : (end : ℕ) (former : Option Part) (part : Part) (f : ℕ) (later : Bool) → IsBehind later former part → Secure end former → part.chunk.load ≤ f
    → IsSecure (f + part_slots part) part
secure_next end former part f false begins secure loaded =
    record { loaded = omega (arith, loaded); doubled = ap (λ (u : Unit). u.doubled) begins.first ∙ begins.doubled }
secure_next end None part f true continues secure loaded = absurd continues
secure_next end (Some former) part f true continues secure loaded =
    record { loaded = omega (arith, loaded); doubled = ap (λ (u : Unit). u.doubled) continues.first ∙ secure.doubled }

-- before a later unit its cue's LOAD has come, and its first unit is doubled
secure_here : (end : ℕ) (former : Option Part) (part : Part) (later : Bool) → later ≡ true → IsBehind later former part → Secure end former → IsSecure end part
secure_here end former part false is behind secure = cc
secure_here end None part true is behind secure = absurd behind
secure_here end (Some former) part true is behind secure =
    record { loaded = omega (arith, behind.load, secure.loaded); doubled = ap (λ (u : Unit). u.doubled) behind.first ∙ secure.doubled }

module _ (events : List Event) (slots : Slots) (free : (n : ℕ) → slots.free n ≡ true → IsFree events n) where
  placed_expanded : (before : List (FieldChunk × ℕ)) (end : ℕ) (former : Option Part) (parts : List Part) (fs : List ℕ) (rs : List (Option ℕ)) → end_of before ≡ end
      → AreCues former parts → Secure end former → Stand slots end parts fs rs → IsPlaced (field_lane events) before (expanded parts rs) (spread fs rs)
  placed_expanded before end former [] [] rs at cues secure stand = tt
  placed_expanded before end former [] (f ∷ fs) rs at cues secure stand = absurd stand
  placed_expanded before end former (part ∷ parts) [] rs at cues secure stand = absurd stand
  placed_expanded before end former (part ∷ parts) (f ∷ fs) [] at cues secure stand = absurd stand
  placed_expanded before end former (part ∷ parts) (f ∷ fs) (None ∷ rs) at cues secure stand = (
    record { behind = omega (arith, at, stand.0.behind); loaded = stand.0.loaded; ended = stand.0.ended; free = λ n high low. free n (stand.0.free n high low) },
    placed_expanded (before ++ (part.chunk, f) ∷ []) (f + part_slots part) (Some part) parts fs rs (end_push before part.chunk f) cues.1
        (secure_next end former part f part.later cues.0 secure stand.0.loaded) stand.2,
  )
  placed_expanded before end former (part ∷ parts) (f ∷ fs) (Some q ∷ rs) at cues secure stand =
      let resume = stand.1.1 in
      let here = secure_here end former part part.later stand.1.0 cues.0 secure in
      let two : slots_of (first_again part) ≡ 2 = ap (λ b. cond b 2 1) here.doubled in
      let next : end_of (before ++ (first_again part, q) ∷ []) ≡ q + slots_of (first_again part) = end_push before (first_again part) q in (
        record {
          behind = omega (arith, at, resume.last_is.behind, resume.at_is.behind);
          loaded = omega (arith, here.loaded, resume.last_is.behind, resume.at_is.behind);
          ended = omega (arith, resume.at_is.before, stand.0.ended, some_size part);
          free = λ n high low.
              ⊎_elim
              (λ (first : n < q + 1). let same : q ≡ n = omega arith in subst (IsFree events) same (free q resume.at_is.first))
              (λ (second : q + 1 ≤ n). let same : q + 1 ≡ n = omega arith in subst (IsFree events) same (free (q + 1) resume.at_is.second))
              (cases_lt n (q + 1));
        },
        (
          record {
            behind = omega (arith, next, resume.at_is.before);
            loaded = stand.0.loaded;
            ended = stand.0.ended;
            free = λ n high low. free n (stand.0.free n high low);
          },
          placed_expanded ((before ++ (first_again part, q) ∷ []) ++ (part.chunk, f) ∷ []) (f + part_slots part) (Some part) parts fs rs
              (end_push (before ++ (first_again part, q) ∷ []) part.chunk f) cues.1 (secure_next end former part f part.later cues.0 secure stand.0.loaded) stand.2,
        ),
      )

or_nothing : (u : Option Unit) → option_or u None ≡ u
or_nothing None = refl
or_nothing (Some unit) = refl

-- what stands in the longer list stands in one or the other
stands_expanded : (slots : Slots) (end : ℕ) (parts : List Part) (fs : List ℕ) (rs : List (Option ℕ)) (n : ℕ) → Stand slots end parts fs rs
    → stands (expanded parts rs) (spread fs rs) n ≡ option_or (stands (part_chunks parts) fs n) (again parts rs n)
stands_expanded slots end [] [] rs n stand = refl
stands_expanded slots end [] (f ∷ fs) rs n stand = absurd stand
stands_expanded slots end (part ∷ parts) [] rs n stand = absurd stand
stands_expanded slots end (part ∷ parts) (f ∷ fs) [] n stand = absurd stand
stands_expanded slots end (part ∷ parts) (f ∷ fs) (None ∷ rs) n stand = by_slot (n == f) (stands_expanded slots (f + part_slots part) parts fs rs n stand.2)
  where
    by_slot : (b : Bool) → stands (expanded parts rs) (spread fs rs) n ≡ option_or (stands (part_chunks parts) fs n) (again parts rs n)
        → (if b then Some part.chunk.unit else stands (expanded parts rs) (spread fs rs) n)
        ≡ option_or (if b then Some part.chunk.unit else stands (part_chunks parts) fs n) (again parts rs n)
    by_slot true rest = refl
    by_slot false rest = rest
stands_expanded slots end (part ∷ parts) (f ∷ fs) (Some q ∷ rs) n stand =
    by_resume (n == q) refl (stands_expanded slots (f + part_slots part) parts fs rs n stand.2)
  where
    by_resume : (b : Bool) → (n == q) ≡ b → stands (expanded parts rs) (spread fs rs) n ≡ option_or (stands (part_chunks parts) fs n) (again parts rs n)
        → (if b then Some part.first else (if n == f then Some part.chunk.unit else stands (expanded parts rs) (spread fs rs) n))
        ≡ option_or (if n == f then Some part.chunk.unit else stands (part_chunks parts) fs n) (if b then Some part.first else again parts rs n)
    by_resume true test rest =
        let low : n < f = let b = stand.1.1.at_is.before in grind (arith, nat_tests) in
        let not_f : (n == f) ≡ false = grind (arith, nat_tests) in
        rw (not_f, stands_none slots (f + part_slots part) parts fs rs n stand.2 (omega arith)) refl
    by_resume false test rest = by_slot (n == f)
      where
        by_slot : (b : Bool) → (if b then Some part.chunk.unit else stands (expanded parts rs) (spread fs rs) n)
            ≡ option_or (if b then Some part.chunk.unit else stands (part_chunks parts) fs n) (again parts rs n)
        by_slot true = refl
        by_slot false = rest

first_assoc : (u v w : Option Unit) → option_or u (option_or v w) ≡ option_or (option_or u v) w
first_assoc None v w = refl
first_assoc (Some unit) v w = refl

pub one_lane : ResumedIsOneLane
one_lane events slots parts fs rs free cues stand = record {
  placed = placed_expanded events slots free [] 0 None parts fs rs refl cues tt stand;
  timeline = λ n.
      ap (option_or (event_at events n)) (stands_expanded slots 0 parts fs rs n stand)
      ∙ first_assoc (event_at events n) (stands (part_chunks parts) fs n) (again parts rs n);
}
