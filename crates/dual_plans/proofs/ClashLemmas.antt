-- Clashes of the events of two lists.
use Rattle.std.proofs.Common.{◌≡◌, ◌⊎◌, inl, inr, ℕ, ◌+◌, ◌<◌, ◌≤◌, max, Bool, true, false, List, [], ◌∷◌, Option, Some, None, length, get_or, drop, drop-cons, add-one, refl, sym, ap, ◌∙◌, subst, arith}
use Rattle.std.specs.Prelude.{◌==◌, ◌&&◌, ◌||◌, nat_le, nat_lt, if◌then◌else◌}
use Rattle.std.specs.List.{list_any}
use Rattle.std.proofs.lemmas.Bool.Decides.{nat_tests}
use Rattle.std.proofs.lemmas.List.{drop_all}
use Rattle.line21_codes.specs.declared.channels.Chan.{Chan}
use Rattle.line21_codes.specs.declared.channels.FieldNumber.{FieldNumber}
use Rattle.line21_codes.specs.declared.channels.FieldNumber.TheVariants.{One, Two}
use Rattle.cue_lists.specs.Listing.{Listing}
use Rattle.line21_author.specs.CueEvents.{channel_events}
use Rattle.line21_author.specs.declared.event.Event.{Event}
use Rattle.lanes.specs.LaneRoom.{AreOfCuesFrom}
use Rattle.lanes.specs.LaneEvents.{event_at}
use Rattle.frame_carrier.specs.Planned.{authored_channel}
use Rattle.frame_carrier.specs.SlotLists.{slot_cues}
use Rattle.dual_fields.specs.FieldSlots.{holds}
use Rattle.dual_fields.proofs.TablesLemmas.{any_holds, holds_at}
use Rattle.dual_plans.specs.Clashes.{HoldsFor, IsClash, IsFieldClash, IsLeast, IsLeastClash, NoSlotIsSharedUnlessCuesClash, earlier, is_no_later, list_events}
use Rattle.dual_plans.specs.CueEvents.{AreOrdered, BeginFrom, LieApart, event_cue, event_slots, slots_of}
use Rattle.dual_plans.specs.declared.clash.Clash.{Clash}
use Rattle.dual_plans.specs.declared.cue_event.CueEvent.{CueEvent}
use Rattle.dual_plans.proofs.CueEventLemmas.{channel_slots}

-- an event that holds a slot doesn't begin after it
begins_by : (events : List CueEvent) (cue n m : ℕ) → BeginFrom m (slots_of events) → HoldsFor events cue n → m ≤ n
begins_by [] cue n m from held = absurd held
begins_by (event ∷ events) cue n m from (inl held) = omega (arith, from.0, held.1)
begins_by (event ∷ events) cue n m from (inr held) = begins_by events cue n m from.1 held

weaker : (m n : ℕ) (slots : List ℕ) → m ≤ n → BeginFrom n slots → BeginFrom m slots
weaker m n [] below from = tt
weaker m n (slot ∷ slots) below from = (omega (arith, from.0), weaker m n slots below from.1)

-- and its cue is no earlier than all are
cue_from : (events : List CueEvent) (cue n k : ℕ) → AreOfCuesFrom event_cue k events → HoldsFor events cue n → k ≤ cue
cue_from [] cue n k from held = absurd held
cue_from (event ∷ events) cue n k from (inl held) = omega (arith, from.0, held.0)
cue_from (event ∷ events) cue n k from (inr held) = cue_from events cue n k from.1 held

swapped : (xs ys : List CueEvent) (c d : ℕ) → IsClash xs ys c d → IsClash ys xs d c
swapped xs ys c d is = record { slot = is.slot; of_first = is.of_second; of_second = is.of_first }

-- an event that has ended before all of the other list has no clash
without_ended : (x : CueEvent) (xs : List CueEvent) (y : CueEvent) (ys : List CueEvent) → LieApart (slots_of (y ∷ ys)) → x.slot + 2 ≤ y.slot
    → (c d : ℕ) → IsClash (x ∷ xs) (y ∷ ys) c d → IsClash xs (y ∷ ys) c d
without_ended x xs y ys apart ended c d is = by_event is.of_first
  where
    behind : y.slot ≤ is.slot
    behind = begins_by (y ∷ ys) c is.slot y.slot (omega arith, weaker y.slot (y.slot + 2) (slots_of ys) (omega arith) apart.0) is.of_second

    by_event : ((x.cue ≡ d) × (x.slot ≤ is.slot) × (is.slot ≤ x.slot + 1)) ⊎ HoldsFor xs d is.slot → IsClash xs (y ∷ ys) c d
    by_event (inl held) = absurd (omega (arith, held.2, behind))
    by_event (inr held) = record { slot = is.slot; of_first = held; of_second = is.of_second }

-- what is left of both lists has the same clashes
pub record IsLeft (firsts seconds xs ys : List CueEvent) : Type 0 where
  pub still : (c d : ℕ) → IsClash firsts seconds c d → IsClash xs ys c d
  pub back : (c d : ℕ) → IsClash xs ys c d → IsClash firsts seconds c d
  pub first_order : AreOrdered xs
  pub second_order : AreOrdered ys

pub all_left : (firsts seconds : List CueEvent) → AreOrdered firsts → AreOrdered seconds → IsLeft firsts seconds firsts seconds
all_left firsts seconds one two = record { still = λ c d is. is; back = λ c d is. is; first_order = one; second_order = two }

behind_first : (x : CueEvent) (xs : List CueEvent) → AreOrdered (x ∷ xs) → AreOrdered xs
behind_first x xs is = record { apart = is.apart.1; order = is.order.1 }

skip_first : (firsts seconds : List CueEvent) (x : CueEvent) (xs : List CueEvent) (y : CueEvent) (ys : List CueEvent) → x.slot + 2 ≤ y.slot
    → IsLeft firsts seconds (x ∷ xs) (y ∷ ys) → IsLeft firsts seconds xs (y ∷ ys)
skip_first firsts seconds x xs y ys ended left = record {
  still = λ c d is. without_ended x xs y ys left.second_order.apart ended c d (left.still c d is);
  back = λ c d is. left.back c d (record { slot = is.slot; of_first = inr is.of_first; of_second = is.of_second });
  first_order = behind_first x xs left.first_order;
  second_order = left.second_order;
}

skip_second : (firsts seconds : List CueEvent) (x : CueEvent) (xs : List CueEvent) (y : CueEvent) (ys : List CueEvent) → y.slot + 2 ≤ x.slot
    → IsLeft firsts seconds (x ∷ xs) (y ∷ ys) → IsLeft firsts seconds (x ∷ xs) ys
skip_second firsts seconds x xs y ys ended left = record {
  still = λ c d is.
      swapped ys (x ∷ xs) d c
      (without_ended y ys x xs left.first_order.apart ended d c (swapped (x ∷ xs) (y ∷ ys) c d (left.still c d is)));
  back = λ c d is. left.back c d (record { slot = is.slot; of_first = is.of_first; of_second = inr is.of_second });
  first_order = left.first_order;
  second_order = behind_first y ys left.second_order;
}

-- two that hold one slot are of the least cues
meet : (firsts seconds : List CueEvent) (x : CueEvent) (xs : List CueEvent) (y : CueEvent) (ys : List CueEvent) → x.slot < y.slot + 2 → y.slot < x.slot + 2
    → IsLeft firsts seconds (x ∷ xs) (y ∷ ys) → IsLeastClash (IsClash firsts seconds) (record { second = y.cue; first = x.cue })
meet firsts seconds x xs y ys one two left = record {
  clashes = left.back y.cue x.cue (record {
    slot = max x.slot y.slot;
    of_first = inl (refl, omega arith, omega arith);
    of_second = inl (refl, omega arith, omega arith);
  });
  least = λ c d is. cue_from (y ∷ ys) c (left.still c d is).slot y.cue (omega arith, left.second_order.order.0) (left.still c d is).of_second;
  least_first = λ d is. cue_from (x ∷ xs) d (left.still y.cue d is).slot x.cue (omega arith, left.first_order.order.0) (left.still y.cue d is).of_first;
}

-- the same by their numbers in the lists
rest_is : (events : List CueEvent) (i : ℕ) (d : CueEvent) → i < length events → drop i events ≡ get_or events i d ∷ drop (i + 1) events
rest_is events i d within = drop-cons events i d within ∙ ap (λ n. get_or events i d ∷ drop n events) (sym (add-one i))

abbrev pub LeftAt : List CueEvent → List CueEvent → ℕ → ℕ → Type 0
LeftAt firsts seconds i j = IsLeft firsts seconds (drop i firsts) (drop j seconds)

module _ (firsts seconds : List CueEvent) (i j : ℕ) (d : CueEvent) (within : i < length firsts) (too : j < length seconds) (left : LeftAt firsts seconds i j) where
  both : IsLeft firsts seconds (get_or firsts i d ∷ drop (i + 1) firsts) (get_or seconds j d ∷ drop (j + 1) seconds)
  both =
      subst (λ ys. IsLeft firsts seconds (get_or firsts i d ∷ drop (i + 1) firsts) ys) (rest_is seconds j d too)
      (subst (λ xs. IsLeft firsts seconds xs (drop j seconds)) (rest_is firsts i d within) left)

  pub next_first : (get_or firsts i d).slot + 2 ≤ (get_or seconds j d).slot → LeftAt firsts seconds (i + 1) j
  next_first ended =
      subst (λ ys. IsLeft firsts seconds (drop (i + 1) firsts) ys) (sym (rest_is seconds j d too))
      (skip_first firsts seconds (get_or firsts i d) (drop (i + 1) firsts) (get_or seconds j d) (drop (j + 1) seconds) ended both)

  pub next_second : (get_or seconds j d).slot + 2 ≤ (get_or firsts i d).slot → LeftAt firsts seconds i (j + 1)
  next_second ended =
      subst (λ xs. IsLeft firsts seconds xs (drop (j + 1) seconds)) (sym (rest_is firsts i d within))
      (skip_second firsts seconds (get_or firsts i d) (drop (i + 1) firsts) (get_or seconds j d) (drop (j + 1) seconds) ended both)

  pub both_meet : (get_or firsts i d).slot < (get_or seconds j d).slot + 2 → (get_or seconds j d).slot < (get_or firsts i d).slot + 2
      → IsLeastClash (IsClash firsts seconds) (record { second = (get_or seconds j d).cue; first = (get_or firsts i d).cue })
  both_meet one two = meet firsts seconds (get_or firsts i d) (drop (i + 1) firsts) (get_or seconds j d) (drop (j + 1) seconds) one two both

-- where nothing is left of a list, there is no clash
pub no_first : (firsts seconds : List CueEvent) (i j : ℕ) → length firsts ≤ i → LeftAt firsts seconds i j → (c d : ℕ) → IsClash firsts seconds c d → ⊥
no_first firsts seconds i j past left c d is = subst (λ xs. HoldsFor xs d (left.still c d is).slot) (drop_all i firsts past) (left.still c d is).of_first

pub no_second : (firsts seconds : List CueEvent) (i j : ℕ) → length seconds ≤ j → LeftAt firsts seconds i j → (c d : ℕ) → IsClash firsts seconds c d → ⊥
no_second firsts seconds i j past left c d is = subst (λ ys. HoldsFor ys c (left.still c d is).slot) (drop_all j seconds past) (left.still c d is).of_second

-- the order of clashes
no_later : (a b c d : ℕ) → (nat_lt a b || (a == b && nat_le c d)) ≡ true → (a ≤ b) × (b ≤ a → c ≤ d)
no_later a b c d test = by_less (nat_lt a b) refl test
  where
    by_same : (t : Bool) → (a == b) ≡ t → (t && nat_le c d) ≡ true → (a ≤ b) × (b ≤ a → c ≤ d)
    by_same true is test =
        let same : a ≡ b = grind (arith, nat_tests) in
        let below : c ≤ d = grind (arith, nat_tests) in
        (omega arith, λ back. below)
    by_same false is test = cc

    by_less : (t : Bool) → nat_lt a b ≡ t → (t || (a == b && nat_le c d)) ≡ true → (a ≤ b) × (b ≤ a → c ≤ d)
    by_less true is test =
        let less : a < b = grind (arith, nat_tests) in
        (omega arith, λ back. absurd (omega (arith, less, back)))
    by_less false is test = by_same (a == b) refl test

later : (a b c d : ℕ) → (nat_lt a b || (a == b && nat_le c d)) ≡ false → (b ≤ a) × (a ≤ b → d ≤ c)
later a b c d test = by_less (nat_lt a b) refl test
  where
    by_same : (t : Bool) → b ≤ a → (a == b) ≡ t → (t && nat_le c d) ≡ false → (b ≤ a) × (a ≤ b → d ≤ c)
    by_same true most is test = let below : d ≤ c = grind (arith, nat_tests) in (most, λ back. below)
    by_same false most is test =
        let other : (a ≡ b) → ⊥ = grind (arith, nat_tests) in
        (most, λ back. absurd (other (omega (arith, most, back))))

    by_less : (t : Bool) → nat_lt a b ≡ t → (t || (a == b && nat_le c d)) ≡ false → (b ≤ a) × (a ≤ b → d ≤ c)
    by_less true is test = cc
    by_less false is test = let most : b ≤ a = grind (arith, nat_tests) in by_same (a == b) most refl test

-- an event that holds a slot is some cue's
held_for : (events : List Event) (numbered : List CueEvent) (n : ℕ) → slots_of numbered ≡ event_slots events → list_any (holds_at n) events ≡ true
    → (cue : ℕ) × HoldsFor numbered cue n
held_for [] numbered n is any = cc
held_for (event ∷ events) [] n is any = cc
held_for (event ∷ events) (one ∷ more) n is any = by_test (event.slot == n) (event.slot + 1 == n) refl refl (λ left. held_for events more n rest left)
  where
    same : one.slot ≡ event.slot
    same = cc

    rest : slots_of more ≡ event_slots events
    rest = cc

    by_test : (t u : Bool) → (event.slot == n) ≡ t → (event.slot + 1 == n) ≡ u
        → (list_any (holds_at n) events ≡ true → (cue : ℕ) × HoldsFor more cue n) → (cue : ℕ) × HoldsFor (one ∷ more) cue n
    by_test true u here next behind = let at : event.slot ≡ n = grind (arith, nat_tests) in (one.cue, inl (refl, omega (arith, same), omega (arith, same)))
    by_test false true here next behind = let at : event.slot + 1 ≡ n = grind (arith, nat_tests) in (one.cue, inl (refl, omega (arith, same), omega (arith, same)))
    by_test false false here next behind =
        let left : list_any (holds_at n) events ≡ true = sym (ap (λ b. (b || (event.slot + 1 == n)) || list_any (holds_at n) events) here
        ∙ ap (λ b. (false || b) || list_any (holds_at n) events) next) ∙ any in
        ((behind left).0, inr (behind left).1)

-- where no cues clash, no slot is held by both
pub none_shared : NoSlotIsSharedUnlessCuesClash
none_shared one two none in_field n first = by_test (holds (event_at (channel_events channel (slot_cues two channel))) n) refl
  where
    channel : Chan
    channel = authored_channel in_field

    by_test : (t : Bool) → holds (event_at (channel_events channel (slot_cues two channel))) n ≡ t
        → holds (event_at (channel_events channel (slot_cues two channel))) n ≡ false
    by_test false is = is
    by_test true is =
        let a = held_for (channel_events channel (slot_cues one channel)) (list_events one channel) n (channel_slots channel (slot_cues one channel))
        (any_holds (channel_events channel (slot_cues one channel)) n ∙ first) in
        let b = held_for (channel_events channel (slot_cues two channel)) (list_events two channel) n (channel_slots channel (slot_cues two channel))
        (any_holds (channel_events channel (slot_cues two channel)) n ∙ is) in
        absurd (none b.0 a.0 (in_field, record { slot = n; of_first = a.1; of_second = b.1 }))

-- the clashes of two fields
module _ (one two : Listing) where
  abbrev In : FieldNumber → ℕ → ℕ → Type 0
  In in_field = IsClash (list_events one (authored_channel in_field)) (list_events two (authored_channel in_field))

  either : (a b : Option Clash) → IsLeast (In One) a → IsLeast (In Two) b → IsLeast (IsFieldClash one two) (earlier a b)
  either None None first second = none
    where
      none : (c d : ℕ) → IsFieldClash one two c d → ⊥
      none c d (One, is) = first c d is
      none c d (Two, is) = second c d is
  either None (Some b) first second = record {
    clashes = (Two, second.clashes);
    least = least;
    least_first = least_first;
  }
    where
      least : (c d : ℕ) → IsFieldClash one two c d → b.second ≤ c
      least c d (One, is) = absurd (first c d is)
      least c d (Two, is) = second.least c d is

      least_first : (d : ℕ) → IsFieldClash one two b.second d → b.first ≤ d
      least_first d (One, is) = absurd (first b.second d is)
      least_first d (Two, is) = second.least_first d is
  either (Some a) None first second = record {
    clashes = (One, first.clashes);
    least = least;
    least_first = least_first;
  }
    where
      least : (c d : ℕ) → IsFieldClash one two c d → a.second ≤ c
      least c d (One, is) = first.least c d is
      least c d (Two, is) = absurd (second c d is)

      least_first : (d : ℕ) → IsFieldClash one two a.second d → a.first ≤ d
      least_first d (One, is) = first.least_first d is
      least_first d (Two, is) = absurd (second a.second d is)
  either (Some a) (Some b) first second = by_test (is_no_later a b) refl
    where
      by_test : (t : Bool) → is_no_later a b ≡ t → IsLeast (IsFieldClash one two) (if t then Some a else Some b)
      by_test true test = record { clashes = (One, first.clashes); least = least; least_first = least_first }
        where
          order : (a.second ≤ b.second) × (b.second ≤ a.second → a.first ≤ b.first)
          order = no_later a.second b.second a.first b.first test

          least : (c d : ℕ) → IsFieldClash one two c d → a.second ≤ c
          least c d (One, is) = first.least c d is
          least c d (Two, is) = omega (arith, order.0, second.least c d is)

          least_first : (d : ℕ) → IsFieldClash one two a.second d → a.first ≤ d
          least_first d (One, is) = first.least_first d is
          least_first d (Two, is) =
              let same : a.second ≡ b.second = omega (arith, order.0, second.least a.second d is) in
              let below : b.first ≤ d = second.least_first d (subst (λ c. In Two c d) same is) in
              omega (arith, order.1 (second.least a.second d is), below)
      by_test false test = record { clashes = (Two, second.clashes); least = least; least_first = least_first }
        where
          order : (b.second ≤ a.second) × (a.second ≤ b.second → b.first ≤ a.first)
          order = later a.second b.second a.first b.first test

          least : (c d : ℕ) → IsFieldClash one two c d → b.second ≤ c
          least c d (One, is) = omega (arith, order.0, first.least c d is)
          least c d (Two, is) = second.least c d is

          least_first : (d : ℕ) → IsFieldClash one two b.second d → b.first ≤ d
          least_first d (One, is) =
              let same : b.second ≡ a.second = omega (arith, order.0, first.least b.second d is) in
              let below : a.first ≤ d = first.least_first d (subst (λ c. In One c d) same is) in
              omega (arith, order.1 (first.least b.second d is), below)
          least_first d (Two, is) = second.least_first d is

  pub both_fields : (a b : Option Clash) → IsLeast (In One) a → IsLeast (In Two) b → IsLeast (IsFieldClash one two) (earlier a b)
  both_fields = either
