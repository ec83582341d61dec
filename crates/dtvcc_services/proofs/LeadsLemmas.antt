-- One event more, for all services or for one.
use Rattle.std.proofs.Common.{◌≡◌, ℕ, ◌+◌, ◌-◌, ◌<◌, ◌≤◌, ◌==◌, ◌||◌, nat_lt, min, Bool, true, false, if◌then◌else◌, List, [], ◌∷◌, ◌++◌, Option, Some, None, append_assoc, append-nil, get_or, length, refl, take, take_at, sym, ap, subst, ◌∙◌, arith, zero, suc}
use Rattle.std.proofs.Math.ListN.{set}
use Rattle.std.proofs.lemmas.Bool.Decides.{nat_tests}
use Rattle.std.proofs.lemmas.Grind.{common_steps}
use Rattle.std.proofs.lemmas.Option.{same_Some, slice_get_read, slice_get_within}
use Rattle.std.specs.List.{slice_get}
use Rattle.cc_base.specs.declared.rate.Rate.{Rate}
use Rattle.dtvcc_screen.specs.declared.clock.Clock.{Clock}
use Rattle.dtvcc_screen.specs.declared.cores.Core.{Core}
use Rattle.dtvcc_screen.specs.Cores.{CoreState, after_byte, after_tick, clean, fill}
use Rattle.dtvcc_screen.specs.Meaning.{Event, Tick, Byte, Reset, Served, served_after, on_event, start, ticked}
use Rattle.dtvcc_screen.specs.Objects.{Stands, core_delay_end, screen_in}
use Rattle.dtvcc_screen.specs.Screens.{ScreenState}
use Rattle.dtvcc_screen.specs.Shown.{LooksSame, grids}
use Rattle.dtvcc_screen.proofs.MeaningLemmas.{after_append, after_more}
use Rattle.dtvcc_services.specs.declared.members.Member.{Member}
use Rattle.dtvcc_services.specs.declared.services.Services.{Services}
use Rattle.dtvcc_services.specs.Filling.{is_filled, is_filled_by}
use Rattle.dtvcc_services.specs.Numbers.{IsLowest, IsLowestService, IsService}
use Rattle.dtvcc_services.specs.Objects.{Events, LeadTo, Leads, Serves, screen_at, served_now, service_behind}
use Rattle.dtvcc_services.specs.Passing.{HaveStepped, least_with}
use Rattle.dtvcc_services.proofs.PassLemmas.{clean_waits, least_first, least_second}
use Rattle.dtvcc_services.proofs.PlaceLemmas.{set_other, set_same, some_at}

-- whether one of the events fills the buffer, with one event more
or_false : (b : Bool) → (b || false) ≡ b
or_false true = refl
or_false false = refl

or_assoc : (a b c : Bool) → (a || (b || c)) ≡ ((a || b) || c)
or_assoc true b c = refl
or_assoc false b c = refl

filled_more : (s : Served) (events : List Event) (event : Event)
    → is_filled s (events ++ event ∷ []) ≡ (is_filled s events || is_filled_by (served_after s events) event)
filled_more s [] event = or_false (is_filled_by s event)
filled_more s (first ∷ events) event =
    ap (λ (b : Bool). is_filled_by s first || b) (filled_more (on_event first s) events event)
    ∙ or_assoc (is_filled_by s first) (is_filled (on_event first s) events) (is_filled_by (served_after (on_event first s) events) event)

-- the lowest service of which a test holds
lowest_same : (test other : ℕ → Bool) (found : Option ℕ) → ((service : ℕ) → other service ≡ test service) → IsLowest test found → IsLowest other found
lowest_same test other None same lowest = λ service is. same service ∙ lowest service is
lowest_same test other (Some found) same lowest = record {
  is = lowest.is;
  holds = same found ∙ lowest.holds;
  below = λ service from less. same service ∙ lowest.below service from less;
}

lowest_more : (test other : ℕ → Bool) (found : Option ℕ) (service : ℕ) → IsService service
    → ((s : ℕ) → (service ≡ s → ⊥) → other s ≡ test s) → other service ≡ true → IsLowest test found
    → IsLowest other (Some (least_with service found))
lowest_more test other None service is apart holds lowest = record {
  is = is;
  holds = holds;
  below = λ s from less.
      apart s (λ same. omega (arith, same, less)) ∙ lowest s (record { from = from; to = let most = is.to in omega (arith, less, most) });
}
lowest_more test other (Some found) service is apart holds lowest = at (nat_lt found service) refl where
  lower : found < service → IsLowestService other found
  lower less = record {
    is = lowest.is;
    holds = apart found (λ same. omega (arith, same, less)) ∙ lowest.holds;
    below = λ s from below. apart s (λ same. omega (arith, same, less, below)) ∙ lowest.below s from below;
  }

  upper : service ≤ found → IsLowestService other service
  upper most = record {
    is = is;
    holds = holds;
    below = λ s from below. apart s (λ same. omega (arith, same, below)) ∙ lowest.below s from (omega (arith, below, most));
  }

  at : (test_lower : Bool) → nat_lt found service ≡ test_lower → IsLowestService other (min service found)
  at true is_lower =
      let less : found < service = grind (arith, nat_tests) in
      let least : found ≡ min service found = grind arith in
      subst (λ (n : ℕ). IsLowestService other n) least (lower less)
  at false is_lower =
      let most : service ≤ found = grind (arith, nat_tests) in
      let least : service ≡ min service found = grind arith in
      subst (λ (n : ℕ). IsLowestService other n) least (upper most)

-- one event more leads on
serves_more : (events : List Event) (event : Event) (now : Clock) (core : Core) → now ≡ (on_event event (served_after start events)).clock
    → Stands (on_event event (served_after start events)).core core → Serves (events ++ event ∷ []) now core
serves_more events event now core clock stands = record {
  told = clock ∙ sym (ap (λ (s : Served). s.clock) (after_more start events event));
  stands = subst (λ (s : Served). Stands s.core core) (sym (after_more start events event)) stands;
}

-- what is shown of states is what is shown of the objects that stand in them
looks : (old new : CoreState) (was now : Core) → Stands old was → Stands new now → LooksSame (screen_in was) (screen_in now) → LooksSame old.screen new.screen
looks old new was now one other same id =
    ap (λ (s : ScreenState). grids s id) (sym other.carries.screen) ∙ same id ∙ ap (λ (s : ScreenState). grids s id) one.carries.screen

-- a statement of each place is one of each service
by_place : (Holds : ℕ → Type 0) → ((place : ℕ) → place < 63 → Holds (place + 1)) → (service : ℕ) → IsService service → Holds service
by_place Holds each service is =
    let from = is.from in
    let to = is.to in
    let place : service - 1 + 1 ≡ service = omega (arith, from) in
    subst Holds place (each (service - 1) (omega (arith, from, to)))

-- who stood at a place before a pass
was_at : (was now : List Member) (place : ℕ) (member : Member) → length now ≡ length was → slice_get now place ≡ Some member
    → (before : Member) × (slice_get was place ≡ Some before)
was_at was now place member count is =
    let within = slice_get_within now place member is in some_at was place (omega (arith, count, within))

-- a frame begins for all
pub tick_leads : (before frame : Events) (was now : List Member) (clock next_clock : Clock) (rate : Rate) (next later : ℕ) (touched seen : Bool)
    (filled : Option ℕ) → LeadTo before frame was clock next touched filled → length was ≡ 63 → next_clock ≡ ticked rate clock
    → HaveStepped (after_tick next_clock) later seen was now
    → LeadTo (λ service. before service ++ frame service) (λ service. Tick rate ∷ []) now next_clock later seen None
tick_leads before frame was now clock next_clock rate next later touched seen filled leads count is stepped = record {
  serves = λ place member here. let one = was_at was now place member stepped.count here in serves_at place one.0 member one.1 here;
  waits = λ place member here.
      let one = was_at was now place member stepped.count here in let step = stepped.each place one.0 member one.1 here in step.ends;
  same = λ none. by_place (λ service. LooksSame (screen_at (served_after start (events service))) (screen_at (served_after start (events service ++ Tick rate ∷ []))))
      (looks_at none);
  lowest = λ service is_service. refl;
} where
  events : ℕ → List Event
  events service = before service ++ frame service

  serves_at : (place : ℕ) (one other : Member) → slice_get was place ≡ Some one → slice_get now place ≡ Some other
      → Serves (events (place + 1) ++ Tick rate ∷ []) next_clock other.core
  serves_at place one other from to =
      let serves = leads.serves place one from in
      let step = stepped.each place one other from to in
      let clock_is : next_clock ≡ ticked rate (served_after start (events (place + 1))).clock = is ∙ ap (ticked rate) serves.told in
      serves_more (events (place + 1)) (Tick rate) next_clock other.core clock_is
      (subst (λ (c : Clock). Stands (after_tick c (served_after start (events (place + 1))).core) other.core) clock_is
      (step.stands (served_after start (events (place + 1))).core serves.stands))

  looks_at : seen ≡ false → (place : ℕ) → place < 63
      → LooksSame (screen_at (served_after start (events (place + 1)))) (screen_at (served_after start (events (place + 1) ++ Tick rate ∷ [])))
  looks_at none place within =
      let one = some_at was place (omega (arith, within, count)) in
      let counts = stepped.count in
      let other = some_at now place (omega (arith, within, count, counts)) in
      let serves = leads.serves place one.0 one.1 in
      let next_serves = serves_at place one.0 other.0 one.1 other.1 in
      let step = stepped.each place one.0 other.0 one.1 other.1 in
      looks (served_after start (events (place + 1))).core (served_after start (events (place + 1) ++ Tick rate ∷ [])).core (one.0).core (other.0).core
      serves.stands next_serves.stands (step.same none)

-- all are reset
pub reset_leads : (before frame : Events) (was now : List Member) (clock : Clock) (next later : ℕ) (touched seen more : Bool) (filled : Option ℕ)
    → LeadTo before frame was clock next touched filled → length was ≡ 63 → HaveStepped (λ state. clean) later seen was now
    → (more ≡ false → touched ≡ false) → (more ≡ false → seen ≡ false)
    → LeadTo before (λ service. frame service ++ Reset ∷ []) now clock later more filled
reset_leads before frame was now clock next later touched seen more filled leads count stepped old_none new_none = record {
  serves = λ place member here. let one = was_at was now place member stepped.count here in serves_at place one.0 member one.1 here;
  waits = λ place member here.
      let one = was_at was now place member stepped.count here in let step = stepped.each place one.0 member one.1 here in step.ends;
  same = λ none service is_service id.
      by_place (λ s. LooksSame (screen_at (served_now before frame s)) (screen_at (served_now before next_frame s))) (looks_at (new_none none)) service is_service id
      ∙ leads.same (old_none none) service is_service id;
  lowest = lowest_same (λ s. is_filled (service_behind before s) (frame s)) (λ s. is_filled (service_behind before s) (next_frame s)) filled
      (λ s. filled_more (service_behind before s) (frame s) Reset ∙ or_false (is_filled (service_behind before s) (frame s))) leads.lowest;
} where
  next_frame : ℕ → List Event
  next_frame service = frame service ++ Reset ∷ []

  serves_at : (place : ℕ) (one other : Member) → slice_get was place ≡ Some one → slice_get now place ≡ Some other
      → Serves (before (place + 1) ++ next_frame (place + 1)) clock other.core
  serves_at place one other from to =
      let serves = leads.serves place one from in
      let step = stepped.each place one other from to in
      subst (λ (events : List Event). Serves events clock other.core) (append_assoc (before (place + 1)) (frame (place + 1)) (Reset ∷ []))
      (serves_more (before (place + 1) ++ frame (place + 1)) Reset clock other.core serves.told
      (step.stands (served_after start (before (place + 1) ++ frame (place + 1))).core serves.stands))

  looks_at : seen ≡ false → (place : ℕ) → place < 63
      → LooksSame (screen_at (served_now before frame (place + 1))) (screen_at (served_now before next_frame (place + 1)))
  looks_at none place within =
      let one = some_at was place (omega (arith, within, count)) in
      let counts = stepped.count in
      let other = some_at now place (omega (arith, within, count, counts)) in
      let serves = leads.serves place one.0 one.1 in
      let next_serves = serves_at place one.0 other.0 one.1 other.1 in
      let step = stepped.each place one.0 other.0 one.1 other.1 in
      looks (served_now before frame (place + 1)).core (served_now before next_frame (place + 1)).core (one.0).core (other.0).core
      serves.stands next_serves.stands (step.same none)

-- a byte comes to one
or_true : (b : Bool) → (b || true) ≡ true
or_true true = refl
or_true false = refl

abbrev pub with_byte : ℕ → ℕ → Events → Events
with_byte service byte frame other = frame other ++ (if service == other then Byte byte ∷ [] else [])

same_test : (service other : ℕ) → service ≡ other → (service == other) ≡ true
same_test service other same = grind (arith, nat_tests)

other_test : (service other : ℕ) → (service ≡ other → ⊥) → (service == other) ≡ false
other_test service other apart = grind (arith, nat_tests)

byte_here : (service byte : ℕ) (frame : Events) → with_byte service byte frame service ≡ frame service ++ Byte byte ∷ []
byte_here service byte frame = ap (λ (b : Bool). frame service ++ (if b then Byte byte ∷ [] else [])) (same_test service service refl)

byte_other : (service byte : ℕ) (frame : Events) (other : ℕ) → (service ≡ other → ⊥) → with_byte service byte frame other ≡ frame other
byte_other service byte frame other apart =
    ap (λ (b : Bool). frame other ++ (if b then Byte byte ∷ [] else [])) (other_test service other apart) ∙ append-nil (frame other)

pub record IsTaken (byte : ℕ) (clock : Clock) (full seen : Bool) (one other : Member) : Type 0 where
  pub stands : (state : CoreState) → Stands state one.core → Stands (after_byte byte clock state) other.core
  pub full_is : (state : CoreState) → Stands state one.core → full ≡ (fill byte state == 128)
  pub same : seen ≡ false → LooksSame (screen_in one.core) (screen_in other.core)

pub byte_leads : (before frame : Events) (was : List Member) (clock : Clock) (next later : ℕ) (end : Option ℕ) (touched more full seen : Bool) (filled found : Option ℕ)
    (service byte place : ℕ) (one other : Member) → LeadTo before frame was clock next touched filled → length was ≡ 63 → IsService service
    → place + 1 ≡ service → one ≡ get_or was place one → IsTaken byte clock full seen one other → later ≡ least_with next end
    → end ≡ core_delay_end other.core → (more ≡ false → touched ≡ false) → (more ≡ false → seen ≡ false)
    → found ≡ (if full then Some (least_with service filled) else filled)
    → LeadTo before (with_byte service byte frame) (set was place other) clock later more found
byte_leads before frame was clock next later end touched more full seen filled found service byte place one other leads count is_service at_place read taken
    later_is end_is old_none new_none found_is = record {
      serves = λ i member here. serves_if (i == place) i member refl here;
      waits = λ i member here. waits_if (i == place) i member refl here;
      same = λ none s is_s. same_if (service == s) none s refl is_s;
      lowest = subst (λ (o : Option ℕ). IsLowest next_test o) (sym found_is) (lowest_if full refl);
    } where
      next_frame : Events
      next_frame = with_byte service byte frame

      within : place < length was
      within = let to = is_service.to in omega (arith, at_place, count, to)

      is_one : slice_get was place ≡ Some one
      is_one = slice_get_read was (length was) place one refl within read

      state : Served
      state = served_after start (before service ++ frame service)

      served_one : Serves (before service ++ frame service) clock one.core
      served_one = subst (λ (n : ℕ). Serves (before n ++ frame n) clock one.core) at_place (leads.serves place one is_one)

      events_here : (before service ++ frame service) ++ Byte byte ∷ [] ≡ before service ++ next_frame service
      events_here = append_assoc (before service) (frame service) (Byte byte ∷ [])
          ∙ ap (λ (events : List Event). before service ++ events) (sym (byte_here service byte frame))

      served_other : Serves (before service ++ next_frame service) clock other.core
      served_other = subst (λ (events : List Event). Serves events clock other.core) events_here
          (serves_more (before service ++ frame service) (Byte byte) clock other.core served_one.told
          (subst (λ (c : Clock). Stands (after_byte byte c (served_after start (before service ++ frame service)).core) other.core) served_one.told
          (taken.stands (served_after start (before service ++ frame service)).core served_one.stands)))

      is_other : (i : ℕ) (member : Member) → i ≡ place → slice_get (set was place other) i ≡ Some member → other ≡ member
      is_other i member same here = same_Some other member (sym (set_same was place other within) ∙ ap (slice_get (set was place other)) (sym same) ∙ here)

      serves_if : (test : Bool) (i : ℕ) (member : Member) → (i == place) ≡ test → slice_get (set was place other) i ≡ Some member
          → Serves (before (i + 1) ++ next_frame (i + 1)) clock member.core
      serves_if true i member is here =
          let same : i ≡ place = grind (arith, nat_tests) in
          let at_i : service ≡ i + 1 = omega (arith, same, at_place) in
          subst (λ (m : Member). Serves (before (i + 1) ++ next_frame (i + 1)) clock m.core) (is_other i member same here)
          (subst (λ (n : ℕ). Serves (before n ++ next_frame n) clock other.core) at_i served_other)
      serves_if false i member is here =
          let apart : (i ≡ place → ⊥) = λ same. grind (arith, nat_tests) in
          let apart_service : (service ≡ i + 1 → ⊥) = λ same. apart (omega (arith, same, at_place)) in
          subst (λ (events : List Event). Serves (before (i + 1) ++ events) clock member.core) (sym (byte_other service byte frame (i + 1) apart_service))
          (leads.serves i member (sym (set_other was place other i apart) ∙ here))

      waits_if : (test : Bool) (i : ℕ) (member : Member) → (i == place) ≡ test → slice_get (set was place other) i ≡ Some member
          → (last : ℕ) → core_delay_end member.core ≡ Some last → later ≤ last
      waits_if true i member is here last ends =
          let same : i ≡ place = grind (arith, nat_tests) in
          least_second next last later end later_is
          (end_is ∙ ap (λ (m : Member). core_delay_end m.core) (is_other i member same here) ∙ ends)
      waits_if false i member is here last ends =
          let apart : (i ≡ place → ⊥) = λ same. grind (arith, nat_tests) in
          let first = least_first next later end later_is in
          let from = leads.waits i member (sym (set_other was place other i apart) ∙ here) last ends in
          omega (arith, first, from)

      same_if : (test : Bool) → more ≡ false → (s : ℕ) → (service == s) ≡ test → IsService s
          → LooksSame (screen_at (service_behind before s)) (screen_at (served_now before next_frame s))
      same_if true none s is is_s id =
          let same : service ≡ s = grind (arith, nat_tests) in
          subst (λ (n : ℕ). grids (screen_at (served_now before next_frame n)) id ≡ grids (screen_at (service_behind before n)) id) same
          (looks (served_now before frame service).core (served_now before next_frame service).core one.core other.core served_one.stands served_other.stands
          (taken.same (new_none none)) id
          ∙ leads.same (old_none none) service is_service id)
      same_if false none s is is_s id =
          let apart : (service ≡ s → ⊥) = λ same. grind (arith, nat_tests) in
          subst (λ (events : List Event). grids (screen_at (served_after start (before s ++ events))) id ≡ grids (screen_at (service_behind before s)) id)
          (sym (byte_other service byte frame s apart)) (leads.same (old_none none) s is_s id)

      test : ℕ → Bool
      test s = is_filled (service_behind before s) (frame s)

      next_test : ℕ → Bool
      next_test s = is_filled (service_behind before s) (next_frame s)

      test_apart : (s : ℕ) → (service ≡ s → ⊥) → next_test s ≡ test s
      test_apart s apart = ap (is_filled (service_behind before s)) (byte_other service byte frame s apart)

      test_here : next_test service ≡ (test service || full)
      test_here = ap (is_filled (service_behind before service)) (byte_here service byte frame)
          ∙ filled_more (service_behind before service) (frame service) (Byte byte)
          ∙ ap (λ (t : Served). test service || (fill byte t.core == 128)) (sym (after_append start (before service) (frame service)))
          ∙ ap (λ (b : Bool). test service || b) (sym (taken.full_is (served_after start (before service ++ frame service)).core served_one.stands))

      test_same : full ≡ false → (s : ℕ) (same : Bool) → (service == s) ≡ same → next_test s ≡ test s
      test_same not_full s true is =
          let same : service ≡ s = grind (arith, nat_tests) in
          subst (λ (n : ℕ). next_test n ≡ test n) same
          (test_here ∙ ap (λ (b : Bool). test service || b) not_full ∙ or_false (test service))
      test_same not_full s false is = test_apart s (λ same. grind (arith, nat_tests))

      lowest_if : (b : Bool) → full ≡ b → IsLowest next_test (if b then Some (least_with service filled) else filled)
      lowest_if true is =
          lowest_more test next_test filled service is_service test_apart
          (test_here ∙ ap (λ (b : Bool). test service || b) is ∙ or_true (test service)) leads.lowest
      lowest_if false is = lowest_same test next_test filled (λ s. test_same is s (service == s) refl) leads.lowest

-- before the first frame
pub none_lead : (members : List Member) (now : Clock) (next : ℕ) → now ≡ start.clock
    → ((place : ℕ) (member : Member) → slice_get members place ≡ Some member → Stands clean member.core)
    → LeadTo (λ service. []) (λ service. []) members now next false None
none_lead members now next clock are = record {
  serves = λ place member here. record { told = clock; stands = are place member here };
  waits = λ place member here. clean_waits member next (are place member here);
  same = λ none service is_service id. refl;
  lowest = λ service is_service. refl;
}

-- all new services are clean
abbrev pub AreClean : List Member → Type 0
AreClean members = (place : ℕ) (member : Member) → slice_get members place ≡ Some member → Stands clean member.core

pub none_clean : (members : List Member) → members ≡ [] → AreClean members
none_clean [] is = λ place member here. cc
none_clean (x ∷ xs) is = cc

push_clean : (members : List Member) (member : Member) → AreClean members → Stands clean member.core → AreClean (members ++ member ∷ [])
push_clean [] member are new zero other is = subst (λ (m : Member). Stands clean m.core) (same_Some member other is) new
push_clean [] member are new (suc place) other is = cc
push_clean (x ∷ xs) member are new zero other is = are zero other is
push_clean (x ∷ xs) member are new (suc place) other is = push_clean xs member (λ k. are (suc k)) new place other is

pub more_clean : (members next : List Member) (member : Member) → next ≡ members ++ member ∷ [] → AreClean members → Stands clean member.core → AreClean next
more_clean members next member is are new = subst AreClean (sym is) (push_clean members member are new)

-- the service at a place
pub stands_at : (before frame : Events) (members : List Member) (now : Clock) (next : ℕ) (touched : Bool) (filled : Option ℕ) (service place : ℕ) (member : Member)
    → LeadTo before frame members now next touched filled → length members ≡ 63 → place + 1 ≡ service → place < 63 → member ≡ get_or members place member
    → Stands (served_now before frame service).core member.core
stands_at before frame members now next touched filled service place member leads count at_place within read =
    let here = slice_get_read members (length members) place member refl (omega (arith, count, within)) read in
    let serves = leads.serves place member here in
    subst (λ (n : ℕ). Stands (served_now before frame n).core member.core) at_place serves.stands

-- a pass over the same services
pub stepped_from : {step : CoreState → CoreState} {next : ℕ} {noted : Bool} {given was now : List Member} → given ≡ was
    → HaveStepped step next noted given now → HaveStepped step next noted was now
stepped_from {step = step} {next = next} {noted = noted} {now = now} same stepped =
    subst (λ (members : List Member). HaveStepped step next noted members now) same stepped

-- what a borrowed slice became, as long as it was, is what its vector becomes
pub written_back : (before frame : Events) (members rest : List Member) (count : ℕ) (now : Clock) (next : ℕ) (touched : Bool) (filled : Option ℕ)
    → length members ≡ count → LeadTo before frame members now next touched filled
    → LeadTo before frame (take count (members ++ rest)) now next touched filled
written_back before frame members rest count now next touched filled is leads =
    subst (λ (list : List Member). LeadTo before frame list now next touched filled) (sym (take_at members rest count is)) leads

-- events that are the same for each service lead to the same
lowest_alike : (test other : ℕ → Bool) (found : Option ℕ) → ((service : ℕ) → IsService service → other service ≡ test service)
    → IsLowest test found → IsLowest other found
lowest_alike test other None same lowest = λ service is. same service is ∙ lowest service is
lowest_alike test other (Some found) same lowest = record {
  is = lowest.is;
  holds = same found lowest.is ∙ lowest.holds;
  below = λ service from less.
      same service (record { from = from; to = let most = lowest.is.to in omega (arith, less, most) }) ∙ lowest.below service from less;
}

leads_same : (before frame before_too frame_too : Events) (members : List Member) (now : Clock) (next : ℕ) (touched : Bool) (filled : Option ℕ)
    → length members ≡ 63 → ((service : ℕ) → IsService service → before_too service ≡ before service)
    → ((service : ℕ) → IsService service → frame_too service ≡ frame service)
    → LeadTo before frame members now next touched filled → LeadTo before_too frame_too members now next touched filled
leads_same before frame before_too frame_too members now next touched filled count before_is frame_is leads = record {
  serves = λ place member here.
      subst (λ (events : List Event). Serves events now member.core) (sym (both (place + 1) (is_place place member here))) (leads.serves place member here);
  waits = leads.waits;
  same = λ none service is id.
      ap (λ (events : List Event). grids (screen_at (served_after start events)) id) (both service is)
      ∙ leads.same none service is id
      ∙ sym (ap (λ (events : List Event). grids (screen_at (served_after start events)) id) (before_is service is));
  lowest = lowest_alike (λ service. is_filled (service_behind before service) (frame service))
      (λ service. is_filled (service_behind before_too service) (frame_too service)) filled
      (λ service is. ap (λ (events : List Event). is_filled (served_after start events) (frame_too service)) (before_is service is)
      ∙ ap (is_filled (service_behind before service)) (frame_is service is)) leads.lowest;
} where
  both : (service : ℕ) → IsService service → before_too service ++ frame_too service ≡ before service ++ frame service
  both service is =
      ap (λ (events : List Event). events ++ frame_too service) (before_is service is)
      ∙ ap (λ (events : List Event). before service ++ events) (frame_is service is)

  is_place : (place : ℕ) (member : Member) → slice_get members place ≡ Some member → IsService (place + 1)
  is_place place member here =
      let within = slice_get_within members place member here in
      record { from = omega arith; to = omega (arith, count, within) }

pub leads_alike : (before frame before_too frame_too : Events) (services : Services)
    → ((service : ℕ) → IsService service → before_too service ≡ before service)
    → ((service : ℕ) → IsService service → frame_too service ≡ frame service)
    → Leads before frame services → Leads before_too frame_too services
leads_alike before frame before_too frame_too services before_is frame_is leads =
    let known = services.count in
    let count : length services.members.items ≡ 63 = grind (arith, common_steps) in
    leads_same before frame before_too frame_too services.members.items services.clock services.next services.touched services.filled count
    before_is frame_is leads

-- a byte of no service is nothing
pub byte_of_none : (before frame : Events) (services : Services) (service byte : ℕ) → (IsService service → ⊥) → Leads before frame services
    → Leads before (with_byte service byte frame) services
byte_of_none before frame services service byte none leads =
    leads_alike before frame before (with_byte service byte frame) services (λ s is. refl)
    (λ s is. byte_other service byte frame s (λ same. none (subst IsService (sym same) is))) leads
