-- A pass over all services, one by one.
use Rattle.std.proofs.Common.{◌≡◌, ℕ, ◌+◌, ◌<◌, ◌≤◌, ◌==◌, ◌||◌, Bool, true, false, if◌then◌else◌, List, Option, Some, None, get_or, length, refl, sym, ap, subst, ◌∙◌, arith}
use Rattle.std.proofs.Math.ListN.{set}
use Rattle.std.proofs.lemmas.Bool.Decides.{nat_tests}
use Rattle.std.proofs.lemmas.Option.{same_Some, slice_get-get_or, slice_get_within}
use Rattle.std.specs.List.{slice_get}
use Rattle.dtvcc_screen.specs.declared.clock.Clock.{Clock}
use Rattle.dtvcc_screen.specs.declared.cores.Core.{Core}
use Rattle.dtvcc_screen.specs.Cores.{CoreState, after_tick, clean, is_due, released}
use Rattle.dtvcc_screen.specs.Objects.{Notes, Stands, core_delay_end, has_changed, screen_in}
use Rattle.dtvcc_screen.specs.Screens.{ScreenState}
use Rattle.dtvcc_screen.specs.Shown.{LooksSame, grids}
use Rattle.dtvcc_services.specs.declared.members.Member.{Member}
use Rattle.dtvcc_services.specs.Passing.{HasStepped, HaveStepped, NoneEndsBefore, least_with}
use Rattle.dtvcc_services.proofs.PlaceLemmas.{set_count, set_other, set_same}

-- the services below a place have stepped, and the others are as they were
pub record HaveBelow (step : CoreState → CoreState) (next : ℕ) (noted : Bool) (place : ℕ) (was now : List Member) : Type 0 where
  pub count : length now ≡ length was
  pub each : (i : ℕ) (before after : Member) → i < place → slice_get was i ≡ Some before → slice_get now i ≡ Some after
      → HasStepped step next noted before after
  pub left : (i : ℕ) → place ≤ i → slice_get now i ≡ slice_get was i

pub none_below : (step : CoreState → CoreState) (next : ℕ) (noted : Bool) (members : List Member) → HaveBelow step next noted 0 members members
none_below step next noted members = record {
  count = refl;
  each = λ i before after below was now. absurd (omega (arith, below));
  left = λ i from. refl;
}

weaker : (step : CoreState → CoreState) (next earlier : ℕ) (noted more : Bool) (was now : Member) → earlier ≤ next → (more ≡ false → noted ≡ false)
    → HasStepped step next noted was now → HasStepped step earlier more was now
weaker step next earlier noted more was now less fewer stepped = record {
  stands = stepped.stands;
  ends = λ end is. let from = stepped.ends end is in omega (arith, less, from);
  same = λ is. stepped.same (fewer is);
}

-- the next one steps
pub more_below : (step : CoreState → CoreState) (next earlier : ℕ) (noted more : Bool) (place : ℕ) (was now : List Member) (default after : Member)
    → HaveBelow step next noted place was now → place < length now → earlier ≤ next → (more ≡ false → noted ≡ false)
    → HasStepped step earlier more (get_or now place default) after
    → HaveBelow step earlier more (place + 1) was (set now place after)
more_below step next earlier noted more place was now default after so_far within less fewer stepped = record {
  count = set_count now place after ∙ so_far.count;
  each = λ i one other below from to. at (i == place) i one other refl below from to;
  left = λ i from. set_other now place after i (λ same. omega (arith, same, from)) ∙ so_far.left i (omega (arith, from));
} where
  before : Member
  before = get_or now place default

  is_before : slice_get was place ≡ Some (get_or now place default)
  is_before = sym (so_far.left place (omega arith)) ∙ slice_get-get_or now place default within

  here : (i : ℕ) (one other : Member) → i ≡ place → slice_get was i ≡ Some one → slice_get (set now place after) i ≡ Some other
      → HasStepped step earlier more one other
  here i one other same from to =
      let is_one : before ≡ one = same_Some before one (sym is_before ∙ ap (slice_get was) (sym same) ∙ from) in
      let is_other : after ≡ other =
      same_Some after other (sym (set_same now place after within) ∙ ap (slice_get (set now place after)) (sym same) ∙ to) in
      subst (λ (m : Member). HasStepped step earlier more m other) is_one
      (subst (λ (m : Member). HasStepped step earlier more before m) is_other stepped)

  at : (test : Bool) (i : ℕ) (one other : Member) → (i == place) ≡ test → i < place + 1 → slice_get was i ≡ Some one
      → slice_get (set now place after) i ≡ Some other → HasStepped step earlier more one other
  at true i one other is below from to = here i one other (grind (arith, nat_tests)) from to
  at false i one other is below from to =
      let apart : (i ≡ place → ⊥) = λ same. grind (arith, nat_tests) in
      weaker step next earlier noted more one other less fewer
      (so_far.each i one other (grind (arith, nat_tests)) from (sym (set_other now place after i apart) ∙ to))

-- after the last one all have
pub all_below : (step : CoreState → CoreState) (next : ℕ) (noted : Bool) (place : ℕ) (was now : List Member) → HaveBelow step next noted place was now
    → length was ≤ place → HaveStepped step next noted was now
all_below step next noted place was now so_far past = record {
  count = so_far.count;
  each = λ i before after from to. so_far.each i before after (within i before from) from to;
} where
  within : (i : ℕ) (before : Member) → slice_get was i ≡ Some before → i < place
  within i before from = omega (arith, past, slice_get_within was i before from)

-- the lesser one of two numbers
pub least_first : (n least : ℕ) (other : Option ℕ) → least ≡ least_with n other → least ≤ n
least_first n least None is = grind arith
least_first n least (Some m) is = grind arith

pub least_second : (n m least : ℕ) (other : Option ℕ) → least ≡ least_with n other → other ≡ Some m → least ≤ m
least_second n m least None is other = cc
least_second n m least (Some k) is other = grind arith

-- what either notes
pub noted_before : (one other both : Bool) → both ≡ (one || other) → both ≡ false → one ≡ false
noted_before true other both is none = cc
noted_before false other both is none = refl

pub noted_now : (one other both : Bool) → both ≡ (one || other) → both ≡ false → other ≡ false
noted_now true other both is none = cc
noted_now false other both is none = sym is ∙ none

-- a change that is noted shows
pub unseen : (was mid now : Core) → Notes was mid → has_changed mid ≡ false → screen_in now ≡ screen_in mid → LooksSame (screen_in was) (screen_in now)
unseen was mid now notes is same id = ap (λ (s : ScreenState). grids s id) same ∙ (notes is).same id

-- without an end of a delay a tick changes nothing
not_due : (until : Option ℕ) (next now : ℕ) → ((end : ℕ) → until ≡ Some end → next ≤ end) → now < next → is_due until now ≡ false
not_due None next now waits before = refl
not_due (Some end) next now waits before = let from = waits end refl in grind (arith, nat_tests)

pub ticks_pass : (clock : Clock) (next : ℕ) (state : CoreState) (member : Member) → ((end : ℕ) → core_delay_end member.core ≡ Some end → next ≤ end)
    → clock.ticks < next → Stands state member.core → after_tick clock state ≡ state
ticks_pass clock next state member waits before stands =
    ap (λ (b : Bool). if b then released clock state else state)
    (ap (λ (until : Option ℕ). is_due until clock.ticks) (sym stands.carries.until) ∙ not_due member.core.until next clock.ticks waits before)

pub nothing_ends : (clock : Clock) (next : ℕ) (members : List Member) → NoneEndsBefore next members → clock.ticks < next
    → HaveStepped (after_tick clock) next false members members
nothing_ends clock next members waits before = record {
  count = refl;
  each = λ place one other from to. at place one other from (same_Some one other (sym from ∙ to));
} where
  still : (place : ℕ) (one : Member) → slice_get members place ≡ Some one → HasStepped (after_tick clock) next false one one
  still place one from = record {
    stands = λ state stands. subst (λ (s : CoreState). Stands s one.core) (sym (ticks_pass clock next state one (waits place one from) before stands)) stands;
    ends = waits place one from;
    same = λ is id. refl;
  }

  at : (place : ℕ) (one other : Member) → slice_get members place ≡ Some one → one ≡ other → HasStepped (after_tick clock) next false one other
  at place one other from same = subst (λ (m : Member). HasStepped (after_tick clock) next false one m) same (still place one from)

-- a service that is clean has no delay
pub clean_waits : (member : Member) (next : ℕ) → Stands clean member.core → (end : ℕ) → core_delay_end member.core ≡ Some end → next ≤ end
clean_waits member next stands end is = absurd (none_some (sym stands.carries.until ∙ is)) where
  none_some : None ≡ Some end → ⊥
  none_some impossible = cc
