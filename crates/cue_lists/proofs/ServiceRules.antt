-- The cues of a service of a list keep the rules exactly where none of them has a fault.
use Rattle.std.proofs.Common.{◌≡◌, ℕ, ◌+◌, ◌*◌, ◌<◌, ◌≤◌, ◌==◌, ◌&&◌, ◌||◌, Bool, true, false, not, if◌then◌else◌, cond, List, [], ◌∷◌, ◌++◌, length, reverse, Option, Some, None, refl, sym, ap, subst, ◌∙◌, append_assoc, arith}
use Rattle.std.specs.Prelude.{is_none, nat_le, nat_lt, IfSome, IsSome, ⊤}
use Rattle.std.specs.List.{AllByRecursion}
use Rattle.std.proofs.lemmas.Bool.{eqb-true}
use Rattle.cc_base.specs.Rate.{delay_frames_of}
use Rattle.cc_base.specs.declared.rate.Rate.{Rate}
use Rattle.cue_types.specs.Channels.{cues_of_service, is_of_service}
use Rattle.cue_types.specs.Cues.{IsOfKind}
use Rattle.cue_types.specs.Listing.{Listing, share_of}
use Rattle.cue_lists.specs.Rules.Tests.{AreFaultless, fault_of}
use Rattle.cue_types.specs.Hide.{hide_is}
use Rattle.cue_lists.specs.Rules.Alternatives.{with_earlier}
use Rattle.cue_lists.specs.Rules.Clash.{clash, shows_as_it_hides}
use Rattle.cue_lists.specs.Rules.Delay.{delay_of}
use Rattle.cue_lists.specs.Rules.DelayCovers.{delay_covers, delays_cross, same_service}
use Rattle.cue_types.specs.Line21Cues.{continues}
use Rattle.cue_lists.specs.Rules.Former.{former_cue, nearest_number}
use Rattle.cue_types.specs.Lane.{is_line21, is_paint, is_pop, is_roll, is_win}
use Rattle.cue_lists.specs.Rules.Order.{order, loads_before_it_loads, loads_before_it_shows}
use Rattle.cue_lists.specs.Rules.Overlap.{overlap, shows_before_it_hides}
use Rattle.cue_lists.specs.Rules.OffSlot.{lacks_slot, off_slot}
use Rattle.cue_lists.specs.Rules.PastEnd.{past_end}
use Rattle.line21_slots.specs.Cadences.{slot_step}
use Rattle.cue_lists.specs.Rules.Sentences.{AreInService, IsSoundWindow, KeepsClear}
use Rattle.cue_lists.specs.Rules.Share.{lacks_share}
use Rattle.cue_lists.specs.Rules.Unhidden.{unhidden, leaves_unhidden, loads_before_it_hides}
use Rattle.cue_lists.specs.Rules.WindowBusy.{keeps_window, same_window, window_busy}
use Rattle.cue_types.specs.declared.cue.Cue.{Cue}
use Rattle.cue_types.specs.declared.cue.Kind.{Kind}
use Rattle.cue_types.specs.declared.cue.Kind.TheVariants as kind
use Rattle.cue_types.specs.declared.lane.Lane.TheVariants as lane
use Rattle.cue_lists.proofs.LaneCues.{lane_back, newest, reverse-cons}
use Rattle.cue_lists.proofs.DelayTests.{crossing_none, delays_apart, lt_holds, lt_passes, vacates, window_vacated}
use Rattle.cue_lists.proofs.RuleKept.{AllKept, KeepsRules, former_fails, hide_fails, keeps_rules, kept_faultless, load_below_show, not_le, not_lt, runs_share_none, second_fails, show_below_hide}
use Rattle.cue_lists.proofs.RuleTests.{former_test_fails, guarded, hide_test_fails, le_fails, lt_fails}
use Rattle.cue_lists.proofs.ServiceCues.{cues_are_of_service, former_of_service, window_of_service}

-- what holds of a window cue's kind
no_line21 : (k : Kind) → is_win k ≡ true → is_line21 k ≡ false
no_line21 (kind.Pop channel) win = cc
no_line21 (kind.Paint channel) win = cc
no_line21 (kind.Roll channel rows) win = cc
no_line21 (kind.Win window) win = refl

no_pop : (k : Kind) → is_win k ≡ true → is_pop k ≡ false
no_pop (kind.Pop channel) win = cc
no_pop (kind.Paint channel) win = cc
no_pop (kind.Roll channel rows) win = cc
no_pop (kind.Win window) win = refl

not_written : (k : Kind) (b : Bool) → is_win k ≡ true → (is_paint k || (is_roll k && b)) ≡ false
not_written (kind.Pop channel) b win = cc
not_written (kind.Paint channel) b win = cc
not_written (kind.Roll channel rows) b win = cc
not_written (kind.Win window) b win = refl

-- two cues of one service, and two of which the other isn't
of_one_service : (service : ℕ) (a b : Kind) → is_of_service service a ≡ true → is_of_service service b ≡ true
    → same_service a b ≡ true
of_one_service service (kind.Win a) (kind.Win b) on too =
    let same : service ≡ a.service = eqb-true service a.service on in
    subst (λ s. (s == b.service) ≡ true) same too
of_one_service service (kind.Win a) (kind.Pop channel) on too = cc
of_one_service service (kind.Win a) (kind.Paint channel) on too = cc
of_one_service service (kind.Win a) (kind.Roll channel rows) on too = cc
of_one_service service (kind.Pop channel) b on too = cc
of_one_service service (kind.Paint channel) b on too = cc
of_one_service service (kind.Roll channel rows) b on too = cc

of_two_services : (service : ℕ) (a b : Kind) → is_of_service service a ≡ true → is_of_service service b ≡ false
    → same_service a b ≡ false
of_two_services service (kind.Win a) (kind.Win b) on other =
    let same : service ≡ a.service = eqb-true service a.service on in
    subst (λ s. (s == b.service) ≡ false) same other
of_two_services service (kind.Win a) (kind.Pop channel) on other = refl
of_two_services service (kind.Win a) (kind.Paint channel) on other = refl
of_two_services service (kind.Win a) (kind.Roll channel rows) on other = refl
of_two_services service (kind.Pop channel) b on other = cc
of_two_services service (kind.Paint channel) b on other = cc
of_two_services service (kind.Roll channel rows) b on other = cc

other_window : (a b : Kind) → same_service a b ≡ false → same_window a b ≡ false
other_window (kind.Win a) (kind.Win b) other = rw other refl
other_window (kind.Win a) (kind.Pop channel) other = refl
other_window (kind.Win a) (kind.Paint channel) other = refl
other_window (kind.Win a) (kind.Roll channel rows) other = refl
other_window (kind.Pop channel) b other = refl
other_window (kind.Paint channel) b other = refl
other_window (kind.Roll channel rows) b other = refl

-- the share of a window cue
its_share : (list : Listing) (service : ℕ) (k : Kind) → is_of_service service k ≡ true → lacks_share list k ≡ false
    → IsSome (share_of list service)
its_share list service (kind.Pop channel) on shared = cc
its_share list service (kind.Paint channel) on shared = cc
its_share list service (kind.Roll channel rows) on shared = cc
its_share list service (kind.Win window) on shared =
    subst (λ s. IsSome (share_of list s)) (sym (eqb-true service window.service on)) (is_there (share_of list window.service) shared)
  where
    is_there : (o : Option ℕ) → is_none o ≡ false → IsSome o
    is_there None none = cc
    is_there (Some bytes) none = refl

has_share : (list : Listing) (service : ℕ) (k : Kind) → is_of_service service k ≡ true → IsSome (share_of list service)
    → lacks_share list k ≡ false
has_share list service (kind.Pop channel) on shared = cc
has_share list service (kind.Paint channel) on shared = cc
has_share list service (kind.Roll channel rows) on shared = cc
has_share list service (kind.Win window) on shared =
    not_lacked (share_of list window.service) (subst (λ s. IsSome (share_of list s)) (eqb-true service window.service on) shared)
  where
    not_lacked : (o : Option ℕ) → IsSome o → is_none o ≡ false
    not_lacked None none = cc
    not_lacked (Some bytes) there = refl

-- a window cue has a HIDE
pub window_hides : (k : Kind) (cue : Cue) → is_win k ≡ true → IsOfKind k cue.hide cue.runs → IsSome cue.hide
window_hides (kind.Pop channel) cue win formed = cc
window_hides (kind.Paint channel) cue win formed = cc
window_hides (kind.Roll channel rows) cue win formed = cc
window_hides (kind.Win window) cue win formed = formed.1

-- a window cue is hidden, as each is in a cue list
abbrev pub HidesWindow : Cue → Type 0
HidesWindow cue = is_win cue.kind ≡ true → IsSome cue.hide

-- where no earlier cue passes a test, none has a number
pub all_fail : (test : Cue → Bool) (cues : List Cue) → nearest_number test cues ≡ None → AllByRecursion (λ cue. test cue ≡ false) cues
all_fail test [] none = tt
all_fail test (cue ∷ cues) none = by_test (test cue) (all_fail test cues) none
  where
    by_test : (b : Bool) → (nearest_number test cues ≡ None → AllByRecursion (λ c. test c ≡ false) cues)
        → (if b then Some (length cues + 1) else nearest_number test cues) ≡ None
        → (b ≡ false) × AllByRecursion (λ c. test c ≡ false) cues
    by_test true rest e = cc
    by_test false rest e = (refl, rest e)

pub none_passes : (test : Cue → Bool) (cues : List Cue) → AllByRecursion (λ cue. test cue ≡ false) cues → nearest_number test cues ≡ None
none_passes test [] fail = refl
none_passes test (cue ∷ cues) fail = rw fail.0 (none_passes test cues fail.1)

pub no_number : (o : Option ℕ) → (with_earlier o).broken ≡ false → o ≡ None
no_number None fails = refl
no_number (Some number) fails = cc

-- what holds of all cues holds of the service's, and where it holds of these and of the others, of all
module _ (P : Cue → Type 0) (service : ℕ) where
  of_service : (cues : List Cue) → AllByRecursion P cues → AllByRecursion P (cues_of_service service cues)
  of_service [] all = tt
  of_service (cue ∷ cues) all = by_test (is_of_service service cue.kind) (of_service cues all.1)
    where
      by_test : (b : Bool) → AllByRecursion P (cues_of_service service cues)
          → AllByRecursion P (cond b (cue ∷ cues_of_service service cues) (cues_of_service service cues))
      by_test true rest = (all.0, rest)
      by_test false rest = rest

  pub of_all : (cues : List Cue) → ((cue : Cue) → is_of_service service cue.kind ≡ false → P cue)
      → AllByRecursion P (cues_of_service service cues) → AllByRecursion P cues
  of_all [] others all = tt
  of_all (cue ∷ cues) others all = by_test (is_of_service service cue.kind) refl (of_all cues others) all
    where
      by_test : (b : Bool) → is_of_service service cue.kind ≡ b
          → (AllByRecursion P (cues_of_service service cues) → AllByRecursion P cues)
          → AllByRecursion P (cond b (cue ∷ cues_of_service service cues) (cues_of_service service cues))
          → P cue × AllByRecursion P cues
      by_test true on more rest = (rest.0, more rest.1)
      by_test false on more rest = (others cue on, more rest)

-- the newest first, the cues of a service keep the rules
abbrev pub AreInServiceBack : Listing → ℕ → List Cue → Type 0
AreInServiceBack list service [] = ⊤
AreInServiceBack list service (cue ∷ earlier) =
    IsSoundWindow list service cue × AllByRecursion (λ (former : Cue). KeepsClear list.rate former cue) earlier
    × AreInServiceBack list service earlier

-- a window cue without a fault is sound
sound_window : (list : Listing) (service : ℕ) (earlier : List Cue) (cue : Cue) → is_of_service service cue.kind ≡ true
    → KeepsRules list earlier cue → IsSoundWindow list service cue
sound_window list service earlier cue on keeps =
    record {
      loaded = load_below_show list earlier cue keeps;
      hidden = if_there cue.hide (λ hide. cue.show < hide) (λ hide is. show_below_hide list earlier cue keeps hide is);
      delayed = λ delay. not_le cue.show (cue.load + delay_frames_of list.rate (delay_of cue.kind))
          (second_fails (nat_lt 0 (delay_of cue.kind)) (nat_le cue.show (cue.load + delay_frames_of list.rate (delay_of cue.kind)))
          keeps.order.1.1.0 (lt_passes 0 (delay_of cue.kind) delay));
      apart = runs_share_none list earlier cue keeps;
      shared = its_share list service cue.kind on keeps.share.0;
      ended = if_there cue.hide (λ hide. hide < list.frames)
          (λ hide is. not_le list.frames hide (hide_fails (λ h. nat_le list.frames h) cue.hide hide
          (second_fails (is_win cue.kind) (hide_is cue.hide (λ h. nat_le list.frames h)) keeps.past_end.1.1.0
          (window_of_service service cue.kind on)) is));
    }
  where
    if_there : (o : Option ℕ) (P : ℕ → Type 0) → ((hide : ℕ) → o ≡ Some hide → P hide) → IfSome o P
    if_there None P each = tt
    if_there (Some hide) P each = each hide refl

-- the LOAD of the newest of the cues isn't above this cue's, and so none is
abbrev pub LoadsUpTo : ℕ → List Cue → Type 0
LoadsUpTo load cues = AllByRecursion (λ (former : Cue). former.load ≤ load) cues

pub loads_up_to : (list : Listing) (service : ℕ) (load : ℕ) (cues : List Cue) → AreInServiceBack list service cues
    → ((former : Cue) → newest cues ≡ Some former → former.load ≤ load) → LoadsUpTo load cues
loads_up_to list service load [] back first = tt
loads_up_to list service load (former ∷ cues) back first =
    let at : former.load ≤ load = first former refl in
    (at, lower cues back.1)
  where
    lower : (cs : List Cue) → AllByRecursion (λ (c : Cue). KeepsClear list.rate c former) cs → LoadsUpTo load cs
    lower [] clear = tt
    lower (c ∷ cs) clear =
        let below : c.load ≤ former.load = clear.0.loaded in
        let at : former.load ≤ load = first former refl in
        (omega arith, lower cs clear.1)

-- a window cue without a fault keeps clear of the cues before it
clear_of : (list : Listing) (service : ℕ) (cue : Cue) (cues : List Cue) → is_of_service service cue.kind ≡ true
    → AllByRecursion (λ (former : Cue). is_of_service service former.kind ≡ true) cues → LoadsUpTo cue.load cues
    → AllByRecursion (λ (former : Cue). keeps_window cue former ≡ false) cues
    → AllByRecursion (λ (former : Cue). delays_cross list.rate cue former ≡ false) cues
    → AllByRecursion (λ (former : Cue). KeepsClear list.rate former cue) cues
clear_of list service cue [] on are loads windows delays = tt
clear_of list service cue (former ∷ cues) on are loads windows delays =
    let crossing = crossing_none list.rate former cue delays.0 (of_one_service service cue.kind former.kind on are.0) in (
      record {
        loaded = loads.0;
        vacated = vacates former cue windows.0;
        starts = crossing.0;
        undisturbed = crossing.1;
        undisturbing = crossing.2;
      },
      clear_of list service cue cues on are.1 loads.1 windows.1 delays.1,
    )

-- where no cue has a fault, the cues of a service keep the rules
pub faultless_service : (list : Listing) (service : ℕ) (earlier : List Cue) → AreFaultless list earlier
    → AreInServiceBack list service (cues_of_service service earlier)
faultless_service list service [] faultless = tt
faultless_service list service (cue ∷ earlier) faultless =
    by_test (is_of_service service cue.kind) refl (faultless_service list service earlier faultless.1)
  where
    keeps : KeepsRules list earlier cue
    keeps = keeps_rules list earlier cue faultless.0

    by_test : (b : Bool) → is_of_service service cue.kind ≡ b → AreInServiceBack list service (cues_of_service service earlier)
        → AreInServiceBack list service (cond b (cue ∷ cues_of_service service earlier) (cues_of_service service earlier))
    by_test true on rest = (
      sound_window list service earlier cue on keeps,
      clear_of list service cue (cues_of_service service earlier) on (cues_are_of_service service earlier)
          (loads_up_to list service cue.load (cues_of_service service earlier) rest
          (λ former is. not_lt cue.load former.load (second_fails (is_win cue.kind) (nat_lt cue.load former.load)
          (former_fails (former_cue cue earlier) (loads_before_it_loads cue) former keeps.order.1.1.1.1.0
          (former_of_service service cue earlier on ∙ is)) (window_of_service service cue.kind on))))
          (of_service (λ (former : Cue). keeps_window cue former ≡ false) service earlier
          (all_fail (keeps_window cue) earlier (no_number _ keeps.window_busy.0)))
          (of_service (λ (former : Cue). delays_cross list.rate cue former ≡ false) service earlier
          (all_fail (delays_cross list.rate cue) earlier (no_number _ keeps.delay_covers.0))),
      rest,
    )
    by_test false on rest = rest

-- the first of the cues
first_is : (P : Cue → Type 0) (cues : List Cue) (former : Cue) → AllByRecursion P cues → newest cues ≡ Some former → P former
first_is P [] former all is = cc
first_is P (cue ∷ cues) former all is = let same : cue ≡ former = cc in subst P same all.0

-- a cue of a service of which the sentences hold, after these cues
module _ (list : Listing) (service : ℕ) (earlier : List Cue) (cue : Cue) (on : is_of_service service cue.kind ≡ true)
    (hides : AllByRecursion HidesWindow earlier) (sound : IsSoundWindow list service cue)
    (clear : AllByRecursion (λ (former : Cue). KeepsClear list.rate former cue) (cues_of_service service earlier)) where
  win : is_win cue.kind ≡ true
  win = window_of_service service cue.kind on

  of_former : (P : Cue → Type 0) → AllByRecursion P (cues_of_service service earlier) → (former : Cue)
      → former_cue cue earlier ≡ Some former → P former
  of_former P all former is =
      first_is P (cues_of_service service earlier) former all (sym (former_of_service service cue earlier on) ∙ is)

  former_hides : (former : Cue) → former_cue cue earlier ≡ Some former → IsSome former.hide
  former_hides former is =
      let its : HidesWindow former = of_former HidesWindow (of_service HidesWindow service earlier hides) former is in
      let of : is_of_service service former.kind ≡ true =
      of_former (λ c. is_of_service service c.kind ≡ true) (cues_are_of_service service earlier) former is in
      its (window_of_service service former.kind of)

  nothing_line21 : (b : Bool) → (is_line21 cue.kind && b) ≡ false
  nothing_line21 b = rw (no_line21 cue.kind win) refl

  nothing_pop : (b : Bool) → (is_pop cue.kind && b) ≡ false
  nothing_pop b = rw (no_pop cue.kind win) refl

  order_kept : AllKept (order list.rate cue (former_cue cue earlier))
  order_kept = (
    le_fails cue.show cue.load sound.loaded,
    (
      hide_test_fails cue.hide (λ hide. nat_le hide cue.show) (λ hide. cue.show < hide) (λ hide below. le_fails hide cue.show below)
          sound.hidden,
      (
        guarded (nat_lt 0 (delay_of cue.kind)) _
            (λ delay. le_fails cue.show (cue.load + delay_frames_of list.rate (delay_of cue.kind)) (sound.delayed (lt_holds 0 (delay_of cue.kind) delay))),
        (
          former_test_fails (former_cue cue earlier) (loads_before_it_shows cue) (λ former is. nothing_line21 (nat_lt cue.load former.show)),
          (
            former_test_fails (former_cue cue earlier) (loads_before_it_loads cue)
                (λ former is. guarded (is_win cue.kind) (nat_lt cue.load former.load)
                (λ w. lt_fails cue.load former.load (of_former (λ c. KeepsClear list.rate c cue) clear former is).loaded)),
            tt,
          ),
        ),
      ),
    ),
  )

  overlap_kept : AllKept (overlap cue (former_cue cue earlier))
  overlap_kept = (
    sound.apart,
    (
      former_test_fails (former_cue cue earlier) (shows_before_it_hides cue)
          (λ former is. nothing_line21 (hide_is former.hide (λ hide. nat_lt cue.show hide))),
      tt,
    ),
  )

  clash_kept : AllKept (clash (slot_step list.rate) cue (former_cue cue earlier))
  clash_kept = (
    nothing_pop (hide_is cue.hide (λ hide. nat_lt hide (cue.show + 2 * slot_step list.rate))),
    (
      former_test_fails (former_cue cue earlier) (shows_as_it_hides (slot_step list.rate) cue)
          (λ former is. nothing_pop (hide_is former.hide (λ hide. nat_lt hide cue.show && nat_lt cue.show (hide + 2 * slot_step list.rate)))),
      tt,
    ),
  )

  off_slot_kept : AllKept (off_slot list.rate cue)
  off_slot_kept = (
    needs_no_slot list.rate cue.kind cue.show win,
    (hide_never cue.hide (λ hide. lacks_slot list.rate cue.kind hide) (λ hide. needs_no_slot list.rate cue.kind hide win), tt),
  )
    where
      needs_no_slot : (r : Rate) (k : Kind) (frame : ℕ) → is_win k ≡ true → lacks_slot r k frame ≡ false
      needs_no_slot r (kind.Pop channel) frame w = cc
      needs_no_slot r (kind.Paint channel) frame w = cc
      needs_no_slot r (kind.Roll channel rows) frame w = cc
      needs_no_slot r (kind.Win window) frame w = refl

      hide_never : (o : Option ℕ) (test : ℕ → Bool) → ((hide : ℕ) → test hide ≡ false) → hide_is o test ≡ false
      hide_never None test fails = refl
      hide_never (Some hide) test fails = fails hide

  unhidden_kept : AllKept (unhidden cue (former_cue cue earlier))
  unhidden_kept = (
    former_test_fails (former_cue cue earlier) (loads_before_it_hides cue)
        (λ former is. first_fails (is_paint cue.kind || (is_roll cue.kind && not (continues cue former))) _
        (not_written cue.kind (not (continues cue former)) win)),
    (
      former_test_fails (former_cue cue earlier) (leaves_unhidden cue)
          (λ former is. first_fails (is_none former.hide) _ (there former.hide (former_hides former is))),
      tt,
    ),
  )
    where
      first_fails : (a b : Bool) → a ≡ false → (a && b) ≡ false
      first_fails a b fails = rw fails refl

      there : (o : Option ℕ) → IsSome o → is_none o ≡ false
      there None some = cc
      there (Some hide) some = refl

  window_kept : AllKept (window_busy cue earlier)
  window_kept =
      rw (none_passes (keeps_window cue) earlier
      (of_all (λ (other : Cue). keeps_window cue other ≡ false) service earlier
      (λ other off. no_window other (other_window cue.kind other.kind (of_two_services service cue.kind other.kind on off)))
      (each_vacated (cues_of_service service earlier) clear)))
      (refl, tt)
    where
      no_window : (other : Cue) → same_window cue.kind other.kind ≡ false → keeps_window cue other ≡ false
      no_window other differ = rw differ refl

      each_vacated : (cs : List Cue) → AllByRecursion (λ (c : Cue). KeepsClear list.rate c cue) cs
          → AllByRecursion (λ (c : Cue). keeps_window cue c ≡ false) cs
      each_vacated [] all = tt
      each_vacated (c ∷ cs) all = (window_vacated list.rate c cue all.0, each_vacated cs all.1)

  delays_kept : AllKept (delay_covers list.rate cue earlier)
  delays_kept =
      rw (none_passes (delays_cross list.rate cue) earlier
      (of_all (λ (other : Cue). delays_cross list.rate cue other ≡ false) service earlier
      (λ other off. no_service other (of_two_services service cue.kind other.kind on off))
      (each_apart (cues_of_service service earlier) clear)))
      (refl, tt)
    where
      no_service : (other : Cue) → same_service cue.kind other.kind ≡ false → delays_cross list.rate cue other ≡ false
      no_service other differ = rw differ refl

      each_apart : (cs : List Cue) → AllByRecursion (λ (c : Cue). KeepsClear list.rate c cue) cs
          → AllByRecursion (λ (c : Cue). delays_cross list.rate cue c ≡ false) cs
      each_apart [] all = tt
      each_apart (c ∷ cs) all = (delays_apart list.rate c cue all.0, each_apart cs all.1)

  past_end_kept : AllKept (past_end (slot_step list.rate) list.frames cue)
  past_end_kept = (
    nothing_line21 (hide_is cue.hide (λ hide. nat_lt list.frames (hide + slot_step list.rate + 1))),
    (
      second_none (is_none cue.hide) (nat_le list.frames cue.show),
      (
        guarded (is_win cue.kind) (hide_is cue.hide (λ hide. nat_le list.frames hide))
            (λ w. hide_test_fails cue.hide (λ hide. nat_le list.frames hide) (λ hide. hide < list.frames)
            (λ hide within. le_fails list.frames hide within) sound.ended),
        tt,
      ),
    ),
  )
    where
      second_none : (a b : Bool) → ((is_line21 cue.kind && a) && b) ≡ false
      second_none a b = rw (no_line21 cue.kind win) refl

  pub service_cue_faultless : fault_of list earlier cue ≡ None
  service_cue_faultless =
      kept_faultless list earlier cue (record {
        order = order_kept;
        overlap = overlap_kept;
        clash = clash_kept;
        unhidden = unhidden_kept;
        window_busy = window_kept;
        delay_covers = delays_kept;
        share = (has_share list service cue.kind on sound.shared, tt);
        past_end = past_end_kept;
        off_slot = off_slot_kept;
      })

-- each of the cues before keeps clear of each of the later ones
abbrev AreClear : Listing → List Cue → List Cue → Type 0
AreClear list earlier later = AllByRecursion (λ (former : Cue). AllByRecursion (KeepsClear list.rate former) later) earlier

clear_more : (list : Listing) (earlier : List Cue) (cue : Cue) (later : List Cue)
    → AllByRecursion (λ (former : Cue). KeepsClear list.rate former cue) earlier → AreClear list earlier later
    → AreClear list earlier (cue ∷ later)
clear_more list [] cue later here rest = tt
clear_more list (former ∷ earlier) cue later here rest =
    ((here.0, rest.0), clear_more list earlier cue later here.1 rest.1)

clear_less : (list : Listing) (earlier : List Cue) (cue : Cue) (later : List Cue) → AreClear list earlier (cue ∷ later)
    → AllByRecursion (λ (former : Cue). KeepsClear list.rate former cue) earlier × AreClear list earlier later
clear_less list [] cue later all = (tt, tt)
clear_less list (former ∷ earlier) cue later all =
    let rest = clear_less list earlier cue later all.1 in
    ((all.0.0, rest.0), (all.0.1, rest.1))

clear_none : (list : Listing) (earlier : List Cue) → AreClear list earlier []
clear_none list [] = tt
clear_none list (former ∷ earlier) = (tt, clear_none list earlier)

-- the earlier cues and the later ones, in their order
turned : (list : Listing) (service : ℕ) (earlier later : List Cue) → AreInServiceBack list service earlier
    → AreClear list earlier later → AreInService list service later → AreInService list service (reverse earlier ++ later)
turned list service [] later back join are = are
turned list service (cue ∷ earlier) later back join are =
    subst (λ (cues : List Cue). AreInService list service cues)
    (sym (ap (λ (cues : List Cue). cues ++ later) (reverse-cons cue earlier) ∙ append_assoc (reverse earlier) (cue ∷ []) later))
    (turned list service earlier (cue ∷ later) back.2 (clear_more list earlier cue later back.1 join.1) (back.0, join.0, are))

turned_back : (list : Listing) (service : ℕ) (earlier later : List Cue) → AreInService list service (reverse earlier ++ later)
    → AreInServiceBack list service earlier × AreClear list earlier later × AreInService list service later
turned_back list service [] later are = (tt, tt, are)
turned_back list service (cue ∷ earlier) later are =
    let whole = turned_back list service earlier (cue ∷ later)
    (subst (λ (cues : List Cue). AreInService list service cues)
    (ap (λ (cues : List Cue). cues ++ later) (reverse-cons cue earlier) ∙ append_assoc (reverse earlier) (cue ∷ []) later)
    are) in
    let split = clear_less list earlier cue later whole.1 in
    ((whole.2.0, split.0, whole.0), (whole.2.1, split.1), whole.2.2)

-- the cues of a service keep the rules as they do from the newest on
pub service_from_back : (list : Listing) (service : ℕ) (cues : List Cue)
    → AreInServiceBack list service (cues_of_service service (reverse cues)) → AreInService list service (cues_of_service service cues)
service_from_back list service cues back =
    subst (λ (cues : List Cue). AreInService list service cues) (lane_back (lane.Service service) cues)
    (turned list service (cues_of_service service (reverse cues)) [] back (clear_none list (cues_of_service service (reverse cues))) tt)

pub service_to_back : (list : Listing) (service : ℕ) (cues : List Cue) → AreInService list service (cues_of_service service cues)
    → AreInServiceBack list service (cues_of_service service (reverse cues))
service_to_back list service cues are =
    (turned_back list service (cues_of_service service (reverse cues)) []
    (subst (λ (cues : List Cue). AreInService list service cues) (sym (lane_back (lane.Service service) cues)) are)).0
