-- What a cue that keeps the rules has, in plain facts: each for one alternative of a rule that isn't broken.
use Rattle.std.proofs.Common.{◌≡◌, ℕ, ◌+◌, ◌*◌, ◌<◌, ◌≤◌, lt-ltb, Bool, true, false, if◌then◌else◌, not, ◌&&◌, ◌||◌, List, [], ◌∷◌, Option, Some, None, suc, refl, sym, ap, ◌∙◌, inl, inr, arith}
use Rattle.std.specs.Prelude.{nat_le, nat_lt, is_none}
use Rattle.std.proofs.lemmas.Bool.Decides.{leb_tells}
use Rattle.cc_base.specs.declared.why.Why.{Why}
use Rattle.cue_types.specs.Listing.{Listing}
use Rattle.cue_lists.specs.Rules.Tests.{verdicts, fault_or, fault_of}
use Rattle.cue_types.specs.Hide.{hide_is}
use Rattle.cue_lists.specs.Rules.Alternatives.{Alternative, with_former, first_broken}
use Rattle.cue_types.specs.Cells.{have_shared_cell}
use Rattle.cue_lists.specs.Rules.Clash.{clash, shows_as_it_hides}
use Rattle.cue_lists.specs.Rules.DelayCovers.{delay_covers}
use Rattle.cue_types.specs.Line21Cues.{continues}
use Rattle.cue_lists.specs.Rules.Former.{former_cue}
use Rattle.cue_types.specs.Lane.{is_line21, is_pop, is_paint, is_roll}
use Rattle.cue_lists.specs.Rules.Order.{order, loads_before_it_shows}
use Rattle.cue_lists.specs.Rules.Overlap.{overlap, shows_before_it_hides}
use Rattle.cue_lists.specs.Rules.OffSlot.{lacks_slot, off_slot}
use Rattle.cue_lists.specs.Rules.PastEnd.{past_end}
use Rattle.cue_lists.specs.Rules.Share.{share}
use Rattle.cue_lists.specs.Rules.Unhidden.{unhidden, loads_before_it_hides, leaves_unhidden}
use Rattle.cue_lists.specs.Rules.WindowBusy.{window_busy}
use Rattle.cue_types.specs.declared.cue.Cue.{Cue}
use Rattle.line21_slots.specs.Cadences.{slot_step}
use Rattle.cue_lists.specs.declared.rules.RuleFault.{RuleFault}
use Rattle.cue_lists.specs.declared.rules.against.Against.{Against}

-- none of the ways to break a rule holds
abbrev pub AllKept : List Alternative → Type 0
AllKept [] = Unit {0}
AllKept (alternative ∷ rest) = (alternative.broken ≡ false) × AllKept rest

-- every rule is kept, each by its name and in each of its alternatives
pub record KeepsRules (list : Listing) (earlier : List Cue) (cue : Cue) : Type 0 where
  pub order : AllKept (order list.rate cue (former_cue cue earlier))
  pub overlap : AllKept (overlap cue (former_cue cue earlier))
  pub clash : AllKept (clash (slot_step list.rate) cue (former_cue cue earlier))
  pub unhidden : AllKept (unhidden cue (former_cue cue earlier))
  pub window_busy : AllKept (window_busy cue earlier)
  pub delay_covers : AllKept (delay_covers list.rate cue earlier)
  pub share : AllKept (share list cue)
  pub past_end : AllKept (past_end (slot_step list.rate) list.frames cue)
  pub off_slot : AllKept (off_slot list.rate cue)

-- where no alternative is the first broken one, none is broken
pub all_kept : (alternatives : List Alternative) → first_broken alternatives ≡ None → AllKept alternatives
all_kept [] none = tt
all_kept (alternative ∷ rest) none = by_test alternative.broken (all_kept rest) none
  where
    by_test : (b : Bool) → (first_broken rest ≡ None → AllKept rest)
        → (if b then Some alternative.against else first_broken rest) ≡ None → (b ≡ false) × AllKept rest
    by_test true others e = cc
    by_test false others e = (refl, others e)

-- where there is no fault, the rule is kept, and so are those after it
no_fault : (why : Why) (against : Option Against) (n : ℕ) (f : Option ℕ) (later : Option RuleFault)
    → fault_or why against n f later ≡ None → (against ≡ None) × (later ≡ None)
no_fault why None n f later e = (refl, e)
no_fault why (Some against) n f later e = cc

-- a cue without a fault keeps every rule
pub keeps_rules : (list : Listing) (earlier : List Cue) (cue : Cue) → fault_of list earlier cue ≡ None
    → KeepsRules list earlier cue
unfolding verdicts
keeps_rules list earlier cue none =
    let a = no_fault _ _ _ _ _ none in
    let b = no_fault _ _ _ _ _ a.1 in
    let c = no_fault _ _ _ _ _ b.1 in
    let d = no_fault _ _ _ _ _ c.1 in
    let e = no_fault _ _ _ _ _ d.1 in
    let f = no_fault _ _ _ _ _ e.1 in
    let g = no_fault _ _ _ _ _ f.1 in
    let h = no_fault _ _ _ _ _ g.1 in
    let i = no_fault _ _ _ _ _ h.1 in
    record {
      order = all_kept (order list.rate cue (former_cue cue earlier)) a.0;
      overlap = all_kept (overlap cue (former_cue cue earlier)) b.0;
      clash = all_kept (clash (slot_step list.rate) cue (former_cue cue earlier)) c.0;
      unhidden = all_kept (unhidden cue (former_cue cue earlier)) d.0;
      window_busy = all_kept (window_busy cue earlier) e.0;
      delay_covers = all_kept (delay_covers list.rate cue earlier) f.0;
      share = all_kept (share list cue) g.0;
      past_end = all_kept (past_end (slot_step list.rate) list.frames cue) h.0;
      off_slot = all_kept (off_slot list.rate cue) i.0;
    }

-- where no alternative is broken, none is the first
none_broken : (alternatives : List Alternative) → AllKept alternatives → first_broken alternatives ≡ None
none_broken [] kept = refl
none_broken (alternative ∷ rest) kept = rw (kept.0) (none_broken rest kept.1)

-- a cue that keeps every rule has no fault
pub kept_faultless : (list : Listing) (earlier : List Cue) (cue : Cue) → KeepsRules list earlier cue
    → fault_of list earlier cue ≡ None
unfolding verdicts
kept_faultless list earlier cue keeps =
    rw (
      none_broken (order list.rate cue (former_cue cue earlier)) keeps.order,
      none_broken (overlap cue (former_cue cue earlier)) keeps.overlap,
      none_broken (clash (slot_step list.rate) cue (former_cue cue earlier)) keeps.clash,
      none_broken (unhidden cue (former_cue cue earlier)) keeps.unhidden,
      none_broken (window_busy cue earlier) keeps.window_busy,
      none_broken (delay_covers list.rate cue earlier) keeps.delay_covers,
      none_broken (share list cue) keeps.share,
      none_broken (past_end (slot_step list.rate) list.frames cue) keeps.past_end,
      none_broken (off_slot list.rate cue) keeps.off_slot,
    )
    refl

-- a test of a HIDE that isn't passed, at the HIDE
pub hide_fails : (test : ℕ → Bool) (o : Option ℕ) (hide : ℕ) → hide_is o test ≡ false → o ≡ Some hide → test hide ≡ false
hide_fails test None hide fails is = cc
hide_fails test (Some h) hide fails is = let same : h ≡ hide = cc in ap test (sym same) ∙ fails

-- what an alternative on the former cue says of it, where it isn't broken
pub former_fails : (o : Option Cue) (test : Cue → Bool) (former : Cue) → (with_former o test).broken ≡ false
    → o ≡ Some former → test former ≡ false
former_fails None test former fails is = cc
former_fails (Some p) test former fails is = let same : p ≡ former = cc in ap test (sym same) ∙ fails

-- the second part of a test fails, where the first is passed
pub second_fails : (a b : Bool) → (a && b) ≡ false → a ≡ true → b ≡ false
second_fails true b fails yes' = fails
second_fails false b fails yes' = cc

-- numbers by a test that failed
pub not_le : (a b : ℕ) → nat_le a b ≡ false → b < a
not_le a b fails = elim (leb_tells a b) [ inl t ↦ cc | inr t ↦ t.1 ]

pub not_lt : (a b : ℕ) → nat_lt a b ≡ false → b ≤ a
not_lt a b fails = elim (leb_tells (suc a) b) [ inl t ↦ cc | inr t ↦ omega (arith, t.1) ]

-- what holds of a cue that keeps the rules, after these cues
module _ (list : Listing) (earlier : List Cue) (cue : Cue) (keeps : KeepsRules list earlier cue) where
  -- LOAD is below SHOW
  pub load_below_show : cue.load < cue.show
  load_below_show = not_le cue.show cue.load keeps.order.0

  -- SHOW is below HIDE
  pub show_below_hide : (hide : ℕ) → cue.hide ≡ Some hide → cue.show < hide
  show_below_hide hide is = not_le hide cue.show (hide_fails (λ h. nat_le h cue.show) cue.hide hide keeps.order.1.0 is)

  -- on line 21: LOAD isn't below the former cue's SHOW
  pub load_from_former_show : (former : Cue) → is_line21 cue.kind ≡ true → former_cue cue earlier ≡ Some former
      → former.show ≤ cue.load
  load_from_former_show former line21 is =
      not_lt cue.load former.show (second_fails (is_line21 cue.kind) (nat_lt cue.load former.show)
      (former_fails (former_cue cue earlier) (loads_before_it_shows cue) former keeps.order.1.1.1.0 is) line21)

  -- no two runs share a cell
  pub runs_share_none : have_shared_cell cue.runs ≡ false
  runs_share_none = keeps.overlap.0

  -- on line 21: SHOW isn't below the former cue's HIDE
  pub show_from_former_hide : (former : Cue) (hide : ℕ) → is_line21 cue.kind ≡ true
      → former_cue cue earlier ≡ Some former → former.hide ≡ Some hide → hide ≤ cue.show
  show_from_former_hide former hide line21 is at =
      not_lt cue.show hide (hide_fails (λ h. nat_lt cue.show h) former.hide hide
      (second_fails (is_line21 cue.kind) (hide_is former.hide (λ h. nat_lt cue.show h))
      (former_fails (former_cue cue earlier) (shows_before_it_hides cue) former keeps.overlap.1.0 is) line21) at)

  -- a pop-on cue: HIDE is two steps after SHOW or later
  pub hide_not_next : (hide : ℕ) → is_pop cue.kind ≡ true → cue.hide ≡ Some hide → cue.show + 2 * slot_step list.rate ≤ hide
  hide_not_next hide pop is =
      not_lt hide (cue.show + 2 * slot_step list.rate) (hide_fails (λ h. nat_lt h (cue.show + 2 * slot_step list.rate)) cue.hide hide
      (second_fails (is_pop cue.kind) (hide_is cue.hide (λ h. nat_lt h (cue.show + 2 * slot_step list.rate))) keeps.clash.0 pop) is)

  -- a pop-on cue: SHOW is the former cue's HIDE, or two steps after it or later
  pub show_not_next : (former : Cue) (hide : ℕ) → is_pop cue.kind ≡ true → former_cue cue earlier ≡ Some former
      → former.hide ≡ Some hide → hide < cue.show → hide + 2 * slot_step list.rate ≤ cue.show
  show_not_next former hide pop is at above =
      let fails = hide_fails (λ h. nat_lt h cue.show && nat_lt cue.show (h + 2 * slot_step list.rate)) former.hide hide
      (second_fails (is_pop cue.kind) (hide_is former.hide (λ h. nat_lt h cue.show && nat_lt cue.show (h + 2 * slot_step list.rate)))
      (former_fails (former_cue cue earlier) (shows_as_it_hides (slot_step list.rate) cue) former keeps.clash.1.0 is) pop) at in
      not_lt cue.show (hide + 2 * slot_step list.rate) (second_fails (nat_lt hide cue.show) _ fails (lt-ltb hide cue.show above))

  -- a paint-on cue, or a roll-up cue that doesn't continue: LOAD isn't below the former cue's HIDE
  pub load_from_former_hide : (former : Cue) (hide : ℕ)
      → (is_paint cue.kind || (is_roll cue.kind && not (continues cue former))) ≡ true
      → former_cue cue earlier ≡ Some former → former.hide ≡ Some hide → hide ≤ cue.load
  load_from_former_hide former hide direct is at =
      not_lt cue.load hide (hide_fails (λ h. nat_lt cue.load h) former.hide hide
      (second_fails (is_paint cue.kind || (is_roll cue.kind && not (continues cue former)))
      (hide_is former.hide (λ h. nat_lt cue.load h))
      (former_fails (former_cue cue earlier) (loads_before_it_hides cue) former keeps.unhidden.0 is) direct) at)

  -- where the former cue has no HIDE, it is continued
  pub continues_unhidden : (former : Cue) → former_cue cue earlier ≡ Some former → former.hide ≡ None
      → continues cue former ≡ true
  continues_unhidden former is none =
      let unhidden' : is_none former.hide ≡ true = rw none refl in
      not_false (continues cue former) (second_fails (is_none former.hide) (not (continues cue former))
      (former_fails (former_cue cue earlier) (leaves_unhidden cue) former keeps.unhidden.1.0 is) unhidden')
    where
      not_false : (b : Bool) → not b ≡ false → b ≡ true
      not_false true e = refl
      not_false false e = cc

  -- on line 21: HIDE, a step and 1 together are at most FRAMES
  pub hide_within : (hide : ℕ) → is_line21 cue.kind ≡ true → cue.hide ≡ Some hide → hide + slot_step list.rate + 1 ≤ list.frames
  hide_within hide line21 is =
      not_lt list.frames (hide + slot_step list.rate + 1) (hide_fails (λ h. nat_lt list.frames (h + slot_step list.rate + 1)) cue.hide hide
      (second_fails (is_line21 cue.kind) (hide_is cue.hide (λ h. nat_lt list.frames (h + slot_step list.rate + 1))) keeps.past_end.0 line21) is)

  -- the cue has a slot at its SHOW, and at its HIDE
  pub show_on_slot : lacks_slot list.rate cue.kind cue.show ≡ false
  show_on_slot = keeps.off_slot.0

  pub hide_on_slot : (hide : ℕ) → cue.hide ≡ Some hide → lacks_slot list.rate cue.kind hide ≡ false
  hide_on_slot hide is = hide_fails (λ h. lacks_slot list.rate cue.kind h) cue.hide hide keeps.off_slot.1.0 is

  -- on line 21, without a HIDE: SHOW is below FRAMES
  pub show_within : is_line21 cue.kind ≡ true → cue.hide ≡ None → cue.show < list.frames
  show_within line21 none =
      let unhidden' : is_none cue.hide ≡ true = rw none refl in
      not_le list.frames cue.show (second_fails (is_line21 cue.kind && is_none cue.hide) (nat_le list.frames cue.show)
      keeps.past_end.1.0 (rw (line21, unhidden') refl))
