-- A cue on a channel of which the sentences hold has no fault.
use Rattle.std.proofs.Common.{◌≡◌, ℕ, ◌+◌, ◌*◌, ◌<◌, ◌≤◌, ◌==◌, ◌∙◌, ◌&&◌, ltb-true, ◌||◌, Bool, true, false, not, List, Option, Some, None, refl, ap, subst}
use Rattle.std.specs.Prelude.{is_none, nat_le, nat_lt, MatchOption}
use Rattle.cc_base.specs.Rate.{delay_frames_of}
use Rattle.cc_base.specs.declared.rate.Rate.{Rate}
use Rattle.line21_codes.specs.declared.channels.Chan.{Chan}
use Rattle.cue_types.specs.Channels.{is_on}
use Rattle.cue_types.specs.Line21Cues.{base_row, continues, same_roll}
use Rattle.cue_types.specs.Listing.{Listing}
use Rattle.cue_lists.specs.Rules.Tests.{fault_of}
use Rattle.cue_types.specs.Hide.{hide_is}
use Rattle.cue_lists.specs.Rules.Clash.{clash, shows_as_it_hides}
use Rattle.cue_lists.specs.Rules.Delay.{delay_of}
use Rattle.cue_lists.specs.Rules.DelayCovers.{delay_covers, delays_cross}
use Rattle.cue_lists.specs.Rules.Former.{former_cue}
use Rattle.cue_types.specs.Lane.{is_line21, is_paint, is_pop, is_roll, is_win}
use Rattle.cue_lists.specs.Rules.Order.{order, loads_before_it_loads, loads_before_it_shows}
use Rattle.cue_lists.specs.Rules.Overlap.{overlap, shows_before_it_hides}
use Rattle.cue_lists.specs.Rules.Sentences.{ComesAfter, IsContinued, IsOnSlots, IsSound}
use Rattle.cue_lists.specs.Rules.OffSlot.{lacks_slot, off_slot}
use Rattle.cue_lists.specs.Rules.PastEnd.{past_end}
use Rattle.line21_slots.specs.Cadences.{cadence_of, has_slot_in, slot_step}
use Rattle.cue_lists.specs.Rules.Share.{lacks_share}
use Rattle.cue_lists.specs.Rules.Unhidden.{unhidden, leaves_unhidden, loads_before_it_hides}
use Rattle.cue_lists.specs.Rules.WindowBusy.{keeps_window, window_busy}
use Rattle.cue_types.specs.declared.cue.Cue.{Cue}
use Rattle.cue_types.specs.declared.cue.Kind.{Kind}
use Rattle.cue_types.specs.declared.cue.Kind.TheVariants as kind
use Rattle.cue_lists.proofs.ChannelCues.{same_channel_is}
use Rattle.cue_lists.proofs.RuleKept.{AllKept, kept_faultless}
use Rattle.cue_lists.proofs.RuleNearest.{delays_cross_of_line21, keeps_window_of_line21, nearest_none}
use Rattle.cue_lists.proofs.RuleTests.{equal_itself, former_test_fails, guarded, hide_test_fails, le_fails, lt_fails}

-- a line 21 cue is no window cue, and so has no delay and needs no share
line21_is_no_window : (k : Kind) → is_line21 k ≡ true → is_win k ≡ false
line21_is_no_window (kind.Pop channel) line21 = refl
line21_is_no_window (kind.Paint channel) line21 = refl
line21_is_no_window (kind.Roll channel rows) line21 = refl
line21_is_no_window (kind.Win window) line21 = cc

no_delay : (k : Kind) → is_line21 k ≡ true → delay_of k ≡ 0
no_delay (kind.Pop channel) line21 = refl
no_delay (kind.Paint channel) line21 = refl
no_delay (kind.Roll channel rows) line21 = refl
no_delay (kind.Win window) line21 = cc

needs_no_share : (list : Listing) (k : Kind) → is_line21 k ≡ true → lacks_share list k ≡ false
needs_no_share list (kind.Pop channel) line21 = refl
needs_no_share list (kind.Paint channel) line21 = refl
needs_no_share list (kind.Roll channel rows) line21 = refl
needs_no_share list (kind.Win window) line21 = cc

-- a cue that is written onto the screen isn't pop-on
direct_is_not_pop : (k : Kind) (b : Bool) → (is_paint k || (is_roll k && b)) ≡ true → is_pop k ≡ false
direct_is_not_pop (kind.Pop channel) b direct = cc
direct_is_not_pop (kind.Paint channel) b direct = refl
direct_is_not_pop (kind.Roll channel rows) b direct = refl
direct_is_not_pop (kind.Win window) b direct = refl

-- a roll-up kind has as many rows as itself
same_roll_refl : (k : Kind) → is_roll k ≡ true → same_roll k k ≡ true
same_roll_refl (kind.Pop channel) roll = cc
same_roll_refl (kind.Paint channel) roll = cc
same_roll_refl (kind.Roll channel rows) roll = equal_itself rows
same_roll_refl (kind.Win window) roll = cc

-- a cue that continues the former one does so by the test
pub continued_continues : (former cue : Cue) → IsContinued former cue → former.hide ≡ None → continues cue former ≡ true
continued_continues former cue is none =
    let rolls : same_roll cue.kind former.kind ≡ true =
    subst (λ k. same_roll cue.kind k ≡ true) is.kind (same_roll_refl cue.kind is.roll) in
    let base : (base_row cue.runs == base_row former.runs) ≡ true =
    subst (λ row. (base_row cue.runs == row) ≡ true) is.base (equal_itself (base_row cue.runs)) in
    rw (rolls, none, base) refl

-- where a HIDE is there or not
is_none_is : (o : Option ℕ) → is_none o ≡ true → o ≡ None
is_none_is None none = refl
is_none_is (Some hide) none = cc

-- a cue that ends within the list doesn't end past it
hide_fits : (hide : Option ℕ) (show step frames : ℕ) → MatchOption hide (show < frames) (λ h. h + step + 1 ≤ frames)
    → hide_is hide (λ h. nat_lt frames (h + step + 1)) ≡ false
hide_fits None show step frames ended = refl
hide_fits (Some hide) show step frames ended = lt_fails frames (hide + step + 1) ended

show_fits : (hide : Option ℕ) (show step frames : ℕ) → MatchOption hide (show < frames) (λ h. h + step + 1 ≤ frames)
    → is_none hide ≡ true → nat_le frames show ≡ false
show_fits None show step frames ended none = le_fails frames show ended
show_fits (Some hide) show step frames ended none = cc

-- a HIDE that isn't between, where it is far enough after or not above
apart_fails : (hide show reach : ℕ) → (hide < show → hide + reach ≤ show) → (nat_lt hide show && nat_lt show (hide + reach)) ≡ false
apart_fails hide show reach apart = guarded (nat_lt hide show) (nat_lt show (hide + reach)) (λ above. lt_fails show (hide + reach) (apart (ltb-true hide show above)))

-- a cue on a channel needs the slots of the channel's field
pub slot_of_kind : (r : Rate) (channel : Chan) (k : Kind) (frame : ℕ) → is_on channel k ≡ true → lacks_slot r k frame ≡ not (has_slot_in (cadence_of r channel) frame)
slot_of_kind r channel (kind.Pop own) frame on = ap (λ c. not (has_slot_in (cadence_of r c) frame)) (same_channel_is channel own on)
slot_of_kind r channel (kind.Paint own) frame on = ap (λ c. not (has_slot_in (cadence_of r c) frame)) (same_channel_is channel own on)
slot_of_kind r channel (kind.Roll own rows) frame on = ap (λ c. not (has_slot_in (cadence_of r c) frame)) (same_channel_is channel own on)
slot_of_kind r channel (kind.Win window) frame on = cc

-- a test after one that fails
behind_false : (a b : Bool) → a ≡ false → (a && b) ≡ false
behind_false a b fails = rw fails refl

second_passes : (a b : Bool) → (a && b) ≡ true → b ≡ true
second_passes true b passes = passes
second_passes false b passes = cc

-- a cue on a channel of which the sentences hold, after these cues
module _ (list : Listing) (earlier : List Cue) (cue : Cue) (line21 : is_line21 cue.kind ≡ true) (sound : IsSound (slot_step list.rate) list.frames cue)
    (after : (former : Cue) → former_cue cue earlier ≡ Some former → ComesAfter (slot_step list.rate) former cue)
    (channel : Chan) (on_it : is_on channel cue.kind ≡ true) (slots : IsOnSlots (cadence_of list.rate channel) cue) where
  no_window : is_win cue.kind ≡ false
  no_window = line21_is_no_window cue.kind line21

  delay_kept : (nat_lt 0 (delay_of cue.kind) && nat_le cue.show (cue.load + delay_frames_of list.rate (delay_of cue.kind))) ≡ false
  delay_kept = behind_false (nat_lt 0 (delay_of cue.kind)) _ (rw (no_delay cue.kind line21) refl)

  order_kept : AllKept (order list.rate cue (former_cue cue earlier))
  order_kept = (
    le_fails cue.show cue.load sound.loaded,
    (
      hide_test_fails cue.hide (λ hide. nat_le hide cue.show) (λ hide. cue.show < hide) (λ hide below. le_fails hide cue.show below)
          sound.hidden,
      (
        delay_kept,
        (
          former_test_fails (former_cue cue earlier) (loads_before_it_shows cue)
              (λ former is. guarded (is_line21 cue.kind) (nat_lt cue.load former.show)
              (λ on. lt_fails cue.load former.show (after former is).loaded)),
          (
            former_test_fails (former_cue cue earlier) (loads_before_it_loads cue)
                (λ former is. behind_false (is_win cue.kind) (nat_lt cue.load former.load) no_window),
            tt,
          ),
        ),
      ),
    ),
  )

  overlap_kept : AllKept (overlap cue (former_cue cue earlier))
  overlap_kept = (
    sound.apart,
    (
      former_test_fails (former_cue cue earlier) (shows_before_it_hides cue)
          (λ former is. guarded (is_line21 cue.kind) (hide_is former.hide (λ hide. nat_lt cue.show hide))
          (λ on. hide_test_fails former.hide (λ hide. nat_lt cue.show hide) (λ hide. hide ≤ cue.show)
          (λ hide at. lt_fails cue.show hide at) (after former is).shown)),
      tt,
    ),
  )

  clash_kept : AllKept (clash (slot_step list.rate) cue (former_cue cue earlier))
  clash_kept = (
    guarded (is_pop cue.kind) (hide_is cue.hide (λ hide. nat_lt hide (cue.show + 2 * slot_step list.rate)))
        (λ pop. hide_test_fails cue.hide (λ hide. nat_lt hide (cue.show + 2 * slot_step list.rate)) (λ hide. cue.show + 2 * slot_step list.rate ≤ hide)
        (λ hide far. lt_fails hide (cue.show + 2 * slot_step list.rate) far) (sound.stays pop)),
    (
      former_test_fails (former_cue cue earlier) (shows_as_it_hides (slot_step list.rate) cue)
          (λ former is. guarded (is_pop cue.kind) (hide_is former.hide (λ hide. nat_lt hide cue.show && nat_lt cue.show (hide + 2 * slot_step list.rate)))
          (λ pop. hide_test_fails former.hide (λ hide. nat_lt hide cue.show && nat_lt cue.show (hide + 2 * slot_step list.rate)) (λ hide. hide < cue.show → hide + 2 * slot_step list.rate ≤ cue.show)
          (λ hide apart. apart_fails hide cue.show (2 * slot_step list.rate) apart) ((after former is).apart pop))),
      tt,
    ),
  )

  slot_kept : (frame : ℕ) → has_slot_in (cadence_of list.rate channel) frame ≡ true → lacks_slot list.rate cue.kind frame ≡ false
  slot_kept frame has = slot_of_kind list.rate channel cue.kind frame on_it ∙ ap not has

  off_slot_kept : AllKept (off_slot list.rate cue)
  off_slot_kept = (
    slot_kept cue.show slots.show,
    (
      hide_test_fails cue.hide (λ hide. lacks_slot list.rate cue.kind hide) (λ hide. has_slot_in (cadence_of list.rate channel) hide ≡ true)
          (λ hide has. slot_kept hide has) slots.hide,
      tt,
    ),
  )

  unhidden_kept : AllKept (unhidden cue (former_cue cue earlier))
  unhidden_kept = (
    former_test_fails (former_cue cue earlier) (loads_before_it_hides cue)
        (λ former is. guarded (is_paint cue.kind || (is_roll cue.kind && not (continues cue former)))
        (hide_is former.hide (λ hide. nat_lt cue.load hide))
        (λ direct. hide_test_fails former.hide (λ hide. nat_lt cue.load hide) (λ hide. hide ≤ cue.load)
        (λ hide at. lt_fails cue.load hide at)
        ((after former is).cleared (direct_is_not_pop cue.kind (not (continues cue former)) direct)))),
    (
      former_test_fails (former_cue cue earlier) (leaves_unhidden cue)
          (λ former is. guarded (is_none former.hide) (not (continues cue former))
          (λ none. ap not (continued_continues former cue ((after former is).continued (is_none_is former.hide none))
          (is_none_is former.hide none)))),
      tt,
    ),
  )

  window_kept : AllKept (window_busy cue earlier)
  window_kept =
      rw (nearest_none (keeps_window cue) earlier (λ other. keeps_window_of_line21 cue other no_window)) (refl, tt)

  delays_kept : AllKept (delay_covers list.rate cue earlier)
  delays_kept =
      rw (nearest_none (delays_cross list.rate cue) earlier (λ other. delays_cross_of_line21 list.rate cue other no_window))
      (refl, tt)

  past_end_kept : AllKept (past_end (slot_step list.rate) list.frames cue)
  past_end_kept = (
    guarded (is_line21 cue.kind) (hide_is cue.hide (λ hide. nat_lt list.frames (hide + slot_step list.rate + 1)))
        (λ on. hide_fits cue.hide cue.show (slot_step list.rate) list.frames sound.ended),
    (
      guarded (is_line21 cue.kind && is_none cue.hide) (nat_le list.frames cue.show)
          (λ on. show_fits cue.hide cue.show (slot_step list.rate) list.frames sound.ended (second_passes (is_line21 cue.kind) (is_none cue.hide) on)),
      (behind_false (is_win cue.kind) _ no_window, tt),
    ),
  )

  pub channel_cue_faultless : fault_of list earlier cue ≡ None
  channel_cue_faultless =
      kept_faultless list earlier cue (record {
        order = order_kept;
        overlap = overlap_kept;
        clash = clash_kept;
        unhidden = unhidden_kept;
        window_busy = window_kept;
        delay_covers = delays_kept;
        share = (needs_no_share list cue.kind line21, tt);
        past_end = past_end_kept;
        off_slot = off_slot_kept;
      })
