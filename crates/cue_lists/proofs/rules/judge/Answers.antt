use Rattle.std.proofs.Common.{◌≡◌, None, Some, reverse, sym, ap, ◌∙◌}
use Rattle.std.specs.Option.{option_copied}
use Rattle.cue_lists.specs.Rules.Alternatives.{first_broken}
use Rattle.cue_lists.specs.Rules.DelayCovers.{delay_covers}
use Rattle.cue_lists.specs.Rules.Former.{former_number}
use Rattle.cue_lists.specs.Rules.Order.{order}
use Rattle.cue_lists.specs.Rules.Clash.{clash}
use Rattle.cue_lists.specs.Rules.OffSlot.{off_slot}
use Rattle.cue_lists.specs.Rules.PastEnd.{past_end}
use Rattle.line21_slots.specs.Cadences.{slot_step}
use Rattle.cue_lists.proofs.RuleJudging.{judged, nearest_is_number, order_judged, order_none, IsNumber}
use Rattle.cue_lists.proofs.RuleLists.{on_grid}
use Rattle.cue_lists.proofs.rules.judge.Goals as goal

pub cue_of-former-requires : goal.cue_of-former-requires
cue_of-former-requires c n is =
    let number : IsNumber (reverse c.args.earlier.now) n =
    nearest_is_number _ _ n (sym (c.number-number.ensures (reverse c.args.earlier.now) c.requires.formers) ∙ is) in
    number.from_one

pub breaks_overlap-requires : goal.breaks_overlap-requires
breaks_overlap-requires c = on_grid c.args.cue.now c.requires.formed

pub returns-in-Some : goal.returns-in-Some
returns-in-Some c =
    let number_is : c.number-number.result ≡ former_number c.args.cue.now (reverse c.args.earlier.now) =
    c.number-number.ensures (reverse c.args.earlier.now) c.requires.formers in
    let order_is : Some c.in-Some.against ≡ first_broken (order c.args.list.now.rate c.args.cue.now (option_copied c.cue_of-former.result)) =
    rw (← c.rate-rate.ensures) c.in-Some.ensures in
    order_judged c.args.list.now c.args.earlier.now c.args.cue.now c.number-number.result (option_copied c.cue_of-former.result)
    c.in-Some.against c.fault.result number_is c.cue_of-former.ensures order_is c.fault.ensures

pub returns : goal.returns
returns c =
    let number_is : c.number-number.result ≡ former_number c.args.cue.now (reverse c.args.earlier.now) =
    c.number-number.ensures (reverse c.args.earlier.now) c.requires.formers in
    let order_here : None ≡ first_broken (order c.rate-rate.result c.args.cue.now (option_copied c.cue_of-former.result)) = c.in_default.ensures in
    let order_is : None ≡ first_broken (order c.args.list.now.rate c.args.cue.now (option_copied c.cue_of-former.result)) =
    rw (← c.rate-rate.ensures) order_here in
    let windows_are = c.breaks_window_busy.ensures c.args.list.now c.requires.kept in
    let delays_here = c.breaks_delay_covers.ensures c.args.list.now (sym c.rate-rate.ensures) c.requires.kept
    (order_none c.rate-rate.result c.args.earlier.now c.args.cue.now c.number-number.result (option_copied c.cue_of-former.result)
    number_is c.cue_of-former.ensures order_here) in
    let delays_are : c.breaks_delay_covers.result
    ≡ first_broken (delay_covers c.args.list.now.rate c.args.cue.now (reverse c.args.earlier.now)) =
    rw (← c.rate-rate.ensures) delays_here in
    let step_is : c.slot_step-step.result ≡ slot_step c.args.list.now.rate = c.slot_step-step.ensures ∙ ap slot_step c.rate-rate.ensures in
    let clash_is : c.breaks_clash.result
    ≡ first_broken (clash (slot_step c.args.list.now.rate) c.args.cue.now (option_copied c.cue_of-former.result)) =
    rw (← step_is) c.breaks_clash.ensures in
    let end_is : c.breaks_past_end.result ≡ first_broken (past_end (slot_step c.args.list.now.rate) c.args.list.now.frames c.args.cue.now) =
    rw (← step_is, ← c.frames.ensures) c.breaks_past_end.ensures in
    let slots_are : c.breaks_off_slot.result ≡ first_broken (off_slot c.args.list.now.rate c.args.cue.now) =
    rw (← c.rate-rate.ensures) c.breaks_off_slot.ensures in
    judged c.args.list.now c.args.earlier.now c.args.cue.now c.number-number.result (option_copied c.cue_of-former.result)
    c.breaks_overlap.result c.breaks_clash.result c.breaks_unhidden.result
    c.breaks_window_busy.result c.breaks_delay_covers.result c.breaks_share.result c.breaks_past_end.result
    c.breaks_off_slot.result c.first_fault.result number_is c.cue_of-former.ensures order_is c.breaks_overlap.ensures
    clash_is c.breaks_unhidden.ensures windows_are delays_are c.breaks_share.ensures
    end_is slots_are c.first_fault.ensures
