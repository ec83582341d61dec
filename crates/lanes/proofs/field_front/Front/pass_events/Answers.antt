use Rattle.std.proofs.Common.{◌≡◌, ◌+◌, ◌≤◌, length, take, max, rules, sym, ap, ◌∙◌, subst, arith}
use Rattle.lanes.specs.LaneEvents.{AreOver}
use Rattle.lanes.specs.LaneFront.{IsFirstFree}
use Rattle.lanes.specs.LaneCursor.{IsNext}
use Rattle.lanes.proofs.NextLemmas.{next_from_read, next_same}
use Rattle.lanes.proofs.LaneFrontLemmas.{over_next, first_next, free_behind, apart_drop}
use Rattle.lanes.proofs.field_front.Front.pass_events.Goals as goal

pub loop-event-preserved : goal.loop-event-preserved
loop-event-preserved c =
    let found = c.in-Some.ensures.lookup in
    let events = c.args.events.now in
    let front = c.loop-event.self in
    let inv = c.loop-event.invariant in
    let here : IsNext events front.passed c.in-Some.event.now = next_from_read _ _ _ found.3.0 found.1 in
    let is : c.max-self.result ≡ max front.end (c.in-Some.event.now.slot + 2) = c.max-self.ensures ∙ ap (λ n. max front.end n) c.end.ensures.end in
    record {
      small = omega (arith, c.end.ensures.small, c.max-self.ensures);
      behind = omega arith;
      front = record {
        within = omega (arith, here.within);
        passed = subst (λ n. AreOver n (take (front.passed + 1) events)) (sym is) (over_next events front.passed front.end c.in-Some.event.now here inv.front.passed);
      };
      onward = omega (arith, inv.onward);
      first = λ f from free. subst (λ n. n ≤ f) (sym is)
          (first_next events c.from-slots.result c.args.self.now.end front.end front.passed c.in-Some.event.now (omega arith) here (omega arith) inv.first f from free);
    }

pub returns-in-loop-event-clause-first : goal.returns-in-loop-event-clause-first
returns-in-loop-event-clause-first c =
    let inv = c.loop-event.invariant in
    let events = c.args.events.now in
    let front = c.loop-event.self in
    let slots : c.from-slots.result ≡ c.args.slots = c.from-slots.ensures in
    subst (λ n. IsFirstFree events n c.args.self.now.end front.end) slots (record {
      behind = inv.behind;
      free = free_behind events c.from-slots.result front.passed front.end (apart_drop front.passed events c.requires.apart) inv.front.passed
          (λ e next. let past : length events ≤ front.passed = search rules in absurd (omega (arith, next.within)));
      first = inv.first;
    })

pub returns-else-from-self-clause-first : goal.returns-else-from-self-clause-first
returns-else-from-self-clause-first c =
    let inv = c.loop-event.invariant in
    let events = c.args.events.now in
    let front = c.loop-event.self in
    let found = c.in-Some.ensures.lookup in
    let here : IsNext events front.passed c.in-Some.event.now = next_from_read _ _ _ found.3.0 found.1 in
    let slots : c.from-slots.result ≡ c.args.slots = c.from-slots.ensures in
    let clear : front.end + c.from-slots.result ≤ c.in-Some.event.now.slot = omega arith in
    subst (λ n. IsFirstFree events n c.args.self.now.end front.end) slots (record {
      behind = inv.behind;
      free = free_behind events c.from-slots.result front.passed front.end (apart_drop front.passed events c.requires.apart) inv.front.passed
          (λ e next. let same : e ≡ c.in-Some.event.now = next_same _ _ _ _ next here in
          subst (λ d. front.end + c.from-slots.result ≤ d.slot) (sym same) clear);
      first = inv.first;
    })
