use Rattle.std.proofs.Common.{◌-◌, ◌%◌, ◌++◌, Some, ap, sym, subst, ◌∙◌, arith, append_assoc}
use Rattle.cc_base.specs.declared.refusal.Refusal.{Refusal}
use Rattle.cc_base.specs.Feeding.{Reading}
use Rattle.cc_base.proofs.Underway.{Underway-start, Underway-step, Underway-refused, Underway-end, Underway-leads}
use Rattle.cc_base.proofs.machine.FedResume.feed.Goals as goal

pub loop-item-init : goal.loop-item-init
loop-item-init g c = record {
  unrefused = c.in_default.is;
  underway = λ given before above. Underway-start _ _ _ _ _ before above _ _ _ _;
}

pub loop-item-preserved : goal.loop-item-preserved
loop-item-preserved g c = record {
  unrefused = c.loop-item.invariant.unrefused;
  underway = λ given before above matches counted took.
      let u = c.loop-item.invariant.underway given before above matches counted took in
      let none = sym (c.hand_up.ensures.why (above ++ u.handed) u.took) ∙ c.in_default-hand_up.is in
      Underway-step _ _ _ _ _ before above _ _ _ _ _ u c.item-item.result c.item-item.result c.step.result _ _ (omega arith) c.item-item.is
      (c.step.ensures.says given _ u.matches) none (c.step.ensures.leads given _ u.matches) (c.hand_up.ensures.took (above ++ u.handed) u.took);
}

pub returns-in-Some-hand_up-clause-answer : goal.returns-in-Some-hand_up-clause-answer
returns-in-Some-hand_up-clause-answer g c = λ given before above led took.
    let u = c.loop-item.invariant.underway given before above led.matches led.counted took in
    let why = sym (c.hand_up.ensures.why (above ++ u.handed) u.took) ∙ c.in-Some-hand_up.is in
    let read = Underway-refused _ _ _ _ _ before above _ _ _ _ _ u c.item-item.result c.item-item.result c.step.result _ (omega arith) c.item-item.is
    (c.step.ensures.says given _ u.matches) why in
    ap (λ refused. Some refused) c.refuse.ensures.refusal
    ∙ ap (λ unit. let refused : Refusal = record { place = c.loop-item.self.taken - c.loop-item.self.taken % unit; why = c.in-Some-hand_up.why } in Some refused) c.UNIT.ensures
    ∙ sym (ap (λ (r : Reading g.row.P.Denot). r.refusal) read)

pub returns-in-Some-hand_up-clause-handed : goal.returns-in-Some-hand_up-clause-handed
returns-in-Some-hand_up-clause-handed g c = λ given before above led took.
    let u = c.loop-item.invariant.underway given before above led.matches led.counted took in
    let why = sym (c.hand_up.ensures.why (above ++ u.handed) u.took) ∙ c.in-Some-hand_up.is in
    let read = Underway-refused _ _ _ _ _ before above _ _ _ _ _ u c.item-item.result c.item-item.result c.step.result _ (omega arith) c.item-item.is
    (c.step.ensures.says given _ u.matches) why in
    subst (λ (r : Reading g.row.P.Denot). g.U.Upward.Took (above ++ r.parts) c.hand_up.new.up) (sym read)
    (subst (λ parts. g.U.Upward.Took parts c.hand_up.new.up) (append_assoc above u.handed _) (c.hand_up.ensures.took (above ++ u.handed) u.took))

pub returns-clause-answer : goal.returns-clause-answer
returns-clause-answer g c = λ given before above led took.
    let u = c.loop-item.invariant.underway given before above led.matches led.counted took in
    sym (ap (λ (r : Reading g.row.P.Denot). r.refusal) (Underway-end _ _ _ _ _ before above _ _ _ _ _ u (omega arith)))

pub returns-clause-handed : goal.returns-clause-handed
returns-clause-handed g c = λ given before above led took.
    let u = c.loop-item.invariant.underway given before above led.matches led.counted took in
    let read = Underway-end _ _ _ _ _ before above _ _ _ _ _ u (omega arith) in
    subst (λ (r : Reading g.row.P.Denot). g.U.Upward.Took (above ++ r.parts) c.loop-item.up) (sym read) u.took

pub returns-clause-leads : goal.returns-clause-leads
returns-clause-leads g c = λ given before above led took none.
    let u = c.loop-item.invariant.underway given before above led.matches led.counted took in
    Underway-leads _ _ _ _ _ before above _ _ _ _ u (omega arith) led.all c.loop-item.invariant.unrefused
