use Rattle.std.proofs.Common.{◌≡◌, ◌∙◌, ◌≤◌, ◌-◌, length, refl, sym, ap, subst, arith, rules}
use Rattle.std.specs.Prelude.{All}
use Rattle.frame_scheduler.specs.Blocks.{blocks_room, next_blocks}
use Rattle.frame_scheduler.specs.ServicesLeft.{HasLeft, IsNumbered}
use Rattle.frame_scheduler.proofs.BlockLemmas.{written_back}
use Rattle.frame_scheduler.proofs.NextFrameLemmas.{both_left, first_left, moved_left, moved_numbered, moved_room, moved_small, next_frame, second_left}
use Rattle.frame_scheduler.proofs.frames.PlanFrames.next.Goals as goal

pub next_pair-requires-clause-within : goal.next_pair-requires-clause-within
next_pair-requires-clause-within c =
    let long : length c.args.self.now.lanes ≡ 2 = search rules in
    let some : 1 ≤ c.args.self.now.left = omega (arith, c.if-self-eq0.false) in
    first_left c.args.self.now.lanes c.args.self.now.left long some c.args.self.now.within

pub next_pair-requires-2-clause-within : goal.next_pair-requires-2-clause-within
next_pair-requires-2-clause-within c =
    let long : length c.args.self.now.lanes ≡ 2 = search rules in
    let some : 1 ≤ c.args.self.now.left = omega (arith, c.if-self-eq0.false) in
    second_left c.of-one.result c.args.self.now.frame c.args.self.now.lanes c.next_pair.new.lanes c.args.self.now.left c.next_pair.result long some c.args.self.now.within c.next_pair.ensures

pub next_blocks-requires-clause-small : goal.next_blocks-requires-clause-small
next_blocks-requires-clause-small c =
    let some : 1 ≤ c.args.self.now.left = omega (arith, c.if-self-eq0.false) in
    rw c.deref_mut.ensures.value (moved_small c.args.self.now.services.items c.args.self.now.left some c.args.self.now.services_within)

pub invariant_of-self : goal.invariant_of-self
invariant_of-self c =
    let long : length c.args.self.now.lanes ≡ 2 = search rules in
    let some : 1 ≤ c.args.self.now.left = omega (arith, c.if-self-eq0.false) in
    let olds = c.args.self.now.services.items in
    let are = written_back olds c.deref_mut.result.now c.next_blocks.new.services c.args.self.now.services.len c.deref_mut.ensures.value c.deref_mut.ensures.len
    c.next_blocks.ensures.moved in
    record {
      counted = omega (arith, c.args.self.now.counted);
      within = both_left c.of-one.result c.args.self.now.frame c.args.self.now.lanes c.next_pair.new.lanes c.args.self.now.left c.next_pair.result long some c.args.self.now.within c.next_pair.ensures
          c.of-two.result c.next_pair-2.new.lanes c.next_pair-2.result c.next_pair-2.ensures;
      services_within = subst (All (HasLeft (c.args.self.now.left - 1))) (sym are) (moved_left olds c.args.self.now.left some c.args.self.now.services_within);
      numbered = subst (All IsNumbered) (sym are) (moved_numbered olds c.args.self.now.numbered);
      room = subst (λ l. blocks_room l ≤ 35) (sym are) (rw (moved_room olds) c.args.self.now.room);
    }

pub returns-clause-gives : goal.returns-clause-gives
returns-clause-gives c = λ columns frame gives.
    next_frame columns frame c.args.self.now _ _ _ _ _ _ _ c.of-one.ensures c.of-two.ensures gives c.next_pair.ensures c.next_pair-2.ensures refl refl
    (c.next_blocks.ensures.blocks ∙ ap next_blocks c.deref_mut.ensures.value)
    (written_back c.args.self.now.services.items c.deref_mut.result.now c.next_blocks.new.services c.args.self.now.services.len c.deref_mut.ensures.value
    c.deref_mut.ensures.len c.next_blocks.ensures.moved)
