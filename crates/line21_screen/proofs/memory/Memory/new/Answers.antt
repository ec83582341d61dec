use Rattle.std.proofs.Common.{◌≡◌, ◌++◌, [], ◌∷◌, length, None, arith, ap, ◌∙◌}
use Rattle.std.proofs.lemmas.List.{get_or-replicate, length-replicate, replicate_more}
use Rattle.std.specs.List.{AllWithin}
use Rattle.line21_screen.proofs.GridLemmas.{none_grid}
use Rattle.line21_screen.proofs.memory.Memory.new.Goals as goal

pub loop-init : goal.loop-init
loop-init c = c.in_ok-cells.ensures.items

pub loop-preserved : goal.loop-preserved
loop-preserved c =
    c.in_ok-push.ensures.items ∙ ap (λ cells. cells ++ None ∷ []) c.loop.invariant ∙ replicate_more c.loop.counter None

pub invariant_of-result : goal.invariant_of-result
invariant_of-result c =
    let long : length c.loop.cells.items ≡ c.loop.counter = ap length c.loop.invariant ∙ length-replicate c.loop.counter None in
    let none : AllWithin (λ cell. cell ≡ None) c.loop.cells.items 0 480 =
    λ k d from to. rw c.loop.invariant (get_or-replicate c.loop.counter k None d (omega arith)) in
    record { length = omega arith; behind_to = omega arith; none_above = none; none_below = none }

pub returns : goal.returns
returns c =
    none_grid c.loop.cells.items
    (λ k d from to. rw c.loop.invariant (get_or-replicate c.loop.counter k None d (omega arith)))
