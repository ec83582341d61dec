use Rattle.std.proofs.Common.{◌≡◌, length, arith, rules, ◌∙◌, ap}
use Rattle.std.proofs.lemmas.List.{take_at}
use Rattle.line21_screen.specs.Objects.{grid_of}
use Rattle.line21_screen.proofs.MemoryLemmas.{copied_is}
use Rattle.line21_screen.proofs.memory.Memory.copy_from.Goals as goal

pub invariant_of-self : goal.invariant_of-self
invariant_of-self c =
    let long : length c.copy_places.new.cells ≡ c.args.self.now.cells.len = search rules in
    let is : c.copy_places.new.cells ≡ c.args.other.now.cells.items =
    copied_is c.args.self.now.cells.items c.args.other.now.cells.items c.copy_places.new.cells c.min-from.result c.max-to.result (search rules) (omega arith)
    (λ k d from to. c.args.self.now.none_above k d from (omega arith)) (λ k d from to. c.args.other.now.none_above k d from (omega arith))
    (λ k d from to. c.args.self.now.none_below k d (omega arith) to) (λ k d from to. c.args.other.now.none_below k d (omega arith) to)
    (rw c.deref.ensures.value at c.copy_places.ensures.copied) (rw c.deref_mut.ensures.value at c.copy_places.ensures.above) (rw c.deref_mut.ensures.value at c.copy_places.ensures.below) in
    record {
      length = omega arith;
      behind_to = omega arith;
      none_above = rw (take_at c.copy_places.new.cells _ _ long, is) c.args.other.now.none_above;
      none_below = rw (take_at c.copy_places.new.cells _ _ long, is) c.args.other.now.none_below;
    }

pub returns : goal.returns
returns c =
    let long : length c.copy_places.new.cells ≡ c.args.self.now.cells.len = search rules in
    ap grid_of (take_at c.copy_places.new.cells _ _ long
    ∙ copied_is c.args.self.now.cells.items c.args.other.now.cells.items c.copy_places.new.cells c.min-from.result c.max-to.result (search rules) (omega arith)
    (λ k d from to. c.args.self.now.none_above k d from (omega arith)) (λ k d from to. c.args.other.now.none_above k d from (omega arith))
    (λ k d from to. c.args.self.now.none_below k d (omega arith) to) (λ k d from to. c.args.other.now.none_below k d (omega arith) to)
    (rw c.deref.ensures.value at c.copy_places.ensures.copied) (rw c.deref_mut.ensures.value at c.copy_places.ensures.above) (rw c.deref_mut.ensures.value at c.copy_places.ensures.below))
