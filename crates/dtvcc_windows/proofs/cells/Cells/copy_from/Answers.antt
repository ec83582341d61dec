use Rattle.std.proofs.Common.{◌≡◌, length, arith, rules, ◌∙◌, ap}
use Rattle.std.proofs.lemmas.List.{take_at}
use Rattle.dtvcc_windows.specs.Lists.{listed_cells}
use Rattle.dtvcc_windows.proofs.PartLemmas.{copied_is}
use Rattle.dtvcc_windows.proofs.cells.Cells.copy_from.Goals as goal

pub invariant_of-self : goal.invariant_of-self
invariant_of-self c =
    let long : length c.copy_places.new.places ≡ c.fill_up.new.self.places.len = search rules in
    let is : c.copy_places.new.places ≡ c.args.other.now.places.items =
    copied_is c.fill_up.new.self.places.items c.args.other.now.places.items c.copy_places.new.places c.min-from.result c.max-to.result (search rules) (omega arith)
    (λ k d from to. c.fill_up.new.self.none_above k d from (omega arith)) (λ k d from to. c.args.other.now.none_above k d from (omega arith))
    (λ k d from to. c.fill_up.new.self.none_below k d (omega arith) to) (λ k d from to. c.args.other.now.none_below k d (omega arith) to)
    (rw c.deref.ensures.value at c.copy_places.ensures.copied) (rw c.deref_mut.ensures.value at c.copy_places.ensures.above) (rw c.deref_mut.ensures.value at c.copy_places.ensures.below) in
    record {
      room = search rules;
      whole = λ some. search rules;
      behind_to = omega arith;
      none_above = rw (take_at c.copy_places.new.places _ _ long, is) c.args.other.now.none_above;
      none_below = rw (take_at c.copy_places.new.places _ _ long, is) c.args.other.now.none_below;
    }

pub returns-clause-cells : goal.returns-clause-cells
returns-clause-cells c =
    let long : length c.copy_places.new.places ≡ c.fill_up.new.self.places.len = search rules in
    ap listed_cells (take_at c.copy_places.new.places _ _ long
    ∙ copied_is c.fill_up.new.self.places.items c.args.other.now.places.items c.copy_places.new.places c.min-from.result c.max-to.result (search rules) (omega arith)
    (λ k d from to. c.fill_up.new.self.none_above k d from (omega arith)) (λ k d from to. c.args.other.now.none_above k d from (omega arith))
    (λ k d from to. c.fill_up.new.self.none_below k d (omega arith) to) (λ k d from to. c.args.other.now.none_below k d (omega arith) to)
    (rw c.deref.ensures.value at c.copy_places.ensures.copied) (rw c.deref_mut.ensures.value at c.copy_places.ensures.above) (rw c.deref_mut.ensures.value at c.copy_places.ensures.below))
