use Rattle.std.proofs.Common.{◌≡◌, length, arith, rules, refl, sym, ap, ◌∙◌}
use Rattle.std.proofs.lemmas.Bool.{le-ltb}
use Rattle.std.proofs.lemmas.Slice.Eq.{slice_eq-Decides}
use Rattle.line21_screen.specs.Objects.{grid_of}
use Rattle.line21_screen.proofs.DifferenceLemmas.{Decides-option_eq, parts_differ, same_list, same_where_none}
use Rattle.line21_screen.proofs.memory.Memory.differs.Goals as goal

pub returns-then-from-to-clause-told : goal.returns-then-from-to-clause-told
returns-then-from-to-clause-told c =
    let long : length c.args.self.now.cells.items ≡ 480 = search rules in
    let as_long : length c.args.other.now.cells.items ≡ 480 = search rules in
    (rw (c.deref.ensures.value, c.deref-then-from-to.ensures.value) at c.ne.ensures)
    ∙ parts_differ c.args.self.now.cells.items c.args.other.now.cells.items c.min-from.result c.max-to.result _ long as_long
    (λ k d from to. c.args.self.now.none_above k d from (omega arith)) (λ k d from to. c.args.other.now.none_above k d from (omega arith))
    (λ k d from to. c.args.self.now.none_below k d (omega arith) to) (λ k d from to. c.args.other.now.none_below k d (omega arith) to)
    (slice_eq-Decides Decides-option_eq _ _ _ refl)

pub returns-then-from-to-clause-same : goal.returns-then-from-to-clause-same
returns-then-from-to-clause-same c same =
    let long : length c.args.self.now.cells.items ≡ 480 = search rules in
    let as_long : length c.args.other.now.cells.items ≡ 480 = search rules in
    ap grid_of (same_list c.args.self.now.cells.items c.args.other.now.cells.items long as_long (sym (returns-then-from-to-clause-told c) ∙ same))

pub returns-else-from-to-clause-told : goal.returns-else-from-to-clause-told
returns-else-from-to-clause-told c =
    let long : length c.args.self.now.cells.items ≡ 480 = search rules in
    let as_long : length c.args.other.now.cells.items ≡ 480 = search rules in
    le-ltb c.min-from.result c.max-to.result c.if-from-to.false
    ∙ sym (same_where_none c.args.self.now.cells.items c.args.other.now.cells.items c.min-from.result c.max-to.result long as_long
    (λ k d from to. c.args.self.now.none_above k d from (omega arith)) (λ k d from to. c.args.other.now.none_above k d from (omega arith))
    (λ k d from to. c.args.self.now.none_below k d (omega arith) to) (λ k d from to. c.args.other.now.none_below k d (omega arith) to)
    c.if-from-to.false)

pub returns-else-from-to-clause-same : goal.returns-else-from-to-clause-same
returns-else-from-to-clause-same c same =
    let long : length c.args.self.now.cells.items ≡ 480 = search rules in
    let as_long : length c.args.other.now.cells.items ≡ 480 = search rules in
    ap grid_of (same_list c.args.self.now.cells.items c.args.other.now.cells.items long as_long (sym (returns-else-from-to-clause-told c) ∙ same))
