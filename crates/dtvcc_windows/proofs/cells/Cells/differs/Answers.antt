use Rattle.std.proofs.Common.{◌≡◌, length, arith, rules, refl, sym, ◌∙◌}
use Rattle.std.proofs.lemmas.Slice.Eq.{slice_eq-Decides}
use Rattle.dtvcc_windows.proofs.PartLemmas.{parts_same, same_where_none, told_same, told_other}
use Rattle.dtvcc_windows.proofs.SameLemmas.{Decides-place}
use Rattle.dtvcc_windows.proofs.cells.Cells.differs.Goals as goal

pub returns-then-from-to-clause-same : goal.returns-then-from-to-clause-same
returns-then-from-to-clause-same c same =
    let long : length c.args.self.now.places.items ≡ 1024 = search rules in
    let as_long : length c.args.other.now.places.items ≡ 1024 = search rules in
    told_same _ (parts_same c.args.self.now.places.items c.args.other.now.places.items c.min-from.result c.max-to.result _ long as_long
    (λ k d from to. c.args.self.now.none_above k d from (omega arith)) (λ k d from to. c.args.other.now.none_above k d from (omega arith))
    (λ k d from to. c.args.self.now.none_below k d (omega arith) to) (λ k d from to. c.args.other.now.none_below k d (omega arith) to)
    (slice_eq-Decides Decides-place _ _ _ refl))
    (sym (rw (c.deref.ensures.value, c.deref-then-from-to.ensures.value) at c.ne.ensures) ∙ same)

pub returns-then-from-to-clause-other : goal.returns-then-from-to-clause-other
returns-then-from-to-clause-other c other =
    let long : length c.args.self.now.places.items ≡ 1024 = search rules in
    let as_long : length c.args.other.now.places.items ≡ 1024 = search rules in
    told_other _ (parts_same c.args.self.now.places.items c.args.other.now.places.items c.min-from.result c.max-to.result _ long as_long
    (λ k d from to. c.args.self.now.none_above k d from (omega arith)) (λ k d from to. c.args.other.now.none_above k d from (omega arith))
    (λ k d from to. c.args.self.now.none_below k d (omega arith) to) (λ k d from to. c.args.other.now.none_below k d (omega arith) to)
    (slice_eq-Decides Decides-place _ _ _ refl))
    (sym (rw (c.deref.ensures.value, c.deref-then-from-to.ensures.value) at c.ne.ensures) ∙ other)

pub returns-else-from-to-clause-same : goal.returns-else-from-to-clause-same
returns-else-from-to-clause-same c same =
    let long : length c.args.self.now.places.items ≡ 1024 = search rules in
    let as_long : length c.args.other.now.places.items ≡ 1024 = search rules in
    same_where_none c.args.self.now.places.items c.args.other.now.places.items c.min-from.result c.max-to.result long as_long
    (λ k d from to. c.args.self.now.none_above k d from (omega arith)) (λ k d from to. c.args.other.now.none_above k d from (omega arith))
    (λ k d from to. c.args.self.now.none_below k d (omega arith) to) (λ k d from to. c.args.other.now.none_below k d (omega arith) to)
    c.if-from-to.false
