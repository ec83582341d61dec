use Rattle.std.proofs.Common.{◌≡◌, ◌+◌, ◌-◌, ◌∙◌, ap, arith, drop, length, sym, take}
use Rattle.std.proofs.lemmas.List.{length-map, length-take}
use Rattle.dtvcc_author.specs.Packed.{divided}
use Rattle.dtvcc_author.proofs.PackedLemmas.{packed_unit}
use Rattle.dtvcc_author.proofs.packed.PackedUnits.unit.Goals as goal

pub overflow_add-result : goal.overflow_add-result
overflow_add-result c =
    let read = packed_unit c.self.inside.lengths.items c.self.inside.bytes.items c.args.self.now c.args.index c.args.start c.index.result.now
    c.self.invariant c.self.view_is c.requires.index c.requires.start c.index.ensures in
    omega (arith, read.0, c.from-size.ensures, c.deref.ensures.value, c.deref.ensures.len)

pub slice_bounds-result-end : goal.slice_bounds-result-end
slice_bounds-result-end c =
    let read = packed_unit c.self.inside.lengths.items c.self.inside.bytes.items c.args.self.now c.args.index c.args.start c.index.result.now
    c.self.invariant c.self.view_is c.requires.index c.requires.start c.index.ensures in
    omega (arith, read.0, c.from-size.ensures, ap length c.deref.ensures.value)

pub returns-clause-unit : goal.returns-clause-unit
returns-clause-unit c =
    let read = packed_unit c.self.inside.lengths.items c.self.inside.bytes.items c.args.self.now c.args.index c.args.start c.index.result.now
    c.self.invariant c.self.view_is c.requires.index c.requires.start c.index.ensures in
    let size : c.args.start + c.from-size.result - c.args.start ≡ c.index.result.now = omega (arith, c.from-size.ensures) in
    ap (λ n. take n (drop c.args.start c.deref.result.now)) size ∙ ap (λ l. take c.index.result.now (drop c.args.start l)) c.deref.ensures.value ∙ read.1

pub returns-clause-small : goal.returns-clause-small
returns-clause-small c =
    let sizes : length c.self.inside.lengths.items ≡ length c.args.self.now =
    ap length (sym c.self.invariant.lengths) ∙ length-map (divided c.self.inside.lengths.items c.self.inside.bytes.items) length ∙ ap length c.self.view_is in
    let few = c.self.invariant.small c.args.index c.index.result.now (omega (arith, sizes, c.requires.index)) in
    let most = length-take (c.args.start + c.from-size.result - c.args.start) (drop c.args.start c.deref.result.now) in
    omega (arith, few, most, c.index.ensures, c.from-size.ensures)

pub returns-clause-counted : goal.returns-clause-counted
returns-clause-counted c =
    let sizes : length c.self.inside.lengths.items ≡ length c.args.self.now =
    ap length (sym c.self.invariant.lengths) ∙ length-map (divided c.self.inside.lengths.items c.self.inside.bytes.items) length ∙ ap length c.self.view_is in
    omega (arith, sizes, c.requires.index, c.self.inside.lengths.small, c.self.inside.lengths.ok.0, c.self.inside.lengths.ok.1)

pub returns-clause-measured : goal.returns-clause-measured
returns-clause-measured c =
    let read = packed_unit c.self.inside.lengths.items c.self.inside.bytes.items c.args.self.now c.args.index c.args.start c.index.result.now
    c.self.invariant c.self.view_is c.requires.index c.requires.start c.index.ensures in
    let most = length-take (c.args.start + c.from-size.result - c.args.start) (drop c.args.start c.deref.result.now) in
    omega (arith, read.0, most, c.index.ensures, c.from-size.ensures, c.self.inside.bytes.small, c.self.inside.bytes.ok.0, c.self.inside.bytes.ok.1)
