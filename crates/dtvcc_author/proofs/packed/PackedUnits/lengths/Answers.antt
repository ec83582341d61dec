use Rattle.std.proofs.Common.{◌≡◌, ◌∙◌, ap, arith, length, sym}
use Rattle.std.specs.List.{concat}
use Rattle.std.proofs.lemmas.List.{length-map}
use Rattle.dtvcc_author.specs.Packed.{divided}
use Rattle.dtvcc_author.proofs.packed.PackedUnits.lengths.Goals as goal

pub returns-clause-counted : goal.returns-clause-counted
returns-clause-counted c =
    let sizes : length c.self.inside.lengths.items ≡ length c.args.self.now =
    ap length (sym c.self.invariant.lengths) ∙ length-map (divided c.self.inside.lengths.items c.self.inside.bytes.items) length ∙ ap length c.self.view_is in
    omega (arith, sizes, c.self.inside.lengths.small, c.self.inside.lengths.ok.0, c.self.inside.lengths.ok.1)

pub returns-clause-measured : goal.returns-clause-measured
returns-clause-measured c =
    let bytes : length (concat c.args.self.now) ≡ length c.self.inside.bytes.items =
    ap (λ l. length (concat l)) (sym c.self.view_is) ∙ ap length c.self.invariant.whole in
    omega (arith, bytes, c.self.inside.bytes.small, c.self.inside.bytes.ok.0, c.self.inside.bytes.ok.1)
