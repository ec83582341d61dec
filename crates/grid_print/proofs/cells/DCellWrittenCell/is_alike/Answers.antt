use Rattle.std.proofs.Common.{◌&&◌, ◌∙◌, Bool, sym, ap}
use Rattle.grid_print.specs.Writing.{written_alike}
use Rattle.grid_print.proofs.AlikeLemmas.{same_colors}
use Rattle.grid_print.proofs.cells.DCellWrittenCell.is_alike.Goals as goal

pub returns-then-eq : goal.returns-then-eq
unfolding written_alike
returns-then-eq c =
    c.eq-then-eq.ensures ∙ sym (ap (λ (b : Bool). b && same_colors c.args.self.colors c.args.other.colors) (sym c.eq.ensures ∙ c.if-eq.true))

pub returns-else-eq : goal.returns-else-eq
unfolding written_alike
returns-else-eq c =
    c.if-eq.false ∙ sym (ap (λ (b : Bool). b && same_colors c.args.self.colors c.args.other.colors) (sym c.eq.ensures ∙ c.if-eq.false))
