use Rattle.std.proofs.Common.{inl, inr, arith}
use Rattle.std.proofs.lemmas.Bool.{cases_lt}
use Rattle.dtvcc_windows.proofs.cells.remove_cells.Goals as goal

pub returns-clause-below : goal.returns-clause-below
returns-clause-below c k d to =
    elim (cases_lt k c.args.from) [
      | inl above ↦ c.loop-place.invariant.above k d above
      | inr from ↦ c.loop-place.invariant.below k d (omega arith)
    ]
