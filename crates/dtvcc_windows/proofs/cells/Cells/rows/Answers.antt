use Rattle.std.proofs.Common.{arith}
use Rattle.dtvcc_windows.proofs.PartLemmas.{none_at_all, none_before, none_behind}
use Rattle.dtvcc_windows.proofs.cells.Cells.rows.Goals as goal

pub returns-then-self-clause-below : goal.returns-then-self-clause-below
returns-then-self-clause-below c row col below =
    none_at_all c.args.self.now.places.items c.args.self.now.first c.args.self.now.behind row col
    c.args.self.now.none_above c.args.self.now.none_below c.if-self.true

pub returns-clause-above : goal.returns-clause-above
returns-clause-above c row col above =
    none_before c.args.self.now.places.items c.args.self.now.first row col c.args.self.now.none_above (omega arith)

pub returns-clause-below : goal.returns-clause-below
returns-clause-below c row col below =
    none_behind c.args.self.now.places.items c.args.self.now.behind row col c.args.self.now.none_below (omega arith)
