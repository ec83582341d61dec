use Rattle.std.proofs.Common.{◌∙◌, sym, ap}
use Rattle.line21_screen.specs.Differences.{grid_differs}
use Rattle.line21_screen.specs.Objects.{grid_in}
use Rattle.text_output.proofs.PageLemmas.{writes_none, writes_same}
use Rattle.grid_print.specs.GridTexts.{grid_text}
use Rattle.grid_print.proofs.ScreenLemmas.{none_if, text_if}
use Rattle.grid_print.proofs.shown.write_channel.Goals as goal

pub returns-then-differs-clause-text : goal.returns-then-differs-clause-text
returns-then-differs-clause-text g c =
    let grid = g.G.Grids.grids c.args.r.now c.args.chan in
    writes_same _ _ _ _
    (ap (grid_text c.args.chan) c.displayed-now.ensures
    ∙ text_if (grid_differs (grid_in c.args.kept.now) grid) (grid_text c.args.chan grid) (sym c.requires.differs ∙ c.if-differs.true))
    c.write_grid.ensures

pub returns-else-differs-clause-text : goal.returns-else-differs-clause-text
returns-else-differs-clause-text g c =
    let grid = g.G.Grids.grids c.args.r.now c.args.chan in
    writes_same _ _ _ _
    (none_if (grid_differs (grid_in c.args.kept.now) grid) (grid_text c.args.chan grid) (sym c.requires.differs ∙ c.if-differs.false))
    (writes_none _)
