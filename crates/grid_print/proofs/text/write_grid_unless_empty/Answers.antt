use Rattle.line21_screen.specs.Objects.{grid_in}
use Rattle.text_output.proofs.PageLemmas.{writes_none, writes_same}
use Rattle.grid_print.proofs.ScreenLemmas.{no_runs, some_runs}
use Rattle.grid_print.proofs.text.write_grid_unless_empty.Goals as goal

pub returns-then-run_count-ne0 : goal.returns-then-run_count-ne0
returns-then-run_count-ne0 g c =
    writes_same _ _ _ _ (some_runs c.args.chan (grid_in c.args.memory.now) c.run_count.result c.run_count.ensures c.if-run_count-ne0.true) c.write_grid.ensures

pub returns-else-run_count-ne0 : goal.returns-else-run_count-ne0
returns-else-run_count-ne0 g c =
    writes_same _ _ _ _ (no_runs c.args.chan (grid_in c.args.memory.now) c.run_count.result c.run_count.ensures c.if-run_count-ne0.false) (writes_none _)
