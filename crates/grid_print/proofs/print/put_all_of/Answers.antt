use Rattle.std.proofs.Common.{◌∙◌}
use Rattle.line21_codes.specs.declared.channels.Chan.TheVariants.{Cc1, Cc2, Cc3, Cc4}
use Rattle.line21_screen.specs.Objects.{grid_in}
use Rattle.text_output.proofs.PageLemmas.{put_whole, some_then, writes_same, writes_then}
use Rattle.grid_print.specs.Screens.{screens_of}
use Rattle.grid_print.proofs.ScreenLemmas.{all_joined, grid_shown}
use Rattle.grid_print.proofs.print.put_all_of.Goals as goal

pub returns-clause-bytes : goal.returns-clause-bytes
returns-clause-bytes g c = λ seen shows.
    let grids = g.G.Grids.grids c.args.r.now in
    (put_whole _ _ _ _ _ c.finish.result c.begin.ensures.answer (c.begin.ensures.held ∙ c.new-text.ensures)
    (writes_same _ _ _ _ (all_joined c.args.frame (screens_of grids seen))
    (writes_then _ _ _ _ _ (writes_then _ _ _ _ _ (writes_then _ _ _ _ _ (writes_then _ _ _ _ _ (writes_then _ _ _ _ _ c.write_frame.ensures
    (writes_same _ _ _ _ (grid_shown Cc1 (grid_in c.displayed.result.now) grids c.displayed.ensures) c.write_grid_unless_empty.ensures))
    (writes_same _ _ _ _ (grid_shown Cc2 (grid_in c.displayed-2.result.now) grids c.displayed-2.ensures) c.write_grid_unless_empty-2.ensures))
    (writes_same _ _ _ _ (grid_shown Cc3 (grid_in c.displayed-3.result.now) grids c.displayed-3.ensures) c.write_grid_unless_empty-3.ensures))
    (writes_same _ _ _ _ (grid_shown Cc4 (grid_in c.displayed-4.result.now) grids c.displayed-4.ensures) c.write_grid_unless_empty-4.ensures))
    (c.write_shown_services.ensures.text seen shows)))
    c.finish.ensures).0

pub returns-clause-cause : goal.returns-clause-cause
returns-clause-cause g c =
    (put_whole _ _ _ _ _ c.finish.result c.begin.ensures.answer (c.begin.ensures.held ∙ c.new-text.ensures)
    (some_then _ _ _ (_, c.write_frame.ensures) (some_then _ _ _ (_, c.write_grid_unless_empty.ensures) (some_then _ _ _ (_, c.write_grid_unless_empty-2.ensures)
    (some_then _ _ _ (_, c.write_grid_unless_empty-3.ensures) (some_then _ _ _ (_, c.write_grid_unless_empty-4.ensures) c.write_shown_services.ensures.some))))).1
    c.finish.ensures).1
