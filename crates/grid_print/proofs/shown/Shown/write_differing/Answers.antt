use Rattle.std.proofs.Common.{◌++◌, ◌∙◌, ap, sym, append-nil}
use Rattle.text_output.proofs.PageLemmas.{some_then, writes_same, writes_then}
use Rattle.grid_print.specs.GridTexts.{frame_line}
use Rattle.grid_print.specs.Kept.{changed_places}
use Rattle.grid_print.specs.Shown.{last_grid}
use Rattle.grid_print.proofs.ScreenLemmas.{changed_channels, none_if, text_if}
use Rattle.grid_print.proofs.shown.Shown.write_differing.Goals as goal

pub returns-then-services-clause-some : goal.returns-then-services-clause-some
returns-then-services-clause-some g c =
    some_then _ _ _ (_, c.write_frame.ensures) (some_then _ _ _ (_, c.write_channels.ensures.text) c.write_changed.ensures.some)

pub returns-then-services-clause-text : goal.returns-then-services-clause-text
returns-then-services-clause-text g c seen behind =
    let front = frame_line c.args.frame ++ changed_channels (last_grid c.args.self.now) (g.G.Grids.grids c.args.r.now) in
    writes_same _ _ _ _
    (ap (λ t. front ++ t)
    (text_if c.args.services (changed_places c.args.self.now.services.items seen) c.if-services.true))
    (writes_then _ _ _ _ _ (writes_then _ _ _ _ _ c.write_frame.ensures c.write_channels.ensures.text)
    (writes_same _ _ _ _ (ap (λ k. changed_places k seen) (c.deref.ensures.value ∙ ap (λ k. k.items) c.write_channels.ensures.services))
    (c.write_changed.ensures.text seen behind)))

pub returns-else-services-clause-some : goal.returns-else-services-clause-some
returns-else-services-clause-some g c = some_then _ _ _ (_, c.write_frame.ensures) (_, c.write_channels.ensures.text)

pub returns-else-services-clause-text : goal.returns-else-services-clause-text
returns-else-services-clause-text g c seen behind =
    let front = frame_line c.args.frame ++ changed_channels (last_grid c.args.self.now) (g.G.Grids.grids c.args.r.now) in
    writes_same _ _ _ _
    (sym (append-nil front) ∙ ap (λ t. front ++ t)
    (none_if c.args.services (changed_places c.args.self.now.services.items seen) c.if-services.false))
    (writes_then _ _ _ _ _ c.write_frame.ensures c.write_channels.ensures.text)
