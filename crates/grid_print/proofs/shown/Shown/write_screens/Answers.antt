use Rattle.std.proofs.Common.{◌++◌, ◌∙◌, ◌-◌, [], if◌then◌else◌, ap, subst, sym}
use Rattle.text_output.proofs.PageLemmas.{some_none, writes_none, writes_same}
use Rattle.line21_codes.specs.declared.channels.Chan.{Chan}
use Rattle.line21_screen.specs.Grid.{Grid}
use Rattle.grid_print.specs.Differing.{TellsChannels}
use Rattle.grid_print.specs.GridTexts.{frame_line}
use Rattle.grid_print.specs.Kept.{changed_places, seen_at}
use Rattle.grid_print.specs.Screens.{HaveSameWindows, screens_of}
use Rattle.grid_print.specs.Shown.{last_grid, last_shown}
use Rattle.grid_print.proofs.DifferingLemmas.{none_differ, some_differ}
use Rattle.grid_print.proofs.ScreenLemmas.{changed_channels, changed_texts, changes_joined, neither, nothing_changed}
use Rattle.grid_print.proofs.shown.Shown.write_screens.Goals as goal

pub write_differing-requires : goal.write_differing-requires
write_differing-requires g c =
    subst (λ (was : Chan → Grid). TellsChannels was (g.G.Grids.grids c.args.r.now) c.channels_differ-differing.result) (sym c.keep_services-services.ensures.grids)
    c.channels_differ-differing.ensures

pub returns-then-changed-clause-text : goal.returns-then-changed-clause-text
returns-then-changed-clause-text g c seen behind same =
    let old = last_shown c.args.self.now in
    let new = screens_of (g.G.Grids.grids c.args.r.now) seen in
    let now = c.keep_services-services.new.self in
    let services = c.keep_services-services.result in
    let texts = if services then changed_places now.services.items seen else [] in
    writes_same _ _ _ _
    (ap (λ was. frame_line c.args.frame ++ changed_channels was (g.G.Grids.grids c.args.r.now) ++ texts) c.keep_services-services.ensures.grids
    ∙ changes_joined c.args.frame old new c.any.result services texts
    (some_differ (last_grid c.args.self.now) (g.G.Grids.grids c.args.r.now) c.channels_differ-differing.result c.any.result c.channels_differ-differing.ensures c.any.ensures.some) (c.keep_services-services.ensures.some seen behind same) c.if-changed.true
    (changed_texts seen c.args.self.now.services.items now.services.items services (c.keep_services-services.ensures.some seen behind same)
    (c.keep_services-services.ensures.each seen behind)))
    (c.write_differing.ensures.text seen behind)

pub returns-then-changed-clause-now : goal.returns-then-changed-clause-now
returns-then-changed-clause-now g c seen behind same = record {
  grids = c.write_differing.ensures.now;
  windows = subst (λ k. HaveSameWindows (λ service. seen_at k.items (service - 1)) seen) (sym c.write_differing.ensures.services)
      (c.keep_services-services.ensures.now seen behind same);
}

pub returns-else-changed-clause-some : goal.returns-else-changed-clause-some
returns-else-changed-clause-some g c = some_none _

pub returns-else-changed-clause-text : goal.returns-else-changed-clause-text
returns-else-changed-clause-text g c seen behind same =
    let old = last_shown c.args.self.now in
    writes_same _ _ _ _
    (nothing_changed c.args.frame old (screens_of (g.G.Grids.grids c.args.r.now) seen) c.any.result c.keep_services-services.result
    (some_differ (last_grid c.args.self.now) (g.G.Grids.grids c.args.r.now) c.channels_differ-differing.result c.any.result c.channels_differ-differing.ensures c.any.ensures.some)
    (c.keep_services-services.ensures.some seen behind same) c.if-changed.false)
    (writes_none _)

pub returns-else-changed-clause-now : goal.returns-else-changed-clause-now
returns-else-changed-clause-now g c seen behind same =
    let (channels_same, services_same) = neither c.any.result c.keep_services-services.result c.if-changed.false in
    record {
      grids = c.keep_services-services.ensures.grids ∙ none_differ _ _ c.channels_differ-differing.result c.channels_differ-differing.ensures (c.any.ensures.none channels_same);
      windows = c.keep_services-services.ensures.now seen behind same;
    }
