use Rattle.std.proofs.Common.{◌∙◌, ◌-◌, ◌||◌, Bool, ap, subst, sym}
use Rattle.std.proofs.lemmas.Bool.{true≢false}
use Rattle.grid_print.specs.Kept.{seen_at}
use Rattle.grid_print.specs.Screens.{HaveSameWindows, LookAlike, screens_of}
use Rattle.grid_print.specs.Shown.{last_grid, last_shown}
use Rattle.grid_print.proofs.DifferingLemmas.{some_differ, none_differ}
use Rattle.grid_print.proofs.ScreenLemmas.{channels_differ}
use Rattle.grid_print.proofs.shown.Shown.pass_of.Goals as goal
use Rattle.grid_print.proofs.shown.Shown.pass_of.Goals.{then-some, else-some}

pub returns-clause-told : goal.returns-clause-told
returns-clause-told g c seen behind =
    let grids = some_differ (last_grid c.args.self.now) (g.G.Grids.grids c.args.r.now) c.channels_differ-differing.result c.any-some.result
    c.channels_differ-differing.ensures c.any-some.ensures.some in
    let windows = c.keep_services-services.ensures.some seen behind (λ is. absurd (true≢false is)) in
    ap (λ (b : Bool). b || c.keep_services-services.result) grids
    ∙ ap (λ (b : Bool). channels_differ (last_grid c.args.self.now) (screens_of (g.G.Grids.grids c.args.r.now) seen).grids || b) windows

pub returns-clause-now : goal.returns-clause-now
returns-clause-now g c seen behind =
    let windows = c.keep_services-services.ensures.now seen behind (λ is. absurd (true≢false is)) in
    elim c.if-some.branch [
      | then-some w ↦ subst (λ s. LookAlike (last_shown s) (screens_of (g.G.Grids.grids c.args.r.now) seen)) (sym w.self-is) (record {
        grids = w.keep_channels.ensures.now;
        windows = subst (λ k. HaveSameWindows (λ service. seen_at k.items (service - 1)) seen) (sym w.keep_channels.ensures.services) windows;
      })
      | else-some w ↦ subst (λ s. LookAlike (last_shown s) (screens_of (g.G.Grids.grids c.args.r.now) seen)) (sym w.self-is) (record {
        grids = c.keep_services-services.ensures.grids ∙ none_differ _ _ c.channels_differ-differing.result c.channels_differ-differing.ensures
            (c.any-some.ensures.none w.if-some.false);
        windows = windows;
      })
    ]
