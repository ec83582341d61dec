use Rattle.std.proofs.Common.{◌∙◌, ap, subst}
use Rattle.cc_receiver.specs.ReceivedServices.{received_windows}
use Rattle.line21_codes.specs.declared.channels.Chan.{Chan}
use Rattle.line21_screen.specs.Grid.{Grid}
use Rattle.grid_print.specs.GridTexts.{screens_differ}
use Rattle.grid_print.specs.Screens.{LookAlike, screens_of}
use Rattle.grid_print.specs.Shown.{last_shown}
use Rattle.grid_print.proofs.ScreenLemmas.{grids_behind, windows_behind}
use Rattle.grid_print.proofs.shown.Shown.pass.Goals as goal

pub returns-clause-told : goal.returns-clause-told
returns-clause-told c = λ frames behind.
    c.pass_of.ensures.told (received_windows frames) (windows_behind frames c.args.r.now behind)
    ∙ ap (λ (grids : Chan → Grid). screens_differ (last_shown c.args.self.now) (screens_of grids (received_windows frames))) (grids_behind frames c.args.r.now behind)

pub returns-clause-now : goal.returns-clause-now
returns-clause-now c = λ frames behind.
    subst (λ (grids : Chan → Grid). LookAlike (last_shown c.pass_of.new.self) (screens_of grids (received_windows frames)))
    (grids_behind frames c.args.r.now behind) (c.pass_of.ensures.now (received_windows frames) (windows_behind frames c.args.r.now behind))
