use Rattle.std.proofs.Common.{subst}
use Rattle.grid_print.specs.Changed.{HaveChanged}
use Rattle.grid_print.specs.Screens.{LookAlike, screens_of}
use Rattle.grid_print.specs.Shown.{last_shown}
use Rattle.line21_codes.specs.declared.channels.Chan.{Chan}
use Rattle.line21_screen.specs.Grid.{Grid}
use Rattle.caption_streams.specs.Receptions.{windows_behind}
use Rattle.caption_streams.proofs.ReceptionLemmas.{displayed_behind, shows_behind}
use Rattle.caption_streams.proofs.receiving.Receiving.changed.Goals as goal

pub returns-clause-told : goal.returns-clause-told
returns-clause-told c = λ frames stands.
    let reception = c.args.self.now.reception in
    subst (λ (grids : Chan → Grid). HaveChanged (last_shown c.args.self.now.shown) (screens_of grids (windows_behind reception frames)) c.changes_of.result)
    (displayed_behind reception frames stands) (c.changes_of.ensures.told (windows_behind reception frames) (shows_behind reception frames stands))

pub returns-clause-last : goal.returns-clause-last
returns-clause-last c = λ frames stands.
    let reception = c.args.self.now.reception in
    subst (λ (grids : Chan → Grid). LookAlike (last_shown c.changes_of.new.self) (screens_of grids (windows_behind reception frames)))
    (displayed_behind reception frames stands) (c.changes_of.ensures.now (windows_behind reception frames) (shows_behind reception frames stands))
