use Rattle.std.proofs.Common.{ℕ, subst}
use Rattle.cc_base.specs.Streams.{Puts}
use Rattle.grid_print.specs.GridTexts.{changes_text}
use Rattle.grid_print.specs.Screens.{LookAlike, screens_of}
use Rattle.grid_print.specs.Shown.{last_shown}
use Rattle.line21_codes.specs.declared.channels.Chan.{Chan}
use Rattle.line21_screen.specs.Grid.{Grid}
use Rattle.caption_streams.specs.Receptions.{grids_behind, windows_behind}
use Rattle.caption_streams.proofs.ReceptionLemmas.{displayed_behind, shows_behind}
use Rattle.caption_streams.proofs.receiving.Receiving.put_changes.Goals as goal

pub returns-clause-bytes : goal.returns-clause-bytes
returns-clause-bytes g c = λ frames stands.
    let reception = c.args.self.now.reception in let last = last_shown c.args.self.now.shown in
    subst (λ (n : ℕ). Puts (g.O.Sink.written c.args.out.now) (g.O.Sink.written c.put_changes_of.new.out) c.put_changes_of.result
    (changes_text n last (screens_of (grids_behind reception frames) (windows_behind reception frames)))) (c.last_number-number.ensures frames stands)
    (subst (λ (grids : Chan → Grid). Puts (g.O.Sink.written c.args.out.now) (g.O.Sink.written c.put_changes_of.new.out) c.put_changes_of.result
    (changes_text c.last_number-number.result last (screens_of grids (windows_behind reception frames)))) (displayed_behind reception frames stands)
    (c.put_changes_of.ensures.bytes (windows_behind reception frames) (shows_behind reception frames stands)))

pub returns-clause-last : goal.returns-clause-last
returns-clause-last g c = λ frames stands.
    let reception = c.args.self.now.reception in
    subst (λ (grids : Chan → Grid). LookAlike (last_shown c.put_changes_of.new.self) (screens_of grids (windows_behind reception frames)))
    (displayed_behind reception frames stands) (c.put_changes_of.ensures.now (windows_behind reception frames) (shows_behind reception frames stands))
