use Rattle.std.proofs.Common.{ℕ, ◌++◌, ◌∷◌, [], subst}
use Rattle.cc_receiver.specs.ReceivedServices.{received_windows}
use Rattle.cc_receiver.specs.Receivers.{displayed_grid}
use Rattle.line21_codes.specs.declared.channels.Chan.{Chan}
use Rattle.line21_screen.specs.Grid.{Grid}
use Rattle.text_output.specs.Pages.{Writes, page}
use Rattle.grid_print.specs.GridTexts.{changes_text}
use Rattle.grid_print.specs.Screens.{LookAlike, screens_of}
use Rattle.grid_print.specs.Shown.{last_shown}
use Rattle.grid_print.proofs.ScreenLemmas.{grids_behind, turned_behind, windows_behind}
use Rattle.grid_print.proofs.shown.Shown.write_changes.Goals as goal

pub returns-clause-text : goal.returns-clause-text
returns-clause-text g c = λ earlier last behind same.
    let frames = earlier ++ last ∷ [] in
    subst (λ (grids : Chan → Grid). Writes (page c.args.text.now (g.O.Sink.written c.args.out.now) (g.O.Sink.faults c.args.out.now))
    (page c.write_changes_of.new.text (g.O.Sink.written c.write_changes_of.new.out) (g.O.Sink.faults c.write_changes_of.new.out))
    (changes_text c.args.frame (last_shown c.args.self.now) (screens_of grids (received_windows frames))))
    (grids_behind frames c.args.r.now behind)
    (subst (λ (n : ℕ). Writes (page c.args.text.now (g.O.Sink.written c.args.out.now) (g.O.Sink.faults c.args.out.now))
    (page c.write_changes_of.new.text (g.O.Sink.written c.write_changes_of.new.out) (g.O.Sink.faults c.write_changes_of.new.out))
    (changes_text n (last_shown c.args.self.now) (screens_of (displayed_grid c.args.r.now) (received_windows frames)))) c.from.ensures
    (c.write_changes_of.ensures.text (received_windows earlier) (received_windows frames) (turned_behind earlier last c.args.r.now behind)
    (windows_behind frames c.args.r.now behind) same))

pub returns-clause-now : goal.returns-clause-now
returns-clause-now g c = λ earlier last behind same.
    let frames = earlier ++ last ∷ [] in
    subst (λ (grids : Chan → Grid). LookAlike (last_shown c.write_changes_of.new.self) (screens_of grids (received_windows frames)))
    (grids_behind frames c.args.r.now behind)
    (c.write_changes_of.ensures.now (received_windows earlier) (received_windows frames) (turned_behind earlier last c.args.r.now behind)
    (windows_behind frames c.args.r.now behind) same)
