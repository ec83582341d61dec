use Rattle.std.proofs.Common.{◌∙◌, sym, arith}
use Rattle.std.proofs.lemmas.Grind.{common_steps}
use Rattle.dtvcc_windows.specs.Objects.{window_of}
use Rattle.dtvcc_screen.specs.Commands.{edited_by}
use Rattle.dtvcc_screen.specs.Objects.{screen_of}
use Rattle.dtvcc_screen.proofs.HiddenLemmas.{edit_unseen}
use Rattle.dtvcc_screen.proofs.ScreenLemmas.{edit_screen, window_here}
use Rattle.dtvcc_screen.proofs.screen.Screen.edit.Goals as goal

pub returns-clause-screen : goal.returns-clause-screen
returns-clause-screen c = edit_screen (edited_by c.args.command.now) c.args.self.now.windows.items c.args.self.now.current c.in-Some.id
    c.index_mut-window.result.now c.edit_window.new.window c.in-Some.is (grind (arith, common_steps)) c.index_mut-window.ensures.value c.edit_window.ensures

pub returns-clause-seen : goal.returns-clause-seen
returns-clause-seen c = λ unseen.
    edit_unseen c.args.command.now (screen_of c.args.self.now) _ c.in-Some.id (window_of c.index_mut-window.result.now) c.in-Some.is
    (window_here c.args.self.now.windows.items c.in-Some.id c.index_mut-window.result.now (grind (arith, common_steps)) c.index_mut-window.ensures.value)
    (sym c.is_shown-shown.ensures ∙ unseen)
    (edit_screen (edited_by c.args.command.now) c.args.self.now.windows.items c.args.self.now.current c.in-Some.id
    c.index_mut-window.result.now c.edit_window.new.window c.in-Some.is (grind (arith, common_steps)) c.index_mut-window.ensures.value c.edit_window.ensures)
