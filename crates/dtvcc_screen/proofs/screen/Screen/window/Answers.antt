use Rattle.std.proofs.Common.{◌∙◌, ap, sym, arith}
use Rattle.std.proofs.lemmas.Grind.{common_steps}
use Rattle.dtvcc_screen.specs.Objects.{windows_of}
use Rattle.dtvcc_screen.proofs.ScreenLemmas.{window_here, window_none, window_past}
use Rattle.dtvcc_screen.proofs.screen.Screen.window.Goals as goal

pub returns-then-id-ge-WINDOWS-clause-window : goal.returns-then-id-ge-WINDOWS-clause-window
returns-then-id-ge-WINDOWS-clause-window c = window_past c.args.self.now.windows.items c.args.id (grind (arith, common_steps))

pub returns-then-live-clause-window : goal.returns-then-live-clause-window
returns-then-live-clause-window c =
    sym (ap (windows_of c.args.self.now.windows.items) (sym c.from-id.ensures)
    ∙ window_here c.args.self.now.windows.items c.from-id.result c.index-window.result.now (grind (arith, common_steps)) c.index-window.ensures)

pub returns-else-live-clause-window : goal.returns-else-live-clause-window
returns-else-live-clause-window c =
    ap (windows_of c.args.self.now.windows.items) (sym c.from-id.ensures)
    ∙ window_none c.args.self.now.windows.items c.from-id.result c.index-window.result.now c.live.result (grind (arith, common_steps))
    c.index-window.ensures c.live.ensures c.if-live.false
