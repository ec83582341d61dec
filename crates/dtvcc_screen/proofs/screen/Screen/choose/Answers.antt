use Rattle.std.proofs.Common.{arith}
use Rattle.std.proofs.lemmas.Grind.{common_steps}
use Rattle.dtvcc_screen.proofs.ScreenLemmas.{choose_screen}
use Rattle.dtvcc_screen.proofs.screen.Screen.choose.Goals as goal

pub returns-then-live : goal.returns-then-live
returns-then-live c =
    let is = choose_screen c.args.self.now.windows.items c.args.self.now.current c.from-id.result c.args.id c.index.result.now c.live.result
    c.from-id.ensures (grind (arith, common_steps)) c.index.ensures c.live.ensures in
    rw c.if-live.true at is

pub returns-else-live : goal.returns-else-live
returns-else-live c =
    let is = choose_screen c.args.self.now.windows.items c.args.self.now.current c.from-id.result c.args.id c.index.result.now c.live.result
    c.from-id.ensures (grind (arith, common_steps)) c.index.ensures c.live.ensures in
    rw c.if-live.false at is
