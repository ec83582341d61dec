use Rattle.std.proofs.Common.{arith}
use Rattle.std.proofs.lemmas.Grind.{common_steps}
use Rattle.dtvcc_screen.proofs.ScreenLemmas.{define_screen}
use Rattle.dtvcc_screen.proofs.screen.Screen.define.Goals as goal

pub returns : goal.returns
returns c = define_screen c.args.definition.now c.args.self.now.windows.items c.args.self.now.current c.from-id.result
    c.index_mut.result.now c.define.new.self c.from-id.ensures (grind (arith, common_steps)) c.index_mut.ensures.value c.define.ensures.window
