use Rattle.std.proofs.Common.{◌∙◌, ap, arith}
use Rattle.std.proofs.lemmas.Grind.{common_steps}
use Rattle.dtvcc_screen.specs.Objects.{windows_of}
use Rattle.dtvcc_screen.proofs.ScreenLemmas.{windows_empty, windows_push}
use Rattle.dtvcc_screen.proofs.screen.Screen.new.Goals as goal

pub loop-id-init : goal.loop-id-init
loop-id-init c = record { none = ap windows_of c.new-windows.ensures.items ∙ windows_empty; count = grind (arith, common_steps) }

pub loop-id-preserved : goal.loop-id-preserved
loop-id-preserved c = record { none = ap windows_of c.in_ok-push.ensures.items ∙ windows_push _ _ c.loop-id.invariant.none c.in_ok-new.ensures.none; count = grind (arith, common_steps) }
