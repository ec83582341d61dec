use Rattle.std.proofs.Common.{sym, ◌∙◌, ap, arith}
use Rattle.std.proofs.lemmas.Grind.{common_steps}
use Rattle.dtvcc_screen.specs.declared.screen.Screen.{Screen}
use Rattle.dtvcc_screen.specs.Commands.{is_named}
use Rattle.dtvcc_screen.specs.Objects.{windows_of}
use Rattle.dtvcc_screen.proofs.ScreenLemmas.{step_changed, step_kept, upto_all}
use Rattle.dtvcc_screen.proofs.screen.Screen.change.Goals as goal
use Rattle.dtvcc_screen.proofs.screen.Screen.change.Goals.{then-is_named, else-is_named}

pub loop-id-preserved : goal.loop-id-preserved
loop-id-preserved c = elim c.if-is_named.branch [
  | then-is_named w ↦ record {
    so_far = ap (λ (s : Screen). windows_of s.windows.items) w.self-is
        ∙ step_changed (is_named c.args.bits) c.args.change _ c.loop-id.self.windows.items c.loop-id.id _ _ c.loop-id.invariant.so_far
        (grind (arith, common_steps)) (sym c.is_named.ensures ∙ w.if-is_named.true) w.index_mut.ensures.value w.change_window.ensures;
    current = ap (λ (s : Screen). s.current) w.self-is ∙ c.loop-id.invariant.current;
  }
  | else-is_named w ↦ record {
    so_far = ap (λ (s : Screen). windows_of s.windows.items) w.self-is
        ∙ step_kept (is_named c.args.bits) c.args.change _ c.loop-id.self.windows.items c.loop-id.id c.loop-id.invariant.so_far
        (sym c.is_named.ensures ∙ w.if-is_named.false);
    current = ap (λ (s : Screen). s.current) w.self-is ∙ c.loop-id.invariant.current;
  }
]

pub returns-clause-windows : goal.returns-clause-windows
returns-clause-windows c = c.loop-id.invariant.so_far
    ∙ upto_all (is_named c.args.bits) c.args.change c.args.self.now.windows.items c.loop-id.id (grind (arith, common_steps))
