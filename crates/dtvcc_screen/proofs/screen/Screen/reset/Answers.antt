use Rattle.std.proofs.Common.{◌∙◌, ap, arith, refl, true, ℕ, Option}
use Rattle.std.proofs.lemmas.Grind.{common_steps}
use Rattle.dtvcc_screen.specs.declared.change.Change.TheVariants.{Delete}
use Rattle.dtvcc_screen.specs.Screens.{Windows, no_windows}
use Rattle.dtvcc_screen.proofs.ScreenLemmas.{screen, step_changed, upto_all}
use Rattle.dtvcc_screen.proofs.screen.Screen.reset.Goals as goal

pub loop-id-preserved : goal.loop-id-preserved
loop-id-preserved c = record {
  so_far = step_changed (λ id. true) Delete _ c.loop-id.self.windows.items c.loop-id.id _ _ c.loop-id.invariant.so_far
      (grind (arith, common_steps)) refl c.index_mut.ensures.value c.change_window.ensures;
  current = c.loop-id.invariant.current;
}

pub returns : goal.returns
returns c =
    ap (λ (ws : Windows). screen ws c.loop-id.self.current)
    (c.loop-id.invariant.so_far ∙ upto_all (λ id. true) Delete c.args.self.now.windows.items c.loop-id.id (grind (arith, common_steps)))
    ∙ ap (λ (current : Option ℕ). screen no_windows current) c.loop-id.invariant.current
