use Rattle.std.proofs.Common.{◌≡◌, arith, refl, subst}
use Rattle.std.proofs.lemmas.Grind.{common_steps}
use Rattle.grid_print.specs.Keeping.{KeepsWindows, windows_seen}
use Rattle.grid_print.proofs.KeptLemmas.{keeps_more, keeps_none}
use Rattle.grid_print.proofs.kept.keep_windows.Goals as goal

pub loop-id-init : goal.loop-id-init
loop-id-init g c seen behind = keeps_none (seen c.args.service) (windows_seen c.args.windows.now)

pub loop-id-preserved : goal.loop-id-preserved
loop-id-preserved g c seen behind =
    keeps_more (seen c.args.service) (windows_seen c.args.windows.now) c.loop-id.id c.loop-id.windows c.keep_window-differs.new.kept
    c.index-windows-id.result c.loop-id.changed c.keep_window-differs.result _
    (c.loop-id.invariant seen behind) (grind (arith, common_steps)) (c.keep_window-differs.ensures.told seen behind) (c.keep_window-differs.ensures.kept seen behind) refl

pub returns : goal.returns
returns g c seen behind =
    let all : c.loop-id.id ≡ 8 = grind (arith, common_steps) in
    subst (λ n. KeepsWindows (seen c.args.service) n (windows_seen c.args.windows.now) (windows_seen c.loop-id.windows) c.loop-id.changed) all
    (c.loop-id.invariant seen behind)
