use Rattle.std.proofs.Common.{◌≡◌, true, None}
use Rattle.dtvcc_screen.specs.declared.change.Change.TheVariants.{Delete}
use Rattle.dtvcc_screen.specs.Changes.{changed_by}
use Rattle.dtvcc_screen.specs.Objects.{windows_of}
use Rattle.dtvcc_screen.specs.Screens.{on_windows}
use Rattle.dtvcc_screen.proofs.ScreenLemmas.{upto}
use Rattle.dtvcc_screen.proofs.screen.Screen.reset.Given as goal

-- the windows below the id are deleted
abbrev pub invariant-loop-id : goal.invariant-loop-id
invariant-loop-id l =
    let old = windows_of l.fn.self.windows.items in
    record {
      so_far : windows_of l.self.windows.items ≡ upto l.id (on_windows (λ id. true) (changed_by Delete) old) old;
      current : l.self.current ≡ None;
    }
