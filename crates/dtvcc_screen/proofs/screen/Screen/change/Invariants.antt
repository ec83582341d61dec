use Rattle.std.proofs.Common.{◌≡◌}
use Rattle.dtvcc_screen.specs.Changes.{changed_by}
use Rattle.dtvcc_screen.specs.Commands.{is_named}
use Rattle.dtvcc_screen.specs.Objects.{windows_of}
use Rattle.dtvcc_screen.specs.Screens.{on_windows}
use Rattle.dtvcc_screen.proofs.ScreenLemmas.{upto}
use Rattle.dtvcc_screen.proofs.screen.Screen.change.Given as goal

-- the windows below the id have changed where they are named
abbrev pub invariant-loop-id : goal.invariant-loop-id
invariant-loop-id l =
    let old = windows_of l.fn.self.windows.items in
    record {
      so_far : windows_of l.self.windows.items ≡ upto l.id (on_windows (is_named l.bits) (changed_by l.change) old) old;
      current : l.self.current ≡ l.fn.self.current;
    }
