use Rattle.std.proofs.Common.{◌≡◌, vec_len}
use Rattle.dtvcc_screen.specs.Objects.{windows_of}
use Rattle.dtvcc_screen.specs.Screens.{no_windows}
use Rattle.dtvcc_screen.proofs.screen.Screen.new.Given as goal

abbrev pub invariant-loop-id : goal.invariant-loop-id
invariant-loop-id l = record {
  none : windows_of l.windows.items ≡ no_windows;
  count : vec_len l.windows ≡ l._id;
}
