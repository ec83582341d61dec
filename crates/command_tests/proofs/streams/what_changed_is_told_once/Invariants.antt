use Rattle.std.proofs.Common.{ℕ, List}
use Rattle.caption_streams.specs.Receptions.{HasFed}
use Rattle.command_tests.proofs.streams.what_changed_is_told_once.Given as goal

abbrev pub invariant-loop-frame : goal.invariant-loop-frame
invariant-loop-frame g l = (before : List ℕ) × HasFed before l.receiving.reception
