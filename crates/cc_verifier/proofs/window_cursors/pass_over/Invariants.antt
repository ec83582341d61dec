use Rattle.std.proofs.Common.{◌-◌, length}
use Rattle.cc_verifier.specs.WindowPlaces.{HasPassed}
use Rattle.cc_verifier.proofs.window_cursors.pass_over.Given as goal

abbrev pub invariant-loop-next : goal.invariant-loop-next
invariant-loop-next l = HasPassed l.service l.id l.cues l.frame l.next

abbrev pub decreases-loop-next : goal.decreases-loop-next
decreases-loop-next l = length l.cues - l.next
