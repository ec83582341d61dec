use Rattle.std.proofs.Common.{◌≡◌, ◌<◌, ℕ}
use Rattle.cc_receiver.specs.Receivers.{displayed_grid}
use Rattle.cc_verifier.specs.ChannelLines.{line_cell}
use Rattle.cc_verifier.proofs.area.row_shows_other.Given as goal

abbrev pub invariant-loop-column : goal.invariant-loop-column
invariant-loop-column l = (k : ℕ) → k < l.column → displayed_grid l.receiver l.channel l.row k ≡ line_cell l.cues l.line k
