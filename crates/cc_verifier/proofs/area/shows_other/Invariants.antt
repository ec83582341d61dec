use Rattle.std.proofs.Common.{◌≡◌, ◌<◌, ◌≤◌, ℕ}
use Rattle.cc_receiver.specs.Receivers.{displayed_grid}
use Rattle.cue_lists.specs.AuthoredGrid.{authored_grid}
use Rattle.cc_verifier.specs.ChannelCursors.{cursor_channel}
use Rattle.cc_verifier.proofs.area.shows_other.Given as goal

abbrev pub invariant-loop-row : goal.invariant-loop-row
invariant-loop-row l = (row : ℕ) → row < l.row → 1 ≤ row → (column : ℕ) → column < 32
    → displayed_grid l.receiver (cursor_channel l.cursor) row column ≡ authored_grid (cursor_channel l.cursor) l.cues l.frame row column
