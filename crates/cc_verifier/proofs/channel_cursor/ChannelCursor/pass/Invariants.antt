use Rattle.std.proofs.Common.{◌≡◌, ◌≤◌, ◌-◌, length}
use Rattle.cc_verifier.specs.ChannelCursors.{HasCome}
use Rattle.cc_verifier.specs.ChannelNewest.{newest}
use Rattle.cc_verifier.proofs.channel_cursor.ChannelCursor.pass.Given as goal

abbrev pub invariant-loop-self : goal.invariant-loop-self
invariant-loop-self l = record {
  within : l.self.next ≤ length l.cues;
  channel : l.self.channel ≡ l.fn.self.channel;
  last : l.self.last ≡ l.fn.self.last;
  come : HasCome l.frame (newest l.self.channel l.cues l.self.next);
}

abbrev pub decreases-loop-self : goal.decreases-loop-self
decreases-loop-self l = length l.cues - l.self.next
