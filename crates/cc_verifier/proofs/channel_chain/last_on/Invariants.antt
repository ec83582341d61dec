use Rattle.std.proofs.Common.{◌≡◌, ◌≤◌}
use Rattle.cc_verifier.specs.ChannelNewest.{newest}
use Rattle.cc_verifier.proofs.channel_chain.last_on.Given as goal

abbrev pub invariant-loop-at : goal.invariant-loop-at
invariant-loop-at l = record {
  within : l.at ≤ l.fn.count;
  same : newest l.channel l.cues l.fn.count ≡ newest l.channel l.cues l.at;
}

abbrev pub decreases-loop-at : goal.decreases-loop-at
decreases-loop-at l = l.at
