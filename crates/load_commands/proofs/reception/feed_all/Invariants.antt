use Rattle.std.proofs.Common.{◌≤◌, ◌+◌, ◌-◌, ◌++◌, ℕ, List, length, take}
use Rattle.cc_receiver.specs.Receivers.{HasReceived, frame_count}
use Rattle.load_commands.proofs.reception.feed_all.Given as goal

-- the words so far were fed
abbrev pub invariant-loop-at : goal.invariant-loop-at
invariant-loop-at l = record {
  within : l.at ≤ length l.words;
  counted : frame_count l.receiver ≤ frame_count l.initial.receiver + l.at;
  received : (before : List ℕ) → HasReceived before l.initial.receiver → HasReceived (before ++ take l.at l.words) l.receiver;
}

abbrev pub decreases-loop-at : goal.decreases-loop-at
decreases-loop-at l = length l.words - l.at
