use Rattle.std.proofs.Common.{◌≡◌, ℕ, ◌-◌, ◌≤◌, List, None, length}
use Rattle.cc_receiver.specs.Receivers.{HasReceived, frame_count, receiver_refusal}
use Rattle.cc_receiver.proofs.FeedLemmas.{Underway}
use Rattle.cc_receiver.proofs.receiver.Receiver.feed.Given as goal

-- no refusal is kept, no frame was counted, and whatever the receiver was fed before, this many of the bytes were read
abbrev pub invariant-loop-used : goal.invariant-loop-used
invariant-loop-used l = record {
  within : l.used ≤ length l.bytes;
  unrefused : receiver_refusal l.self ≡ None;
  frames : frame_count l.self ≡ frame_count l.fn.self;
  underway : (before : List ℕ) → HasReceived before l.fn.self → Underway before l.bytes l.used l.self;
}

-- the bytes that are left
abbrev pub decreases-loop-used : goal.decreases-loop-used
decreases-loop-used l = length l.bytes - l.used
