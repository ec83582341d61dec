use Rattle.std.proofs.Common.{◌<◌, ◌≤◌, ℕ, List}
use Rattle.cc_receiver.specs.ReceivedServices.{received_windows}
use Rattle.cc_receiver.specs.Receivers.{HasReceived}
use Rattle.cdp_packets.specs.Packets.{Frame}
use Rattle.words_files.specs.FramesOf.{AreFramesOf}
use Rattle.services_files.specs.CaptionChannel.{caption_channel}
use Rattle.rate_convert.specs.Differing.{LookAlike}
use Rattle.rate_convert.specs.ServedFrames.{AreServed}
use Rattle.rate_convert.proofs.differing.first_differing.Given as goal

-- the same is seen of the first services
abbrev pub invariant-loop-service : goal.invariant-loop-service
invariant-loop-service l = (bytes : List ℕ) (frames others : List Frame) → HasReceived bytes l.input → AreFramesOf caption_channel frames bytes
    → AreServed others l.output → (service : ℕ) → service < l.service → 1 ≤ service → LookAlike (received_windows frames) (received_windows others) service
