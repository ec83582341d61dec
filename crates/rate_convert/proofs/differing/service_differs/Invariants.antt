use Rattle.std.proofs.Common.{◌≡◌, ◌<◌, ℕ, List}
use Rattle.cc_receiver.specs.ReceivedServices.{received_windows}
use Rattle.cc_receiver.specs.Receivers.{HasReceived}
use Rattle.cdp_packets.specs.Packets.{Frame}
use Rattle.words_files.specs.FramesOf.{AreFramesOf}
use Rattle.services_files.specs.CaptionChannel.{caption_channel}
use Rattle.rate_convert.specs.ServedFrames.{AreServed}
use Rattle.rate_convert.proofs.differing.service_differs.Given as goal

-- the same is seen of the first windows
abbrev pub invariant-loop-id : goal.invariant-loop-id
invariant-loop-id l = (bytes : List ℕ) (frames others : List Frame) → HasReceived bytes l.input → AreFramesOf caption_channel frames bytes
    → AreServed others l.output → (id : ℕ) → id < l.id → received_windows others l.service id ≡ received_windows frames l.service id
