use Rattle.std.proofs.Common.{◌<◌, ◌≤◌, ℕ, List}
use Rattle.cc_receiver.specs.ReceivedServices.{received_windows}
use Rattle.cc_receiver.specs.Receivers.{HasReceived}
use Rattle.cdp_packets.specs.Packets.{Frame}
use Rattle.words_files.specs.FramesOf.{AreFramesOf}
use Rattle.cc_receiver.specs.CaptionChannel.{caption_channel}
use Rattle.cc_verifier.specs.Differing.{ShowsItsWindows}
use Rattle.cc_verifier.proofs.service_checks.first_other.Given as goal

-- the windows of the first services are seen as they are authored
abbrev pub invariant-loop-service : goal.invariant-loop-service
invariant-loop-service l = (bytes : List ℕ) (frames : List Frame) → HasReceived bytes l.receiver → AreFramesOf caption_channel frames bytes
    → (service : ℕ) → service < l.service → 1 ≤ service → ShowsItsWindows l.cues l.frame (received_windows frames) service
