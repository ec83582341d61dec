use Rattle.std.proofs.Common.{◌≡◌, ◌<◌, ℕ, List}
use Rattle.cue_lists.specs.AuthoredServiceGrid.{authored_windows}
use Rattle.cc_receiver.specs.ReceivedServices.{received_windows}
use Rattle.cc_receiver.specs.Receivers.{HasReceived}
use Rattle.cdp_packets.specs.Packets.{Frame}
use Rattle.words_files.specs.FramesOf.{AreFramesOf}
use Rattle.cc_receiver.specs.CaptionChannel.{caption_channel}
use Rattle.cc_verifier.proofs.service_checks.has_other_window.Given as goal

-- the first windows are seen as they are authored
abbrev pub invariant-loop-id : goal.invariant-loop-id
invariant-loop-id l = (bytes : List ℕ) (frames : List Frame) → HasReceived bytes l.receiver → AreFramesOf caption_channel frames bytes
    → (id : ℕ) → id < l.id → received_windows frames l.service id ≡ authored_windows l.service l.cues l.frame id
