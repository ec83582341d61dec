-- The fronts of a channel and of a service, as the laws say them.
use Rattle.std.proofs.Common.{◌≤◌, ◌<◌}
use Rattle.std.specs.Prelude.{IfSome}
use Rattle.std.proofs.lemmas.List.Elements.{recursion_from_All}
use Rattle.cue_lists.specs.Channels.{cues_on}
use Rattle.cue_lists.specs.declared.cue.Cue.{Cue}
use Rattle.live_frames.specs.LaneFronts.{ChannelFrontIsKept, ServiceFrontIsKept}
use Rattle.live_frames.proofs.FieldFronts.{slots_kept}
use Rattle.live_frames.proofs.ServiceFronts.{bytes_kept}

pub channel_front_kept : ChannelFrontIsKept
channel_front_kept channel from cues more slots moved loaded hidden placed longer =
    slots_kept channel from cues more slots moved (recursion_from_All (λ (cue : Cue). from ≤ cue.load) more loaded)
    (recursion_from_All (λ (cue : Cue). IfSome cue.hide (λ hide. cue.show < hide)) (cues_on channel more) hidden) placed longer

pub service_front_kept : ServiceFrontIsKept
service_front_kept rate service from count share cues more frames moved loaded kept placed longer =
    bytes_kept rate service from count share cues more frames moved (recursion_from_All (λ (cue : Cue). from ≤ cue.load) more loaded)
    kept placed longer
