-- Fit frames are sound.
use Rattle.frame_carrier.proofs.CarriedLemmas.{frames_carried}
use Rattle.frame_carrier.specs.Carried.{AreCarried}
use Rattle.services_shown.proofs.ChannelLemmas.{programmes_whole}
use Rattle.services_shown.specs.Sound.{FitFramesAreSound}

pub fit_sound : FitFramesAreSound
fit_sound rate n columns pairs blocks =
    let carried : AreCarried rate columns n = frames_carried rate columns n pairs.pairs blocks.bytes blocks.roomy in
    record {
      doubled = pairs.doubled;
      carried = carried;
      within = blocks.within;
      whole = programmes_whole rate columns n blocks.blocks carried;
      fills = blocks.fills;
    }
