-- Between crates: the program's answer stands on none of these definitions.
-- What frames with pairs laid over them are made of.
use Rattle.frame_scheduler.specs.declared.frames.Frames.{Ghosts as OfFrames}
use Rattle.frame_carrier.specs.declared.overlay.Overlay.{Ghosts as OfOverlay}
use Rattle.frame_carrier.specs.declared.overlaid.Overlaid.{Overlaid}

-- the frames under them
abbrev pub frames_under : {F L : Type 0} → {frames : OfFrames F} → {overlay : OfOverlay L} → Overlaid F L frames overlay → F
frames_under over = over.frames

-- what is laid over these
abbrev pub overlay_of : {F L : Type 0} → {frames : OfFrames F} → {overlay : OfOverlay L} → Overlaid F L frames overlay → L
overlay_of over = over.overlay
