use Rattle.std.specs.List.{zip}
use Rattle.windows_shown.specs.PlacedLanes.{loaded}
use Rattle.windows_shown.proofs.FrameLemmas.{buffer_keeps}
use Rattle.windows_shown.proofs.PlacedLanesLemmas.{placed_sound}
use Rattle.windows_shown.proofs.service_laws.law_of_placed_lanes.Goals as goal

pub returns : goal.returns
returns c = record {
  sound = placed_sound;
  fills = λ lane room chunks frames placed frame.
      buffer_keeps (loaded lane (zip chunks frames)) (placed_sound lane room chunks frames placed) frame;
}
