use Rattle.windows_shown.proofs.CaptionLanesLemmas.{captions_sound, lane_bytes_are, lane_sound}
use Rattle.windows_shown.proofs.UnitLemmas.{units_plain}
use Rattle.windows_shown.proofs.service_laws.law_of_caption_lanes.Goals as goal

pub returns : goal.returns
returns c = record {
  bytes = lane_bytes_are;
  captions = captions_sound;
  units = units_plain;
  placed = lane_sound;
}
