use Rattle.services_shown.proofs.RoomLemmas.{blocks_bytes, blocks_within, frames_roomy, has_blocks}
use Rattle.services_shown.proofs.laws.law_of_frame_room.Goals as goal

pub returns : goal.returns
returns c list placed formed ruled all = record {
  bytes = blocks_bytes list placed formed ruled all;
  within = blocks_within list placed formed ruled all;
  roomy = frames_roomy list placed formed ruled all;
  blocks = has_blocks list placed formed ruled all;
}
