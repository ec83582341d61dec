use Rattle.std.proofs.Common.{◌≡◌, ◌≤◌, ◌++◌, drop, length, map, take}
use Rattle.frame_scheduler.specs.Blocks.{blocks_room, moved_on, next_blocks}
use Rattle.frame_scheduler.proofs.blocks.next_blocks.Given as goal

abbrev pub invariant-loop-service : goal.invariant-loop-service
invariant-loop-service l = record {
  moved : l.service-items ≡ map moved_on (take l.service-index l.fn.services) ++ drop l.service-index l.fn.services;
  blocks : l.blocks.items ≡ next_blocks (take l.service-index l.fn.services);
  room : length l.blocks.items ≤ blocks_room (take l.service-index l.fn.services);
}
