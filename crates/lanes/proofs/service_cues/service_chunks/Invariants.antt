use Rattle.std.proofs.Common.{◌≡◌, ◌+◌, ◌++◌, drop}
use Rattle.lanes.specs.CueChunks.{AreCounted, chunks_of}
use Rattle.lanes.specs.ServiceChunks.{service_chunks, service_chunks_from}
use Rattle.lanes.proofs.service_cues.service_chunks.Given as goal

-- the units of the cues so far, and of the cues to come
abbrev pub invariant-loop-index : goal.invariant-loop-index
invariant-loop-index l = record {
  counted : AreCounted l.loads.items l.units;
  chunks : chunks_of l.loads.items l.units ++ service_chunks_from l.rate l.service (l.index + 1) (drop l.index l.cues) ≡ service_chunks l.rate l.service l.cues;
}
