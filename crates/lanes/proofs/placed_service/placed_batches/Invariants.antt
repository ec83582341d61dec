use Rattle.std.proofs.Common.{◌≡◌, ◌≤◌, length}
use Rattle.dtvcc_author.specs.Packed.{bytes_before}
use Rattle.lanes.specs.ServicePlacing.{IsPlacing}
use Rattle.lanes.proofs.CueChunkLemmas.{AreLeft}
use Rattle.lanes.proofs.placed_service.placed_batches.Given as goal

-- the units of the cues so far are placed, and the others' units are left
abbrev pub invariant-loop-cue : goal.invariant-loop-cue
invariant-loop-cue l = record {
  within : l.placing.last.units ≤ length l.units;
  bytes : l.placing.last.bytes ≡ bytes_before l.placing.last.units l.units;
  left : AreLeft l.cues l.units l.chunks l.cue-index l.placing.last.units;
  placing : IsPlacing l.share l.captions l.chunks l.placing;
}
