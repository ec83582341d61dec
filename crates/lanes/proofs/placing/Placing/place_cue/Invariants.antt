use Rattle.std.proofs.Common.{◌≡◌, ◌+◌, ◌-◌, ◌≤◌, List}
use Rattle.dtvcc_author.specs.Packed.{bytes_before}
use Rattle.lanes.specs.ServicePlacing.{AreOfCue, IsPlacing}
use Rattle.lanes.specs.Chunks.{ServiceChunk}
use Rattle.lanes.proofs.placing.Placing.place_cue.Given as goal

-- some units of the cue are placed
abbrev pub invariant-loop-self : goal.invariant-loop-self
invariant-loop-self l = record {
  from : l.fn.self.last.units ≤ l.self.last.units;
  within : l.self.last.units ≤ l.fn.self.last.units + l.cue.count;
  bytes : l.self.last.bytes ≡ bytes_before l.self.last.units l.units;
  placed : (chunks : List ServiceChunk) → AreOfCue l.cue l.units chunks l.fn.self.last.units → IsPlacing l.share l.captions chunks l.fn.self
      → IsPlacing l.share l.captions chunks l.self;
}

abbrev pub decreases-loop-self : goal.decreases-loop-self
decreases-loop-self l = l.end - l.self.last.units
