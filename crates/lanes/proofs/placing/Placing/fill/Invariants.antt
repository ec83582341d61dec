use Rattle.std.proofs.Common.{◌≡◌, ◌+◌, ◌-◌, ◌≤◌, ℕ, List, length, map}
use Rattle.dtvcc_author.specs.Packed.{bytes_before}
use Rattle.dtvcc_author.specs.declared.caption.Caption.{Caption}
use Rattle.lanes.specs.ServicePlacing.{FillsFrame, IsPlacing}
use Rattle.lanes.specs.Chunks.{ServiceChunk}
use Rattle.lanes.specs.declared.cue_load.CueLoad.{CueLoad}
use Rattle.lanes.proofs.FillLemmas.{filled}
use Rattle.lanes.proofs.placing.Placing.fill.Given as goal

-- the units up to the index have this many bytes, which the frame has, and may be placed in it
abbrev pub invariant-loop-index : goal.invariant-loop-index
invariant-loop-index l = record {
  from : l.self.last.units ≤ l.index;
  within : l.index ≤ l.end;
  most : l.size ≤ l.most;
  bytes : (units : List (List ℕ)) → l.lengths ≡ map length units → l.self.last.bytes ≡ bytes_before l.self.last.units units
      → l.self.last.bytes + l.size ≡ bytes_before l.index units;
  placed : (share : ℕ) (captions : List Caption) (chunks : List ServiceChunk) (units : List (List ℕ)) (cue : CueLoad) → l.lengths ≡ map length units
      → FillsFrame captions cue units chunks l.self l.end → IsPlacing share captions chunks l.self → IsPlacing share captions chunks (filled l.self l.size l.index);
}

abbrev pub decreases-loop-index : goal.decreases-loop-index
decreases-loop-index l = l.end - l.index
