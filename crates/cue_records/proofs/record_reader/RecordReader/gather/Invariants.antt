-- The bytes so far are held.
use Rattle.std.proofs.Common.{ℕ, List, ◌++◌, take}
use Rattle.cue_records.specs.RecordsCut.{IsOpen}
use Rattle.cue_records.proofs.record_reader.RecordReader.gather.Given as goal

abbrev pub invariant-loop-i : goal.invariant-loop-i
invariant-loop-i l = (begun : List ℕ) → IsOpen begun l.initial.self → IsOpen (begun ++ take l.i l.bytes) l.self
