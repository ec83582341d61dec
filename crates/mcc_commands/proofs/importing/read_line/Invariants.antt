use Rattle.std.proofs.Common.{◌≡◌, ◌++◌, List, ℕ, take}
use Rattle.mcc_files.specs.MccFiles.{TimedPackets}
use Rattle.mcc_files.specs.Readers.{HasRead}
use Rattle.mcc_commands.specs.Importing.{HasLines}
use Rattle.mcc_commands.proofs.importing.read_line.Given as goal

abbrev pub invariant-loop-byte : goal.invariant-loop-byte
invariant-loop-byte l = record {
  counted : l.count ≡ l.byte-index;
  read : (before : List ℕ) (placed : TimedPackets) → HasRead before placed l.fn.reader → HasLines before placed
      → HasRead (before ++ take l.byte-index l.bytes) placed l.reader × HasLines (before ++ take l.byte-index l.bytes) placed;
}
