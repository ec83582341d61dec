use Rattle.std.proofs.Common.{◌≡◌, ◌+◌}
use Rattle.mcc_commands.specs.Importing.{LineOffends}
use Rattle.mcc_commands.proofs.ImportLineLemmas.{ReadsOn}
use Rattle.mcc_commands.proofs.importing.offence_in.Given as goal

abbrev pub invariant-loop-byte : goal.invariant-loop-byte
invariant-loop-byte l = record {
  placed : l.place ≡ l.fn.place + l.byte-index;
  reads : (had : LineOffends l.fn.reader l.fn.line l.fn.place l.fn.heard l.fn.word) → ReadsOn l.fn.reader l.fn.line l.fn.place l.fn.heard l.fn.word had l.byte-index l.ahead l.heard;
}
