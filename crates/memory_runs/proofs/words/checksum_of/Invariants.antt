use Rattle.std.proofs.Common.{◌≡◌, ◌%◌, sum, take}
use Rattle.memory_runs.proofs.words.checksum_of.Given as goal

-- the sum of those before
abbrev pub invariant-loop-word : goal.invariant-loop-word
invariant-loop-word l = l.total ≡ sum (take l.word-index l.words) % 512
