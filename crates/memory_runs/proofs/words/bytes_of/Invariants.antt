use Rattle.std.proofs.Common.{◌≡◌, take}
use Rattle.std.specs.List.{flat_map}
use Rattle.anc_words.specs.Writing.{word_bytes}
use Rattle.memory_runs.proofs.words.bytes_of.Given as goal

-- the bytes of the words so far
abbrev pub invariant-loop-word : goal.invariant-loop-word
invariant-loop-word l = l.bytes.items ≡ flat_map word_bytes (take l.word-index l.words)
