use Rattle.std.proofs.Common.{◌≡◌, map, take}
use Rattle.anc_words.specs.Writing.{eight_bit_word}
use Rattle.memory_runs.proofs.words.words_of.Given as goal

-- the words of the bytes so far
abbrev pub invariant-loop-byte : goal.invariant-loop-byte
invariant-loop-byte l = l.words.items ≡ map eight_bit_word (take l.byte-index l.bytes)
