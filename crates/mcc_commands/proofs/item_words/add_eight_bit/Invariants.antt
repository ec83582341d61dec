use Rattle.std.proofs.Common.{◌≡◌, ◌++◌, take}
use Rattle.mcc_commands.specs.Words.{eight_words}
use Rattle.mcc_commands.proofs.item_words.add_eight_bit.Given as goal

abbrev pub invariant-loop-byte : goal.invariant-loop-byte
invariant-loop-byte l = l.out.items ≡ l.fn.out.items ++ eight_words (take l.byte-index l.bytes)
