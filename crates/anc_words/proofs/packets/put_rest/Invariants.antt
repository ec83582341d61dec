use Rattle.std.proofs.Common.{take}
use Rattle.anc_words.proofs.PutWords.{ArePut}
use Rattle.anc_words.proofs.packets.put_rest.Given as goal

-- the words of the bytes so far were put
abbrev pub invariant-loop-byte : goal.invariant-loop-byte
invariant-loop-byte l = ArePut l.fn.out.items l.out.items (take l.byte-index l.bytes) l.sum
