use Rattle.anc_words.proofs.PutWords.{EightsArePut}
use Rattle.anc_words.proofs.packets.put_eights.Given as goal

-- the words of the eights so far were put
abbrev pub invariant-loop-eight : goal.invariant-loop-eight
invariant-loop-eight l = EightsArePut l.fn.out.items l.out.items l.eights l.eight-index l.sums
