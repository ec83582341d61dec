use Rattle.std.proofs.Common.{take}
use Rattle.anc_words.proofs.LaneLemmas.{HaveSum, words_in}
use Rattle.anc_words.proofs.caption_words.sum_of_eights.Given as goal

-- the eights so far
abbrev pub invariant-loop-eight : goal.invariant-loop-eight
invariant-loop-eight l = HaveSum (words_in (take l.eight-index l.eights)) l.sums
