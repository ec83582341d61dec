use Rattle.std.proofs.Common.{sym, subst}
use Rattle.anc_words.specs.Checksums.{IsChecksum}
use Rattle.anc_words.proofs.ChecksumLemmas.{checksum_word-is, IsChecksum-word}
use Rattle.anc_words.proofs.OffendsLemmas.{offends-refused, refused-offends}
use Rattle.anc_words.proofs.laws.words_are_judged_by_the_standard.Goals as goal

pub returns-clause-checksum : goal.returns-clause-checksum
returns-clause-checksum c = λ words word. (
  λ same. subst (IsChecksum words) (sym same) (checksum_word-is words),
  IsChecksum-word words word,
)

pub returns-clause-refused : goal.returns-clause-refused
returns-clause-refused c = λ words word reason. (refused-offends words word reason, offends-refused words word reason)
