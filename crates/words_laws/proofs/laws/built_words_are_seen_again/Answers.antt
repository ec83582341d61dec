use Rattle.words_laws.proofs.SeenAgainLemmas.{all_built, built_seen_again, delivered_unrefused}
use Rattle.words_laws.proofs.laws.built_words_are_seen_again.Goals as goal

pub returns-clause-whole : goal.returns-clause-whole
returns-clause-whole c = all_built

pub returns-clause-unrefused : goal.returns-clause-unrefused
returns-clause-unrefused c = delivered_unrefused

pub returns-clause-seen : goal.returns-clause-seen
returns-clause-seen c = built_seen_again
