use Rattle.anc_words.proofs.CaptionLemmas.{ahead-one_way, ahead-size}
use Rattle.anc_words.proofs.laws.captions_ahead_are_found_one_way.Goals as goal

pub returns-clause-one : goal.returns-clause-one
returns-clause-one c = ahead-one_way

pub returns-clause-size : goal.returns-clause-size
returns-clause-size c = ahead-size
