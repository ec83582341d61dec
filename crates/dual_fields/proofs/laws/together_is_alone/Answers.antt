use Rattle.dual_fields.proofs.TogetherLemmas.{together_alone}
use Rattle.dual_fields.proofs.laws.together_is_alone.Goals as goal

pub returns : goal.returns
returns c = together_alone
