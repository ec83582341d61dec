use Rattle.fit_commands.proofs.VerdictLemmas.{refused_once}
use Rattle.fit_commands.proofs.laws.fit_refusal_is_one.Goals as goal

pub returns : goal.returns
returns c = refused_once
