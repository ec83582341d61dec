use Rattle.std.proofs.Common.{refl}
use Rattle.cue_lists.proofs.FormersLemmas.{remembers_none}
use Rattle.cue_lists.proofs.rules.formers.Formers.new.Goals as goal

pub returns : goal.returns
returns c = remembers_none _ refl refl refl refl refl refl
