use Rattle.std.proofs.Common.{refl}
use Rattle.dtvcc_screen.proofs.StandsLemmas.{stands_still}
use Rattle.dtvcc_screen.proofs.cores.Core.take_changed.Goals as goal

pub returns-clause-stands : goal.returns-clause-stands
returns-clause-stands c = λ state stands. stands_still state c.args.self.now _ stands refl refl refl refl
