use Rattle.std.proofs.Common.{refl}
use Rattle.mcc_commands.proofs.HearLemmas.{nothing_imported}
use Rattle.mcc_commands.proofs.importing.Importing.new.Goals as goal

pub returns : goal.returns
returns c = nothing_imported _ c.new.ensures c.in_ok-new.ensures c.new-3.ensures refl
