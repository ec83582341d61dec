use Rattle.dtvcc_author.proofs.WritableLemmas.{commands_writable}
use Rattle.windows_shown.proofs.loading_laws.commands_are_writable.Goals as goal

pub returns : goal.returns
returns c = commands_writable
