use Rattle.command_base.proofs.WholeInputLemmas.{read_to_end}
use Rattle.command_base.proofs.whole_input.read_input.Goals as goal

pub returns-in-Ok-clause-bytes : goal.returns-in-Ok-clause-bytes
returns-in-Ok-clause-bytes g c = (
  c.read_whole.ensures.steady (λ same. cc),
  read_to_end _ _ c.in-Ok.bytes.items c.in-Ok.ensures.whole.bytes c.in-Ok.ensures.whole.taken,
  c.in-Ok.ensures.whole.bytes,
)
