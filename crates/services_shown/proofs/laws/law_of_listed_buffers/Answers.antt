use Rattle.services_shown.proofs.BufferLemmas.{buffers_never_fill}
use Rattle.services_shown.proofs.laws.law_of_listed_buffers.Goals as goal

pub returns : goal.returns
returns c = buffers_never_fill
