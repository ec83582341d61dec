use Rattle.windows_shown.proofs.FrameLemmas.{buffer_keeps}
use Rattle.windows_shown.proofs.service_laws.law_of_the_buffer.Goals as goal

pub returns : goal.returns
returns c = λ lane sound frame. buffer_keeps lane sound frame
