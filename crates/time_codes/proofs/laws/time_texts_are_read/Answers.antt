use Rattle.time_codes.proofs.TextLemmas.{read_is_spelled, spelled_is_read}
use Rattle.time_codes.proofs.laws.time_texts_are_read.Goals as goal

pub returns : goal.returns
returns c t bytes = (read_is_spelled t bytes, spelled_is_read t bytes)
