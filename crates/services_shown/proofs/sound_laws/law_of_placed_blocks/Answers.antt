use Rattle.services_shown.proofs.PlacedBlocksLemmas.{placed_fit}
use Rattle.services_shown.proofs.sound_laws.law_of_placed_blocks.Goals as goal

pub returns : goal.returns
returns c = placed_fit
