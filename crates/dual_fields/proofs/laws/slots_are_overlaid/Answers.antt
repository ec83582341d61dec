use Rattle.dual_fields.proofs.OverlayLemmas.{slots_overlaid}
use Rattle.dual_fields.proofs.laws.slots_are_overlaid.Goals as goal

pub returns : goal.returns
returns c = slots_overlaid
