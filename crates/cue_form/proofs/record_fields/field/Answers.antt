use Rattle.std.proofs.Common.{refl}
use Rattle.cue_form.proofs.FieldFacts.{field_from_get}
use Rattle.cue_form.proofs.record_fields.field.Goals as goal

pub returns : goal.returns
returns c = rw c.unwrap_or.ensures (field_from_get _ _ _ _ c.get.ensures.value refl)
