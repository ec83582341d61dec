use Rattle.std.proofs.Common.{subst}
use Rattle.caption_streams.specs.Receptions.{HasFed}
use Rattle.caption_streams.specs.declared.reception.Reception.{Reception}
use Rattle.caption_streams.proofs.reception.Reception.finish.Goals as goal

pub returns-in-Plain-clause-file : goal.returns-in-Plain-clause-file
returns-in-Plain-clause-file c = λ bytes frames fed file.
    c.finish.ensures.file bytes frames (subst (λ (r : Reception). HasFed bytes r) c.in-Plain.is fed) file

pub returns-in-Concealing-clause-file : goal.returns-in-Concealing-clause-file
returns-in-Concealing-clause-file c = λ bytes frames fed file.
    c.finish-in-Concealing.ensures.file bytes frames (subst (λ (r : Reception). HasFed bytes r) c.in-Concealing.is fed) file
