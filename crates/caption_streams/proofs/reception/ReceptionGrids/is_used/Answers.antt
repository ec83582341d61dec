use Rattle.std.proofs.Common.{subst}
use Rattle.caption_streams.specs.Receptions.{ShowsNow}
use Rattle.caption_streams.specs.declared.reception.Reception.{Reception}
use Rattle.caption_streams.proofs.reception.ReceptionGrids.is_used.Goals as goal

pub returns-in-Plain : goal.returns-in-Plain
returns-in-Plain c = λ seen shows. c.is_used.ensures seen (subst (λ (r : Reception). ShowsNow r seen) c.in-Plain.is shows)

pub returns-in-Concealing : goal.returns-in-Concealing
returns-in-Concealing c = λ seen shows. c.is_used-in-Concealing.ensures seen (subst (λ (r : Reception). ShowsNow r seen) c.in-Concealing.is shows)
