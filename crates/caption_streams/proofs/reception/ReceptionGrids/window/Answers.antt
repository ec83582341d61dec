use Rattle.std.proofs.Common.{subst}
use Rattle.caption_streams.specs.Receptions.{ShowsNow}
use Rattle.caption_streams.specs.declared.reception.Reception.{Reception}
use Rattle.caption_streams.proofs.reception.ReceptionGrids.window.Goals as goal

pub returns-in-Plain-clause-seen : goal.returns-in-Plain-clause-seen
returns-in-Plain-clause-seen c = λ seen shows. c.window.ensures.seen seen (subst (λ (r : Reception). ShowsNow r seen) c.in-Plain.is shows)

pub returns-in-Concealing-clause-seen : goal.returns-in-Concealing-clause-seen
returns-in-Concealing-clause-seen c = λ seen shows. c.window-in-Concealing.ensures.seen seen (subst (λ (r : Reception). ShowsNow r seen) c.in-Concealing.is shows)
