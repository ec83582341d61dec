use Rattle.std.proofs.Common.{◌∙◌, ap, subst, sym}
use Rattle.caption_streams.specs.Receptions.{StandsBehind, grids_behind}
use Rattle.caption_streams.specs.declared.reception.Reception.{Reception}
use Rattle.caption_streams.proofs.reception.Reception.cell.Goals as goal

pub returns-in-Plain : goal.returns-in-Plain
returns-in-Plain c = λ frames stands.
    let behind = subst (λ (r : Reception). StandsBehind frames r) c.in-Plain.is stands in
    c.cell.ensures.received behind.bytes frames behind.received behind.frames_are
    ∙ ap (λ (r : Reception). grids_behind r frames c.args.chan c.args.row c.args.col) (sym c.in-Plain.is)
