use Rattle.std.proofs.Common.{◌≡◌, subst, sym}
use Rattle.caption_streams.specs.Receivings.{reception_of}
use Rattle.caption_streams.specs.Receptions.{StandsBehind}
use Rattle.caption_streams.specs.declared.reception.Reception.{Reception}
use Rattle.ccsuite_c.specs.Receivers.{CellAnswer}
use Rattle.ccsuite_c.proofs.receiver.cell.Goals as goal

pub returns-in-Some-clause-cell : goal.returns-in-Some-clause-cell
returns-in-Some-clause-cell c = λ r frames is stands.
    let same : c.reception.result.now ≡ reception_of r = cc (c.reception.ensures, c.in-Some.ensures) in
    subst (λ (it : Reception). CellAnswer it frames c.args.channel c.args.row c.args.column c.tell_cell.result c.args.seen.now c.tell_cell.new.seen) same
    (c.tell_cell.ensures frames (subst (λ (it : Reception). StandsBehind frames it) (sym same) stands))
