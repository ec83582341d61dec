use Rattle.std.proofs.Common.{◌≡◌, subst, sym}
use Rattle.caption_streams.specs.Receivings.{reception_of}
use Rattle.caption_streams.specs.Receptions.{StandsBehind}
use Rattle.caption_streams.specs.declared.reception.Reception.{Reception}
use Rattle.ccsuite_c.specs.Grids.{GridAnswer}
use Rattle.ccsuite_c.proofs.receiver.grid.Goals as goal

pub returns-in-Some-clause-grid : goal.returns-in-Some-clause-grid
returns-in-Some-clause-grid c = λ r frames is stands.
    let same : c.reception.result.now ≡ reception_of r = cc (c.reception.ensures, c.in-Some.ensures) in
    subst (λ (it : Reception). GridAnswer it frames c.args.channel c.tell_channel.result c.args.cells.now c.tell_channel.new.cells) same
    (c.tell_channel.ensures frames (subst (λ (it : Reception). StandsBehind frames it) (sym same) stands))
