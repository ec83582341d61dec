use Rattle.std.proofs.Common.{refl}
use Rattle.text_output.proofs.PageLemmas.{piece_written}
use Rattle.text_output.proofs.gathered.Gathered.write.Goals as goal

pub returns-in-Done : goal.returns-in-Done
returns-in-Done g c start faults before has =
    piece_written start faults before c.args.piece.now _ _ c.put_piece-answer.result c.in-Done.is c.put_piece-answer.ensures.bytes c.put_piece-answer.ensures.cause refl has
