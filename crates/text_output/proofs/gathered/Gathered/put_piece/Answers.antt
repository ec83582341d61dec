use Rattle.text_output.proofs.PageLemmas.{piece_put}
use Rattle.text_output.proofs.gathered.Gathered.put_piece.Goals as goal

pub returns-in-Done-clause-bytes : goal.returns-in-Done-clause-bytes
returns-in-Done-clause-bytes g c = piece_put _ _ _ c.put.result _ _ c.args.piece.now c.in-Done.ensures.bytes c.put.ensures.bytes
