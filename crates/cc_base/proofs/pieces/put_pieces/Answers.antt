use Rattle.std.proofs.Common.{◌∙◌}
use Rattle.cc_base.proofs.Puts.{pieces_from, puts_front, puts_more}
use Rattle.cc_base.proofs.pieces.put_pieces.Goals as goal

pub returns-in-Failed-clause-bytes : goal.returns-in-Failed-clause-bytes
returns-in-Failed-clause-bytes g c =
    let (same, done, was, is) = c.loop-piece.invariant in
    let next = pieces_from (λ p. p.now) c.args.pieces.now c.loop-piece.piece-index _ c.loop-piece-test.true in
    puts_front _ _ _ _ done _ _ _ was c.put.ensures.bytes c.in-Failed.is (rw next at is)

pub loop-piece-preserved : goal.loop-piece-preserved
loop-piece-preserved g c =
    let (same, done, was, is) = c.loop-piece.invariant in
    let next = pieces_from (λ p. p.now) c.args.pieces.now c.loop-piece.piece-index _ c.loop-piece-test.true in
    let more = puts_more _ _ _ _ done _ _ _ was c.put.ensures.bytes c.in-Done.is (rw next at is) in
    (c.in-Done.ensures.cause ∙ same, _, more.0, more.1)
