use Rattle.std.proofs.Common.{◌++◌, ap, sym}
use Rattle.std.proofs.lemmas.List.{append-nil, take_all}
use Rattle.std.specs.List.{flat_map}
use Rattle.text_output.proofs.PageLemmas.{written_more, written_same}
use Rattle.text_output.proofs.gathered.Gathered.write_all.Goals as goal

pub loop-piece-init : goal.loop-piece-init
loop-piece-init g c start faults before has = written_same start faults _ _ _ (sym (append-nil before)) has

pub loop-piece-preserved : goal.loop-piece-preserved
loop-piece-preserved g c start faults before has =
    written_more start faults (λ p. p.now) before c.args.pieces.now c.loop-piece.piece-index _ _ c.loop-piece-test.true
    (c.write.ensures start faults _ (c.loop-piece.invariant start faults before has))

pub returns : goal.returns
returns g c start faults before has =
    written_same start faults _ _ _
    (ap (λ ps. before ++ flat_map (λ p. p.now) ps) (take_all c.loop-piece.piece-index c.args.pieces.now c.loop-piece-test.false))
    (c.loop-piece.invariant start faults before has)
