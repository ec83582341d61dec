use Rattle.std.proofs.Common.{take}
use Rattle.std.specs.List.{flat_map}
use Rattle.text_output.specs.Pages.{Writes, page}
use Rattle.text_output.proofs.gathered.Gathered.write_all.Given as goal

-- the pieces so far are written
abbrev pub invariant-loop-piece : goal.invariant-loop-piece
invariant-loop-piece g l =
    Writes (page l.initial.self (g.O.Sink.written l.initial.out) (g.O.Sink.faults l.initial.out)) (page l.self (g.O.Sink.written l.out) (g.O.Sink.faults l.out))
    (flat_map (λ p. p.now) (take l.piece-index l.pieces))
