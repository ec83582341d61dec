use Rattle.std.proofs.Common.{◌≡◌, ◌++◌, ℕ, List, drop}
use Rattle.std.specs.List.{flat_map}
use Rattle.std.specs.Io.KnownBytes.{Appends}
use Rattle.cc_base.proofs.pieces.put_pieces.Given as goal

-- what was put, and what is to come
abbrev pub invariant-loop-piece : goal.invariant-loop-piece
invariant-loop-piece g l = (g.O.Sink.faults l.out ≡ g.O.Sink.faults l.initial.out)
    × (done : List ℕ) × Appends (g.O.Sink.written l.initial.out) (g.O.Sink.written l.out) done
    × (done ++ flat_map (λ p. p.now) (drop l.piece-index l.pieces) ≡ flat_map (λ p. p.now) l.pieces)
