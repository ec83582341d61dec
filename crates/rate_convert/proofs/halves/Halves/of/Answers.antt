use Rattle.std.proofs.Common.{All, subst, sym}
use Rattle.rate_convert.proofs.HalvesLemmas.{IsKind, first_kinds, second_kinds}
use Rattle.rate_convert.proofs.halves.Halves.of.Goals as goal

pub returns-clause-halves : goal.returns-clause-halves
returns-clause-halves c = λ triplets are. (c.first_half.ensures triplets are, c.second_half.ensures triplets are)

pub returns-clause-kinds : goal.returns-clause-kinds
returns-clause-kinds c =
    let own = c.requires.sorted in (
      subst (All IsKind) (sym (c.first_half.ensures own.triplets own.are)) (first_kinds own.triplets),
      subst (All IsKind) (sym (c.second_half.ensures own.triplets own.are)) (second_kinds own.triplets),
    )
