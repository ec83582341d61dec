use Rattle.std.proofs.Common.{refl, sym}
use Rattle.scc_commands.proofs.finding.find.Goals as goal

pub returns-in-F2997 : goal.returns-in-F2997
returns-in-F2997 c bytes earlier last had are =
    c.find_pairs.ensures bytes earlier last had are (sym (c.in-F2997.ensures bytes earlier last had are))

pub returns-in_default : goal.returns-in_default
returns-in_default c bytes earlier last had are =
    let seen = c.rate.ensures bytes earlier last had are in (refl, seen, λ is. c.in_default.not-F2997 (rw seen is))
