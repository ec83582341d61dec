use Rattle.std.proofs.Common.{ℕ, List, subst}
use Rattle.cue_list_commands.specs.Reads.{IsProgrammeOf}
use Rattle.caption_streams.proofs.building.Building.read.Goals as goal

pub returns-clause-begins : goal.returns-clause-begins
returns-clause-begins c =
    c.new-2.ensures c.args.list.now (subst (λ (bytes : List ℕ). IsProgrammeOf bytes c.in_ok-programme.programme) c.new.ensures c.in_ok-programme.ensures.2)
