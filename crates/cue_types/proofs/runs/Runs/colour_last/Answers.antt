use Rattle.std.proofs.Common.{◌≡◌, ◌<◌, length, rules, arith, ap, ◌∙◌}
use Rattle.cue_types.specs.Coloured.{coloured}
use Rattle.cue_types.proofs.ColouredLemmas.{set_at_last}
use Rattle.cue_types.proofs.runs.Runs.colour_last.Goals as goal

pub returns-then-count-gt0 : goal.returns-then-count-gt0
returns-then-count-gt0 c =
    let all : c.len-count.result ≡ length c.self.inside.items.items = search rules in
    let some : 0 < c.len-count.result = omega arith in
    set_at_last c.args.colours c.self.inside.items.items c.len-count.result c.index_mut.result.now all some c.index_mut.ensures.value ∙ ap (coloured c.args.colours) c.self.view_is
