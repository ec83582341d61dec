use Rattle.std.proofs.Common.{arith}
use Rattle.std.proofs.lemmas.List.FromFn.{map-range_with_len_more}
use Rattle.load_commands.specs.LoadList.{load_cue}
use Rattle.load_commands.proofs.list.load_cues.Goals as goal

pub loop-number-preserved : goal.loop-number-preserved
loop-number-preserved c =
    let more = map-range_with_len_more load_cue 0 c.loop-number.number c.loop-number.number (omega arith) in
    let so_far = c.loop-number.invariant in
    let is = c.in_ok-load_cue.ensures in
    let pushed = c.in_ok-push.ensures.items in
    cc
