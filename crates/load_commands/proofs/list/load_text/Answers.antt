use Rattle.std.proofs.Common.{◌+◌, ◌*◌, arith}
use Rattle.std.proofs.lemmas.List.FromFn.{map-range_with_len_more}
use Rattle.load_commands.proofs.LetterLemmas.{letter}
use Rattle.load_commands.proofs.list.load_text.Goals as goal

pub loop-place-preserved : goal.loop-place-preserved
loop-place-preserved c =
    let more = map-range_with_len_more (λ j. letter (7 * c.args.number + 5 * j)) 0 c.loop-place.place c.loop-place.place (omega arith) in
    let so_far = c.loop-place.invariant in
    let is = c.letter.ensures in
    let pushed = c.in_ok-push.ensures.items in
    cc
