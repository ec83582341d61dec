use Rattle.std.proofs.Common.{◌≡◌, ◌∙◌, get_or, set, Some, ap}
use Rattle.cue_lists.specs.Lane.{kind_lane}
use Rattle.cue_lists.specs.declared.cue.Cue.{Cue}
use Rattle.dual_fit.proofs.TimedLemmas.{none_hidden, one_hidden}
use Rattle.dual_fit.proofs.timed.hide_former.Goals as goal

pub returns-in-Some : goal.returns-in-Some
returns-in-Some c =
    let last = rw c.as_slice.ensures.value at c.in-Some.ensures in
    let is : c.index_mut.result.now ≡ get_or c.args.cues.now.items c.in-Some.index c.index_mut.result.now = c.index_mut.ensures.value in
    rw c.if-not-takes.false (ap (λ (former : Cue). set c.args.cues.now.items c.in-Some.index (record former { hide = Some c.args.frame })) is
    ∙ one_hidden (kind_lane c.args.kind) c.args.cues.now.items c.in-Some.index last c.index_mut.result.now c.args.frame)

pub returns-in_default : goal.returns-in_default
returns-in_default c =
    let off = rw c.as_slice.ensures.value at c.in_default.ensures in
    rw c.if-not-takes.false (none_hidden (kind_lane c.args.kind) c.args.cues.now.items c.args.frame off)
