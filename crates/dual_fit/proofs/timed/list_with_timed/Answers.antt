use Rattle.std.proofs.Common.{◌<◌, length, arith}
use Rattle.cue_lists.specs.Listing.{most_cues}
use Rattle.dual_fit.proofs.TimedLemmas.{added_formed, length_timed}
use Rattle.dual_fit.proofs.timed.list_with_timed.Goals as goal

pub list_with-requires-clause-formed : goal.list_with-requires-clause-formed
list_with-requires-clause-formed c =
    let copied = c.in_ok-cues.ensures in
    rw (c.in_ok-add_timed.ensures, copied) (added_formed c.args.takes c.args.times c.args.cue.now c.requires.timed c.args.earlier.now c.requires.formed)

pub list_with-requires-clause-few : goal.list_with-requires-clause-few
list_with-requires-clause-few c =
    let copied = c.in_ok-cues.ensures in
    let count = length_timed c.args.takes c.args.times c.args.cue.now c.args.earlier.now in
    let few : length c.args.earlier.now < most_cues = c.requires.few in
    rw (c.in_ok-add_timed.ensures, copied) (omega (arith, count, few))
