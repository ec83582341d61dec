use Rattle.std.proofs.Common.{◌<◌, length, arith}
use Rattle.cue_lists.specs.Listing.{most_cues}
use Rattle.cue_fit.proofs.FittedLemmas.{length_added}
use Rattle.cue_fit.proofs.FormedLemmas.{added_formed}
use Rattle.cue_fit.proofs.shown.list_with_shown.Goals as goal

pub list_with-requires-clause-formed : goal.list_with-requires-clause-formed
list_with-requires-clause-formed c =
    let copied = c.in_ok-cues.ensures in
    rw (c.in_ok-add_shown.ensures, copied) (added_formed c.args.show c.args.cue.now c.args.earlier.now c.ranges.show.fits c.requires.cue c.requires.formed)

pub list_with-requires-clause-few : goal.list_with-requires-clause-few
list_with-requires-clause-few c =
    let copied = c.in_ok-cues.ensures in
    let count = length_added c.args.show c.args.cue.now c.args.earlier.now in
    let few : length c.args.earlier.now < most_cues = c.requires.few in
    rw (c.in_ok-add_shown.ensures, copied) (omega (arith, count, few))
