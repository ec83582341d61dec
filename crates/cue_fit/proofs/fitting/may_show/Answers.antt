use Rattle.std.proofs.Common.{◌<◌, length, arith}
use Rattle.cue_lists.specs.Listing.{most_cues}
use Rattle.cue_fit.proofs.ShortLemmas.{near_all, near_less, tells_all}
use Rattle.cue_fit.proofs.fitting.may_show.Goals as goal

pub list_with_shown-requires-clause-formed : goal.list_with_shown-requires-clause-formed
list_with_shown-requires-clause-formed c = near_all c.args.cue.now c.args.earlier.now c.near_cues.result.now c.near_cues.ensures c.requires.cues_formed

pub list_with_shown-requires-clause-few : goal.list_with_shown-requires-clause-few
list_with_shown-requires-clause-few c =
    let less = near_less c.args.cue.now c.args.earlier.now c.near_cues.result.now c.near_cues.ensures in
    let few : length c.args.earlier.now < most_cues = c.requires.few in
    omega (arith, less, few)

pub returns-in-Ok : goal.returns-in-Ok
returns-in-Ok c =
    tells_all c.args.list.now c.args.earlier.now c.near_cues.result.now c.args.cue.now c.args.show c.has_plan.result c.requires c.ranges.show.fits c.near_cues.ensures
    (rw c.in-Ok.ensures at c.has_plan.ensures)
