use Rattle.cue_fit.proofs.FormedLemmas.{with_cues_formed}
use Rattle.cue_fit.proofs.shown.list_with.Goals as goal

pub new-requires : goal.new-requires
new-requires c =
    let rate = c.rate.ensures in
    let frames = c.frames.ensures in
    let shares = c.in_ok-shares.ensures in
    rw (rate, frames, shares) (with_cues_formed c.args.list.now c.args.cues.items c.requires.list c.requires.formed c.requires.few)
