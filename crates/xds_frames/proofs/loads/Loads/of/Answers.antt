use Rattle.std.proofs.Common.{refl}
use Rattle.xds_frames.proofs.LoadsLemmas.{gathered_all, stands_anew}
use Rattle.xds_frames.proofs.loads.Loads.of.Goals as goal

pub returns : goal.returns
returns c = λ ordered. stands_anew c.args.cues.now _ (gathered_all c.args.cues.now c.loop-cue.spans.items c.loop-cue.cue-index c.loop-cue.invariant c.loop-cue-test.false) ordered refl
