use Rattle.std.proofs.Common.{◌≡◌, ◌++◌, drop}
use Rattle.dtvcc_author.specs.Captions.{service_captions}
use Rattle.dtvcc_author.proofs.caption.captions.Given as goal

-- the captions so far, and the captions of the cues that are left
abbrev pub invariant-loop-cue : goal.invariant-loop-cue
invariant-loop-cue l = l.captions.items ++ service_captions l.rate l.service (drop l.cue-index l.cues) ≡ service_captions l.rate l.service l.cues
