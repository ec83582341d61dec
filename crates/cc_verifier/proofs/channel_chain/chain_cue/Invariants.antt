use Rattle.std.proofs.Common.{◌≡◌, ◌<◌, length}
use Rattle.std.specs.Prelude.{Some, slice_get}
use Rattle.cue_types.specs.declared.cue.Cue.{Cue}
use Rattle.cue_lists.specs.AuthoredGrid.{chain_of}
use Rattle.cc_verifier.specs.ChannelNewest.{newest}
use Rattle.cc_verifier.proofs.channel_chain.chain_cue.Given as goal

abbrev pub invariant-loop-left : goal.invariant-loop-left
invariant-loop-left l = record {
  within : l.at < length l.cues;
  same : (cue now : Cue) → slice_get l.cues l.fn.number ≡ Some cue → slice_get l.cues l.at ≡ Some now
      → slice_get (chain_of cue (newest l.channel l.cues l.fn.number)) l.fn.places ≡ slice_get (chain_of now (newest l.channel l.cues l.at)) l.left;
}

abbrev pub decreases-loop-left : goal.decreases-loop-left
decreases-loop-left l = l.left
