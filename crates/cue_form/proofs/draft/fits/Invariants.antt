use Rattle.std.proofs.Common.{◌≡◌, ◌+◌, take}
use Rattle.cue_types.specs.Shares.{shares_taken}
use Rattle.cue_form.proofs.draft.fits.Given as goal

-- what is left, what the shares so far take, and the share's own bytes are the room
abbrev pub invariant-loop-share : goal.invariant-loop-share
invariant-loop-share l = l.left + shares_taken (take l.share-index l.shares) + l.own ≡ l.room
