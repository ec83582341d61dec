-- Between crates: the program's answer stands on none of these definitions.
-- A live builder: the list that it has, and the words that it gave; and what taking one cue more answers.
use Rattle.std.specs.Prelude.{◌≡◌, ℕ, ◌+◌, Bool, true, false, List, [], ◌++◌, Result, Ok, Err}
use Rattle.cue_lists.specs.Listing.{Listing}
use Rattle.cue_lists.specs.Rules.{IsRuled}
use Rattle.cue_lists.specs.declared.cue.Cue.{Cue}
use Rattle.frame_carrier.specs.Frames.{GivesFrom, frames_left}
use Rattle.frame_carrier.specs.Planned.{IsListPlaced, Placement, columns_of}
use Rattle.frame_carrier.specs.Plan.{Plan}
use Rattle.frame_carrier.specs.Carrying.{IsAt, packets_before}
use Rattle.frame_carrier.specs.declared.carrier.Carrier.{Carrier}
use Rattle.live_frames.specs.Longer.{first_words}
use Rattle.live_frames.specs.LeftOut.{IsLeftOut, MayComeAt, list_with}
use Rattle.live_frames.specs.declared.live_fault.LiveFault.{LiveFault}
use Rattle.live_frames.specs.declared.live.Live.{Live}

-- a builder's own list is this one, which keeps the rules and is placed. Its plan and its carrier continue with the frame of this
-- number, and the words that were given are all earlier frames'
pub record IsUnderWay (words : List ℕ) (list own : Listing) (plan : Plan) (carrier : Carrier) (frame : ℕ) : Type 0 where
  pub list_is : own ≡ list
  pub ruled : IsRuled list
  pub placed : Placement
  pub placement : IsListPlaced list placed
  pub gives : GivesFrom (columns_of list placed) frame plan
  pub left : frame + frames_left plan ≡ list.frames
  pub at : IsAt list.rate frame (packets_before (columns_of list placed) frame) carrier
  pub words_are : words ≡ first_words list placed frame

-- a builder has this list, and the words that it gave are the words of the list's first frames
abbrev pub IsLive : List ℕ → Listing → Live → Type 0
IsLive words list live = IsUnderWay words list live.list live.plan live.carrier live.frame

-- the cue is taken, which may come at this frame, and the words that were given are the longer list's; or it is left out for a reason
abbrev pub Adds : List ℕ → ℕ → Listing → Cue → Result (Unit {0}) LiveFault → Live → Type 0
Adds words frame list cue (Ok _) new = MayComeAt frame list cue × IsLive words (list_with list cue) new
Adds words frame list cue (Err why) new = IsLeftOut frame list cue why

-- the words of the next frame are given, or all frames' were
abbrev pub GivesFrame : List ℕ → Listing → Bool → List ℕ → Live → Type 0
GivesFrame given list true words new = IsLive (given ++ words) list new
GivesFrame given list false words new = IsLive given list new × (words ≡ []) × (new.frame ≡ list.frames)
