-- Between crates: the program's answer stands on none of these definitions.
-- A cue list with further cues, and what its frames keep of the shorter list's: no frame knows a cue that is loaded later.
use Rattle.std.specs.Prelude.{◌≡◌, ℕ, ◌<◌, ◌≤◌, List, ◌++◌}
use Rattle.cue_lists.specs.Listing.{IsFormed, Listing}
use Rattle.cue_lists.specs.Rules.{IsRuled}
use Rattle.cue_lists.specs.declared.cue.Cue.{Cue}
use Rattle.frame_carrier.specs.Planned.{IsListPlaced, Placement, columns_of}
use Rattle.frame_carrier.specs.Carrying.{column_bytes}
use Rattle.live_frames.specs.LaneFronts.{AreLoadedFrom}

-- the list of this many frames that has the cues of another, and after them these
abbrev pub longer : Listing → ℕ → List Cue → Listing
longer list frames more = record list { frames = frames; cues = list.cues ++ more }

-- the words of the first frames of a placed list, as many as asked
abbrev pub first_words : Listing → Placement → ℕ → List ℕ
first_words list placed k = column_bytes list.rate (columns_of list placed) 0 k

-- what a law of fronts asks of a list and of a longer one: the longer one keeps the rules, its further cues are loaded from the
-- frame on, and both are placed
pub record IsPlacedLonger (list : Listing) (frames : ℕ) (more : List Cue) (placed moved : Placement) (from : ℕ) : Type 0 where
  pub formed : IsFormed (longer list frames more)
  pub ruled : IsRuled (longer list frames more)
  pub loaded : AreLoadedFrom from more
  pub placement : IsListPlaced list placed
  pub longer_placement : IsListPlaced (longer list frames more) moved

-- each frame below that one carries the same
abbrev pub FrameFrontIsKept : Type 0
FrameFrontIsKept = (list : Listing) (frames : ℕ) (more : List Cue) (placed moved : Placement) (from : ℕ)
    → IsPlacedLonger list frames more placed moved from
    → (frame : ℕ) → frame < from → columns_of list placed frame ≡ columns_of (longer list frames more) moved frame

-- so the words of the frames below it are the same
abbrev pub WordFrontIsKept : Type 0
WordFrontIsKept = (list : Listing) (frames : ℕ) (more : List Cue) (placed moved : Placement) (from : ℕ)
    → IsPlacedLonger list frames more placed moved from
    → (k : ℕ) → k ≤ from → first_words list placed k ≡ first_words (longer list frames more) moved k

-- both begin with this
pub record BothBegin (front one two : List ℕ) : Type 0 where
  pub rest_of_one : List ℕ
  pub rest_of_two : List ℕ
  pub one_is : one ≡ front ++ rest_of_one
  pub two_is : two ≡ front ++ rest_of_two

-- and the words of both lists begin with them, as far as both have frames
abbrev pub WordsShareFront : Type 0
WordsShareFront = (list : Listing) (frames : ℕ) (more : List Cue) (placed moved : Placement) (from : ℕ)
    → IsPlacedLonger list frames more placed moved from
    → (k : ℕ) → k ≤ from → k ≤ list.frames → k ≤ frames
    → BothBegin (first_words list placed k) (first_words list placed list.frames) (first_words (longer list frames more) moved frames)
