-- Between crates: the program's answer stands on none of these definitions.
-- Why a cue is left out of a list whose frames go out already.
use Rattle.std.specs.Prelude.{◌≡◌, ℕ, ◌<◌, ◌≤◌, List, [], ◌∷◌, ◌++◌, ⊤, length, Result, Ok, Err}
use Rattle.cue_lists.specs.Listing.{Listing, most_cues}
use Rattle.cue_lists.specs.Rules.{HasFault, IsRuled}
use Rattle.cue_lists.specs.declared.cue.Cue.{Cue}
use Rattle.frame_carrier.specs.Frames.{PlanAnswer}
use Rattle.frame_carrier.specs.Planned.{IsFirstWithoutRoom}
use Rattle.frame_carrier.specs.Plan.{Plan}
use Rattle.live_frames.specs.declared.live_fault.LiveFault.{LiveFault}
use Rattle.live_frames.specs.declared.live_fault.LiveFault.TheVariants as fault

-- the list with one more cue
abbrev pub list_with : Listing → Cue → Listing
list_with list cue = record list { cues = list.cues ++ cue ∷ [] }

-- the list with the cue keeps the rules, and the cue is loaded in the frame or later
pub record MayComeAt (frame : ℕ) (list : Listing) (cue : Cue) : Type 0 where
  pub ruled : IsRuled (list_with list cue)
  pub loaded : frame ≤ cue.load

-- the cue is late
pub record IsLate (frame next : ℕ) (list : Listing) (cue : Cue) : Type 0 where
  pub ruled : IsRuled (list_with list cue)
  pub late : cue.load < next
  pub next_is : next ≡ frame

-- the cue has no room, or takes an earlier one's
pub record HasNoRoom (frame number : ℕ) (list : Listing) (cue : Cue) : Type 0 where
  pub comes : MayComeAt frame list cue
  pub first : IsFirstWithoutRoom (list_with list cue) number

-- the cue is left out of the list for this reason, if this frame is next
abbrev pub IsLeftOut : ℕ → Listing → Cue → LiveFault → Type 0
IsLeftOut frame list cue fault.Cues = most_cues ≤ length list.cues
IsLeftOut frame list cue (fault.Rule rule) = HasFault (list_with list cue) rule
IsLeftOut frame list cue (fault.Late next) = IsLate frame next list cue
IsLeftOut frame list cue (fault.NoRoom number) = HasNoRoom frame number list cue
IsLeftOut frame list cue (fault.Memory error) = ⊤

-- a list whose last cue is loaded in a frame is judged, if another one is next: it has a plan, or the cue is left out
pub record IsJudged (list : Listing) (load frame : ℕ) (plan : Plan) : Type 0 where
  pub ruled : IsRuled list
  pub loaded : frame ≤ load
  pub answer : PlanAnswer list (Ok plan)

abbrev pub Judges : Listing → ℕ → ℕ → Result Plan LiveFault → Type 0
Judges list load frame (Ok plan) = IsJudged list load frame plan
Judges list load frame (Err fault.Cues) = ⊥
Judges list load frame (Err (fault.Rule rule)) = HasFault list rule
Judges list load frame (Err (fault.Late next)) = IsRuled list × (load < frame) × (next ≡ frame)
Judges list load frame (Err (fault.NoRoom number)) = IsRuled list × (frame ≤ load) × IsFirstWithoutRoom list number
Judges list load frame (Err (fault.Memory error)) = ⊤
