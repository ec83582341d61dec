-- Believed: the program's answer stands on these definitions.
-- A fitted list: each cue in turn is shown as few frames later than it asks as the rules and the room after the cues so far let it.
use Rattle.std.specs.Prelude.{◌≡◌, ℕ, ◌+◌, ◌<◌, ◌≤◌, List, [], ◌∷◌, ◌++◌, length, reverse}
use Rattle.cue_lists.specs.Listing.{Listing}
use Rattle.cue_lists.specs.Printing.{in_order}
use Rattle.cue_lists.specs.Rules.{IsRuled}
use Rattle.cue_lists.specs.declared.cue.Cue.{Cue}
use Rattle.frame_scheduler.specs.Planned.{IsListPlaced, Placement}
use Rattle.cue_fit.specs.Shown.{with_shown}

-- the most frames that a cue may be shown late
abbrev pub most_late : ℕ
most_late = 1000

-- the list with these cues, the newest of which is first; its shares stand in the order in which they are written
abbrev pub list_of : Listing → List Cue → Listing
list_of list cues = record (in_order list) { cues = reverse cues }

-- the list keeps the rules, and its units have a placement
pub record HasPlan (list : Listing) : Type 0 where
  pub ruled : IsRuled list
  pub placed : Placement
  pub placement : IsListPlaced list placed

-- after the cues so far the cue may be shown in this frame
abbrev pub MayShow : Listing → List Cue → Cue → ℕ → Type 0
MayShow list earlier cue frame = HasPlan (list_of list (with_shown frame cue earlier))

-- the first such frame from its SHOW on, and at most this many frames after it
pub record IsShow (late : ℕ) (list : Listing) (earlier : List Cue) (cue : Cue) (frame : ℕ) : Type 0 where
  pub from : cue.show ≤ frame
  pub within : frame ≤ cue.show + late
  pub may : MayShow list earlier cue frame
  pub first : (other : ℕ) → cue.show ≤ other → other < frame → MayShow list earlier cue other → ⊥

-- none of these frames is such a one
abbrev pub HasNoShow : ℕ → Listing → List Cue → Cue → Type 0
HasNoShow late list earlier cue = (frame : ℕ) → cue.show ≤ frame → frame ≤ cue.show + late → MayShow list earlier cue frame → ⊥

-- cues that are shown so, one after the other and after the cues so far: all of them, the newest first
abbrev pub AreFitted : ℕ → Listing → List Cue → List Cue → List Cue → Type 0
AreFitted late list earlier [] fitted = fitted ≡ earlier
AreFitted late list earlier (cue ∷ cues) fitted =
    (frame : ℕ) × IsShow late list earlier cue frame × AreFitted late list (with_shown frame cue earlier) cues fitted

-- the list with all of its cues shown so, none more than this many frames late
pub record IsFitted (late : ℕ) (list fitted : Listing) : Type 0 where
  pub cues : List Cue
  pub are : AreFitted late list [] list.cues cues
  pub is : fitted ≡ list_of list cues

-- the cue of this number is the first that can't be shown so after those before it
pub record LacksShow (late : ℕ) (list : Listing) (number : ℕ) : Type 0 where
  pub before : List Cue
  pub cue : Cue
  pub after : List Cue
  pub split : list.cues ≡ before ++ cue ∷ after
  pub number_is : number ≡ length before + 1
  pub fitted : List Cue
  pub are : AreFitted late list [] before fitted
  pub none : HasNoShow late list fitted cue
