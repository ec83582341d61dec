-- A fitted list has a plan.
use Rattle.std.proofs.Common.{◌≡◌, ◌∙◌, ◌≤◌, ℕ, List, [], ◌∷◌, length, reverse, take, Option, ap, sym, subst}
use Rattle.std.specs.Prelude.{MatchResult, Result, Ok, Err, unwrap_or}
use Rattle.std.proofs.lemmas.List.{reverse-reverse, take_all}
use Rattle.frame_scheduler.specs.ServicePlans.{IsMemory}
use Rattle.lanes.specs.declared.planning.PlanFault.{PlanFault}
use Rattle.lanes.specs.declared.planning.PlanFault.TheVariants.{Memory, NoRoom}
use Rattle.cue_fit.specs.Tries.{FitsList}
use Rattle.cue_lists.proofs.InOrder.{same_share}
use Rattle.cue_lists.specs.Printing.{in_order}
use Rattle.frame_scheduler.specs.Placing.{IsEarliest}
use Rattle.frame_scheduler.specs.ServiceRoom.{caption_lane}
use Rattle.lanes.proofs.PlacingLemmas.{earliest_none}
use Rattle.cue_lists.specs.Listing.{IsFormed, Listing}
use Rattle.cue_lists.specs.declared.cue.Cue.{Cue}
use Rattle.cue_lists.specs.declared.lane.Lane.{Lane}
use Rattle.cue_lists.specs.declared.lane.Lane.TheVariants.{Channel, Service}
use Rattle.frame_scheduler.specs.Planned.{IsLanePlaced, Placement, captions_in, chunks_in}
use Rattle.cue_fit.specs.Fitted.{AreFitted, HasPlan, IsFitted, list_of}
use Rattle.cue_fit.specs.Shown.{with_shown}

-- a list without cues has one
pub empty_plan : (list : Listing) → HasPlan (list_of list [])
empty_plan list = record {
  ruled = record { kept = tt };
  placed = λ on. [];
  placement = placement;
}
  where
    placement : (on : Lane) → IsLanePlaced (list_of list []) on []
    placement (Channel channel) = earliest_none _
    placement (Service service) = earliest_none _

-- and so has each list of cues that are fitted after the cues of such a one
pub fitted_plan : (late : ℕ) (list : Listing) (earlier cues fitted : List Cue) → HasPlan (list_of list earlier) → AreFitted late list earlier cues fitted
    → HasPlan (list_of list fitted)
fitted_plan late list earlier [] fitted plan are = subst (λ (e : List Cue). HasPlan (list_of list e)) (sym are) plan
fitted_plan late list earlier (cue ∷ cues) fitted plan are = fitted_plan late list (with_shown are.0 cue earlier) cues fitted are.1.may are.2

pub fitted_has_plan : (late : ℕ) (list fitted : Listing) → IsFitted late list fitted → HasPlan fitted
fitted_has_plan late list fitted is = subst HasPlan (sym is.is) (fitted_plan late list [] list.cues is.cues (empty_plan list) is.are)

-- with its shares in order a list is placed as it was
pub placed_in_order : (list : Listing) (placed : Placement) → IsFormed list → (on : Lane) → IsLanePlaced list on (placed on) → IsLanePlaced (in_order list) on (placed on)
placed_in_order list placed formed (Channel channel) is = is
placed_in_order list placed formed (Service service) is =
    subst (λ (share : Option ℕ). IsEarliest (caption_lane (unwrap_or share 0) (captions_in list service)) (chunks_in list service) (placed (Service service)))
    (sym (same_share list formed service)) is

-- all cues of a list are fitted
pub all_told : (late : ℕ) (list : Listing) (cues fitted : List Cue) (i : ℕ) (answer : Result Listing PlanFault) → cues ≡ list.cues → length cues ≤ i
    → AreFitted late list [] (take i cues) (reverse fitted)
    → MatchResult answer (λ other. other ≡ record (in_order list) { cues = fitted }) IsMemory → FitsList late list answer
all_told late list cues fitted i (Ok other) same end are is = record {
  cues = reverse fitted;
  are = subst (λ (l : List Cue). AreFitted late list [] l (reverse fitted)) (take_all i cues end ∙ same) are;
  is = is ∙ ap (λ (l : List Cue). record (in_order list) { cues = l }) (sym (reverse-reverse fitted));
}
all_told late list cues fitted i (Err (Memory error)) same end are is = tt
all_told late list cues fitted i (Err (NoRoom number)) same end are is = absurd is
