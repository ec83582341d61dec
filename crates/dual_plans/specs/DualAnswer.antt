-- Believed in part: the program's answer stands on some of these definitions.
-- What planning two lists together answers.
use Rattle.std.specs.Prelude.{◌≡◌, ⊤, ◌⊎◌, ℕ, ◌<◌, List, Some}
use Rattle.line21_codes.specs.declared.channels.FieldNumber.{FieldNumber}
use Rattle.cue_lists.specs.Listing.{Listing}
use Rattle.cue_lists.specs.declared.lane.Lane.TheVariants.{Service}
use Rattle.dual_plans.specs.Clashes.{IsFieldClash, IsLeastClash}
use Rattle.frame_carrier.specs.Frames.{GivesFrom, frames_left}
use Rattle.frame_carrier.specs.Plan.{Plan}
use Rattle.frame_carrier.specs.Planned.{IsLanePlaced, LaneHasRoom, authored_channel}
use Rattle.lanes.specs.LaneRoom.{HasRoom}
use Rattle.lanes.specs.Placing.{IsEarliest}
use Rattle.frame_carrier.specs.Overlays.{GivesOverlaid}
use Rattle.dual_fields.specs.Parts.{part_cue}
use Rattle.dual_fields.specs.ResumedLane.{resumed_lane}
use Rattle.dual_plans.specs.SecondLanes.{LaysBoth}
use Rattle.dual_plans.specs.declared.second_lanes.SecondLanes.{SecondLanes}
use Rattle.dual_plans.specs.DualPlacement.{DualPlacement, IsDualPlaced, dual_columns}
use Rattle.dual_plans.specs.FieldPlaces.{GoTogether, first_units, second_units, slots_for_first, slots_for_second}
use Rattle.dual_plans.specs.OtherList.{AreAlike, IsJudged}
use Rattle.dual_plans.specs.declared.fault.DualFault.{DualFault}
use Rattle.dual_plans.specs.declared.fault.DualFault.TheVariants.{Memory, OtherList, FieldClash, NoRoom, NoRoomBeside}

-- the units of the first list in a field up to the cue of this number have a placement
abbrev pub FieldHasRoom : Listing → Listing → FieldNumber → ℕ → Type 0
FieldHasRoom one two in_field cue =
    HasRoom (resumed_lane (slots_for_first one two (authored_channel in_field))) part_cue (first_units one (authored_channel in_field)) cue

-- the cue is the first of the first list without a placement, in a field or of a service
pub record IsFirstWithout (one two : Listing) (cue : ℕ) : Type 0 where
  pub none : ((in_field : FieldNumber) × (FieldHasRoom one two in_field cue → ⊥)) ⊎ ((service : ℕ) × (LaneHasRoom one (Service service) cue → ⊥))
  pub fields : (earlier : ℕ) → earlier < cue → (in_field : FieldNumber) → FieldHasRoom one two in_field earlier
  pub services : (earlier : ℕ) → earlier < cue → (service : ℕ) → LaneHasRoom one (Service service) earlier

-- the units of the second list in a field up to a cue have a placement beside the first list's in these slots
abbrev pub HasRoomBeside : Listing → Listing → FieldNumber → List ℕ → ℕ → Type 0
HasRoomBeside one two in_field fs cue =
    HasRoom (resumed_lane (slots_for_second one two (authored_channel in_field) fs)) part_cue (second_units two (authored_channel in_field)) cue

-- the first list has its placements, and the cue is the first of the second without one
pub record IsFirstWithoutBeside (one two : Listing) (cue : ℕ) : Type 0 where
  pub placed : FieldNumber → List ℕ
  pub fields : (in_field : FieldNumber) → IsEarliest (resumed_lane (slots_for_first one two (authored_channel in_field))) (first_units one (authored_channel in_field)) (placed in_field)
  pub services : (service : ℕ) → (frames : List ℕ) × IsLanePlaced one (Service service) frames
  pub none : (in_field : FieldNumber) × (HasRoomBeside one two in_field (placed in_field) cue → ⊥)
  pub first : (earlier : ℕ) → earlier < cue → (in_field : FieldNumber) → HasRoomBeside one two in_field (placed in_field) earlier

-- a plan with second lanes has the frames of both lists
pub record IsPlanned (one two : Listing) (plan : Plan) (lanes : SecondLanes) : Type 0 where
  pub together : GoTogether one two
  pub placed : DualPlacement
  pub placed_is : IsDualPlaced one two placed
  pub gives : GivesOverlaid GivesFrom LaysBoth (dual_columns one two placed) 0 plan lanes
  pub left : frames_left plan ≡ one.frames

-- why two lists have no plan together, each refusal where none before it is; 'out of memory' may be answered in place of any
abbrev pub IsDualFault : Listing → Listing → DualFault → Type 0
IsDualFault one two (Memory error) = ⊤
IsDualFault one two (OtherList rec field) = IsJudged one two (Some (record { rec = rec; field = field }))
IsDualFault one two (FieldClash second first) = AreAlike one two × IsLeastClash (IsFieldClash one two) (record { second = second; first = first })
IsDualFault one two (NoRoom cue) = GoTogether one two × IsFirstWithout one two cue
IsDualFault one two (NoRoomBeside cue) = GoTogether one two × IsFirstWithoutBeside one two cue
