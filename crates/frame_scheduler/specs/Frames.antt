-- Believed in part: the library's answers stand on some of these definitions.
-- A plan: what it gives from frame to frame, and what planning a list answers.
use Rattle.std.specs.Prelude.{◌≡◌, ℕ, ⊤, [], ◌∷◌, All, Result, Ok, Err}
use Rattle.line21_codes.specs.declared.channels.Chan.TheVariants.{Cc1, Cc3}
use Rattle.cue_lists.specs.Listing.{Listing}
use Rattle.cue_lists.specs.Cadences.{cadence_of, slot_from}
use Rattle.frame_scheduler.specs.declared.frames.Plan.{Plan}
use Rattle.lanes.specs.declared.planning.PlanFault.{PlanFault}
use Rattle.lanes.specs.declared.planning.PlanFault.TheVariants.{Memory, NoRoom}
use Rattle.frame_scheduler.specs.Blocks.{blocks_of}
use Rattle.frame_scheduler.specs.Columns.{Columns}
use Rattle.lanes.specs.FieldPlan.{IsFieldPlan, PlannedField, lane_pair}
use Rattle.lanes.specs.ChannelLane.{channel_chunks}
use Rattle.frame_scheduler.specs.SlotLists.{slot_cues}
use Rattle.lanes.specs.CueEvents.{channel_events}
use Rattle.frame_scheduler.specs.Planned.{IsFirstWithoutRoom, IsListPlaced, Placement, columns_of}

-- the frames that the plan hasn't given yet
abbrev pub frames_left : Plan → ℕ
frames_left plan = plan.left

-- the plan gives the columns, this frame next: each field's lane is at the first of its slots that isn't before the frame, and each
-- service's at the frame
pub record GivesFrom (columns : Columns) (frame : ℕ) (plan : Plan) : Type 0 where
  pub one : PlannedField
  pub two : PlannedField
  pub lanes : plan.lanes ≡ one ∷ two ∷ []
  pub frame_is : plan.frame ≡ frame
  pub one_at : one.slot ≡ slot_from (cadence_of plan.rate Cc1) frame
  pub two_at : two.slot ≡ slot_from (cadence_of plan.rate Cc3) frame
  pub services_at : All (λ planned. planned.frame ≡ frame) plan.services.items
  pub column_is : (n : ℕ) → columns n ≡ record {
    one = lane_pair (cadence_of plan.rate Cc1) one n;
    two = lane_pair (cadence_of plan.rate Cc3) two n;
    blocks = record { items = blocks_of plan.services.items n };
  }

-- the lanes of both fields are planned
abbrev pub AreFieldsPlanned : Listing → PlannedField → PlannedField → Type 0
AreFieldsPlanned list one two =
    IsFieldPlan (channel_events Cc1 (slot_cues list Cc1)) (channel_chunks Cc1 (slot_cues list Cc1)) one
    × IsFieldPlan (channel_events Cc3 (slot_cues list Cc3)) (channel_chunks Cc3 (slot_cues list Cc3)) two

-- planning gives the frames of the list's earliest placement, or the first cue without one; 'out of memory' may come in
-- their place
abbrev pub PlanAnswer : Listing → Result Plan PlanFault → Type 0
PlanAnswer list (Ok plan) =
    (placed : Placement) × IsListPlaced list placed × GivesFrom (columns_of list placed) 0 plan × (frames_left plan ≡ list.frames)
PlanAnswer list (Err (Memory error)) = ⊤
PlanAnswer list (Err (NoRoom cue)) = IsFirstWithoutRoom list cue
