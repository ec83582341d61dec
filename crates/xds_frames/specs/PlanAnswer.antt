-- Believed in part: the program's answer stands on some of these definitions.
-- What planning a cue list and packets beside its captions answers.
use Rattle.std.specs.Prelude.{◌≡◌, ⊤, ℕ, List}
use Rattle.cue_lists.specs.Listing.{Listing}
use Rattle.frame_carrier.specs.Frames.{GivesFrom, frames_left}
use Rattle.frame_carrier.specs.Planned.{IsFirstWithoutRoom, IsListPlaced, Placement}
use Rattle.frame_carrier.specs.Plan.{Plan}
use Rattle.lanes.specs.declared.planning.PlanFault.{PlanFault}
use Rattle.lanes.specs.declared.planning.PlanFault.TheVariants as plan
use Rattle.frame_carrier.specs.Overlays.{GivesOverlaid}
use Rattle.xds_frames.specs.XdsFrames.{HasXdsRoom, IsFirstWithoutXdsRoom, xds_columns}
use Rattle.xds_frames.specs.Packets.{LaysPackets}
use Rattle.xds_frames.specs.declared.fault.XdsPlanFault.{XdsPlanFault}
use Rattle.xds_frames.specs.declared.fault.XdsPlanFault.TheVariants.{Memory, NoRoom, NoXdsRoom}
use Rattle.xds_frames.specs.declared.packets.Packets.{Packets}
use Rattle.xds_packets.specs.Sending.{Listed}

-- the list has its earliest placement, all packets have room beside its captions, and a plan with packets laid over it gives the list's
-- frames with them
pub record IsPlanned (list : Listing) (listed : List Listed) (frames : Plan) (packets : Packets) : Type 0 where
  pub placed : Placement
  pub placed_is : IsListPlaced list placed
  pub room : HasXdsRoom list placed listed
  pub gives : GivesOverlaid GivesFrom LaysPackets (xds_columns list placed listed) 0 frames packets
  pub left : frames_left frames ≡ list.frames

-- the list has its earliest placement, beside which this packet is the first without room
pub record LacksXdsRoom (list : Listing) (listed : List Listed) (packet : ℕ) : Type 0 where
  pub placed : Placement
  pub placed_is : IsListPlaced list placed
  pub first : IsFirstWithoutXdsRoom list placed listed packet

-- why both have no plan; 'out of memory' may be answered in place of any
abbrev pub IsXdsPlanFault : Listing → List Listed → XdsPlanFault → Type 0
IsXdsPlanFault list listed (Memory error) = ⊤
IsXdsPlanFault list listed (NoRoom cue) = IsFirstWithoutRoom list cue
IsXdsPlanFault list listed (NoXdsRoom packet) = LacksXdsRoom list listed packet

-- the fault of a list that has no plan by itself
abbrev pub fault_of_plan : PlanFault → XdsPlanFault
fault_of_plan (plan.Memory error) = Memory error
fault_of_plan (plan.NoRoom cue) = NoRoom cue
