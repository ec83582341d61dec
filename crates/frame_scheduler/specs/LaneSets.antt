-- Between crates: the program's answer stands on none of these definitions.
-- Some of the lanes of a list: the first cue without room among them.
use Rattle.std.specs.Prelude.{ℕ, ◌<◌, min, ⊤, Option, Some, None}
use Rattle.cue_lists.specs.Listing.{Listing}
use Rattle.cue_lists.specs.declared.lane.Lane.{Lane}
use Rattle.cue_lists.specs.declared.lane.Lane.TheVariants.{Channel, Service}
use Rattle.lanes.specs.declared.planning.PlanFault.{PlanFault}
use Rattle.lanes.specs.declared.planning.PlanFault.TheVariants.{Memory, NoRoom}
use Rattle.frame_scheduler.specs.Planned.{LaneHasRoom}

-- the lane of a channel
abbrev pub IsField : Lane → Type 0
IsField (Channel channel) = ⊤
IsField (Service service) = ⊥

-- the lane of a service below a number
abbrev pub IsServiceBelow : ℕ → Lane → Type 0
IsServiceBelow number (Channel channel) = ⊥
IsServiceBelow number (Service service) = service < number

-- the cue is the first without a placement in one of these lanes: its units and those before them have none, and up to each
-- earlier cue the units of all these lanes have one
pub record IsFirstIn (IsOne : Lane → Type 0) (list : Listing) (cue : ℕ) : Type 0 where
  pub none : (on : Lane) × IsOne on × (LaneHasRoom list on cue → ⊥)
  pub first : (earlier : ℕ) → earlier < cue → (on : Lane) → IsOne on → LaneHasRoom list on earlier

-- why these lanes aren't planned: memory ran out, or this is the first cue without room
abbrev pub IsFaultIn : (Lane → Type 0) → Listing → PlanFault → Type 0
IsFaultIn IsOne list (Memory error) = ⊤
IsFaultIn IsOne list (NoRoom cue) = IsFirstIn IsOne list cue

-- of the faults of two lanes the earlier cue's, or out of memory
abbrev pub earlier_fault : PlanFault → PlanFault → PlanFault
earlier_fault (NoRoom one) (NoRoom two) = NoRoom (min one two)
earlier_fault (NoRoom one) (Memory error) = Memory error
earlier_fault (Memory error) two = Memory error

-- the fault of one lane, beside another's, if it has one
abbrev pub fault_beside : PlanFault → Option PlanFault → PlanFault
fault_beside one None = one
fault_beside one (Some two) = earlier_fault one two
