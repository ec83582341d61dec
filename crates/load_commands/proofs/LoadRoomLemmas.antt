-- The list of a load has a placement: every list in form that keeps the rules has one, or a first cue without room, and here each lane
-- has room.
use Rattle.std.proofs.Common.{ℕ, ◌≤◌, inl, inr}
use Rattle.cue_lists.specs.declared.lane.Lane.{Lane}
use Rattle.cue_lists.specs.declared.lane.Lane.TheVariants.{Channel, Service}
use Rattle.cue_list_commands.specs.Planned.{IsListPlaced, LaneHasRoom, Placement}
use Rattle.cue_list_commands.proofs.LanesLemmas.{earliest_room, service_room}
use Rattle.cue_list_commands.proofs.RoomDecided.{list_decided}
use Rattle.load_commands.specs.LoadList.{load_list, most_load}
use Rattle.load_commands.proofs.FormedLemmas.{list_formed}
use Rattle.load_commands.proofs.RuledLemmas.{list_ruled}
use Rattle.load_commands.proofs.ChannelRoomLemmas.{channel_placed}
use Rattle.load_commands.proofs.ServiceRoomLemmas.{service_placed}

lane_has_room : (count : ℕ) (on : Lane) (cue : ℕ) → LaneHasRoom (load_list count) on cue
lane_has_room count (Channel channel) cue = let placed = channel_placed count channel in earliest_room channel (load_list count) placed.0 placed.1 cue
lane_has_room count (Service service) cue = let placed = service_placed count service in service_room service (load_list count) placed.0 placed.1 cue

pub list_placed : (count : ℕ) → 1 ≤ count → count ≤ most_load → (placed : Placement) × IsListPlaced (load_list count) placed
list_placed count some most =
    elim (list_decided (load_list count) (list_formed count some most) (list_ruled count)) [
      | inl placed ↦ placed
      | inr without ↦ absurd (without.1.none.1 (lane_has_room count without.1.none.0 without.0))
    ]
