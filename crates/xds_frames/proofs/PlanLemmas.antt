-- A cue list and packets beside its captions that are planned together.
use Rattle.std.proofs.Common.{◌≡◌, ℕ, List, Option, Some, None, refl, subst}
use Rattle.cue_lists.specs.Listing.{Listing}
use Rattle.frame_carrier.proofs.LanesLemmas.{one_placement}
use Rattle.frame_carrier.specs.Columns.{Columns}
use Rattle.frame_carrier.specs.Frames.{GivesFrom, frames_left}
use Rattle.frame_carrier.specs.Planned.{IsListPlaced, Placement, columns_of}
use Rattle.frame_carrier.specs.Plan.{Plan}
use Rattle.cue_lists.specs.Cadences.{slot_frame, slot_from}
use Rattle.xds_frames.specs.XdsFrames.{HasXdsRoom}
use Rattle.xds_frames.proofs.ListPacketsLemmas.{packets_laid, room_told}
use Rattle.xds_frames.specs.ListPackets.{TellsXdsRoom, laying_of}
use Rattle.xds_frames.specs.Packets.{HasPairs, IsLaying, Laying, free_at}
use Rattle.xds_frames.specs.PlanAnswer.{IsPlanned, LacksXdsRoom}
use Rattle.xds_frames.specs.declared.packets.Packets.{Packets}
use Rattle.xds_packets.specs.Places.{LacksRoom}
use Rattle.xds_packets.specs.Sending.{Listed}

module _ (list : Listing) (listed : List Listed) (placed : Placement) (is : IsListPlaced list placed) where
  -- the round through all frames tells the first packet without room
  pub round_told : (round : Plan) (packets : Packets) (number : Option ℕ) → GivesFrom (columns_of list placed) 0 round → frames_left round ≡ list.frames
      → IsLaying (laying_of list placed listed) 0 packets
      → ((columns : Columns) (laying : Laying) → GivesFrom columns 0 round → HasPairs laying columns → IsLaying laying 0 packets
      → LacksRoom (free_at laying) (slot_frame laying.cadence) laying.listed (slot_from laying.cadence (frames_left round)) number)
      → TellsXdsRoom list placed listed number
  round_told round packets number gives left stands tells =
      room_told list placed listed number
      (subst (λ n. LacksRoom (free_at (laying_of list placed listed)) (slot_frame (laying_of list placed listed).cadence) listed (slot_from (laying_of list placed listed).cadence n) number) left
      (tells (columns_of list placed) (laying_of list placed listed) gives (λ frame. refl) stands))

  -- so this packet lacks it
  pub lacks_room : (round : Plan) (packets : Packets) (number : ℕ) → GivesFrom (columns_of list placed) 0 round → frames_left round ≡ list.frames
      → IsLaying (laying_of list placed listed) 0 packets
      → ((columns : Columns) (laying : Laying) → GivesFrom columns 0 round → HasPairs laying columns → IsLaying laying 0 packets
      → LacksRoom (free_at laying) (slot_frame laying.cadence) laying.listed (slot_from laying.cadence (frames_left round)) (Some number))
      → LacksXdsRoom list listed number
  lacks_room round packets number gives left stands tells =
      record { placed = placed; placed_is = is; first = round_told round packets (Some number) gives left stands tells }

  -- and after the round the packets begin anew
  pub again_laid : (round : Plan) (packets behind : Packets) → GivesFrom (columns_of list placed) 0 round → IsLaying (laying_of list placed listed) 0 packets
      → ((columns : Columns) (laying : Laying) → GivesFrom columns 0 round → HasPairs laying columns → IsLaying laying 0 packets → IsLaying laying 0 behind)
      → IsLaying (laying_of list placed listed) 0 behind
  again_laid round packets behind gives stands again = again (columns_of list placed) (laying_of list placed listed) gives (λ frame. refl) stands

  -- where each has room, a second plan gives the frames with the packets that begin anew
  pub all_planned : (moved : Placement) (frames : Plan) (packets : Packets) → TellsXdsRoom list placed listed None → IsListPlaced list moved
      → GivesFrom (columns_of list moved) 0 frames → frames_left frames ≡ list.frames → IsLaying (laying_of list placed listed) 0 packets
      → IsPlanned list listed frames packets
  all_planned moved frames packets room again gives left stands =
      let same : placed ≡ moved = one_placement list placed moved is again in
      record {
        placed = moved;
        placed_is = again;
        room = subst (λ p. HasXdsRoom list p listed) same room;
        gives = record {
          firsts = columns_of list moved;
          gives = gives;
          makes = packets_laid list moved listed packets (subst (λ p. IsLaying (laying_of list p listed) 0 packets) same stands);
        };
        left = left;
      }
