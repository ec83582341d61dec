-- Where packets stand, those before any of them stand too; so one packet is the first without room.
use Rattle.std.proofs.Common.{ℕ, zero, suc, ◌-◌, ◌<◌, ◌≤◌, Bool, List, [], ◌∷◌, ◌++◌, take, refl, subst, arith, inl, inr}
use Rattle.std.proofs.lemmas.Bool.{cases_lt}
use Rattle.std.proofs.lemmas.List.{take-take}
use Rattle.cue_lists.specs.Listing.{Listing}
use Rattle.cue_lists.specs.declared.lane.Lane.TheVariants.{Channel}
use Rattle.frame_carrier.specs.Planned.{Placement}
use Rattle.frame_carrier.specs.SlotLists.{slots_in_list}
use Rattle.line21_codes.specs.declared.channels.Chan.TheVariants.{Cc3}
use Rattle.line21_codes.specs.declared.codes.Code.{Code}
use Rattle.xds_frames.specs.FreeSlots.{frame_of_slot, free_in}
use Rattle.xds_frames.specs.XdsFrames.{HasXdsRoom, IsFirstWithoutXdsRoom}
use Rattle.xds_frames.specs.ListPackets.{OnePacketLacksRoom, RoomLacksNone}
use Rattle.xds_packets.specs.Places.{AllStand, Follow, PlacedCode, StandFrom}
use Rattle.xds_packets.specs.Sending.{Listed}

-- the pairs after one end after it
follow_end : (free : ℕ → Bool) (cont : Code) (at : ℕ) (codes : List Code) (placed : List PlacedCode) (end : ℕ) → Follow free cont at codes placed end → at < end
follow_end free cont at codes [] end (none, same) = omega arith
follow_end free cont at codes (p ∷ placed) end (next, inl (near, (rest, (is, follow)))) =
    let behind = next.behind in
    let more = follow_end free cont p.slot rest placed end follow in omega arith
follow_end free cont at codes (p ∷ placed) end (next, inr (far, (is, (left, follow)))) =
    let behind = next.behind in
    let more = follow_end free cont p.slot codes placed end follow in omega arith

module _ (free : ℕ → Bool) (frame_of : ℕ → ℕ) where
  -- packets end no sooner than they begin
  stand_end : (from : ℕ) (listed : List Listed) (placed : List PlacedCode) (end : ℕ) → StandFrom free frame_of from listed placed end → from ≤ end
  stand_end from [] placed end (none, same) = omega arith
  stand_end from (one ∷ listed) placed end (first, rest, (is, (behind, (stands, others)))) =
      let begun = stands.start.behind in
      let own = follow_end free _ stands.at _ stands.others behind stands.follow in
      let more = stand_end behind listed rest end others in
      omega arith

  -- the first of packets stand where all do
  record FrontStands (from : ℕ) (listed : List Listed) (end : ℕ) : Type 0 where
    placed : List PlacedCode
    ends : ℕ
    stand : StandFrom free frame_of from listed placed ends
    within : ends ≤ end

  front_stands : (k from : ℕ) (listed : List Listed) (placed : List PlacedCode) (end : ℕ) → StandFrom free frame_of from listed placed end → FrontStands from (take k listed) end
  front_stands zero from listed placed end is = record { placed = []; ends = from; stand = (refl, refl); within = stand_end from listed placed end is }
  front_stands (suc k) from [] placed end (none, same) = record { placed = []; ends = from; stand = (refl, refl); within = omega arith }
  front_stands (suc k) from (one ∷ listed) placed end (first, rest, (is, (behind, (stands, others)))) =
      let front = front_stands k behind listed rest end others in
      record { placed = first ++ front.placed; ends = front.ends; stand = (first, front.placed, (refl, (behind, (stands, front.stand)))); within = front.within }

  front_all : (k below : ℕ) (listed : List Listed) → AllStand free frame_of listed below → AllStand free frame_of (take k listed) below
  front_all k below listed all =
      let front = front_stands k 0 listed all.placed all.end all.stand in
      let most = all.within in
      let within = front.within in
      record { placed = front.placed; end = front.ends; stand = front.stand; within = omega arith }

module _ (list : Listing) (placed : Placement) (listed : List Listed) where
  front_room : (k : ℕ) (more : List Listed) → HasXdsRoom list placed more → HasXdsRoom list placed (take k more)
  front_room k more room = front_all (free_in list (placed (Channel Cc3))) (frame_of_slot list) k (slots_in_list list Cc3) more room

  -- no packet before one that is the first without room lacks it
  less_lacks : (a b : ℕ) → IsFirstWithoutXdsRoom list placed listed a → IsFirstWithoutXdsRoom list placed listed b → a < b → ⊥
  less_lacks a b first second less =
      first.lacks (subst (HasXdsRoom list placed) (take-take a (b - 1) listed (omega arith)) (front_room a (take (b - 1) listed) second.before))

pub room_lacks_none : RoomLacksNone
room_lacks_none list placed listed number room first = first.lacks (front_room list placed listed number listed room)

pub one_lacks_room : OnePacketLacksRoom
one_lacks_room list placed listed a b first second =
    elim (cases_lt a b) [
      | inl less ↦ absurd (less_lacks list placed listed a b first second less)
      | inr most ↦ elim (cases_lt b a) [
        | inl less ↦ absurd (less_lacks list placed listed b a second first less)
        | inr least ↦ omega arith
      ]
    ]
