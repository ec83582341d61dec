-- The packets of a list beside the captions of a placed cue list.
use Rattle.std.proofs.Common.{ℕ, List, [], ◌∷◌, Some, None, map, refl, arith}
use Rattle.std.specs.Prelude.{length}
use Rattle.cue_lists.specs.Channels.{cues_on}
use Rattle.cue_lists.specs.Listing.{Listing}
use Rattle.cue_lists.specs.Rules.{IsRuled}
use Rattle.cue_lists.proofs.RulesSaid.{lanes_ruled}
use Rattle.cue_lists.specs.Rules.Sentences.{AreInSequence}
use Rattle.cue_lists.specs.declared.cue.Cue.{Cue}
use Rattle.frame_carrier.specs.SlotLists.{slots_in_list}
use Rattle.line21_codes.specs.declared.channels.Chan.TheVariants.{Cc3}
use Rattle.cue_lists.specs.Cadences.{slot_frame}
use Rattle.xds_frames.specs.ListPackets.{PacketsAreLaid, RoomIsJudged, RoomIsTold, laying_of}
use Rattle.xds_frames.specs.Loads.{AreInOrder, AreLoadedInOrder, span_of}
use Rattle.xds_frames.specs.Packets.{free_at}
use Rattle.xds_packets.proofs.PlacesLemmas.{unfinished_lacks_room}
use Rattle.xds_packets.specs.Sending.{unfinished, writing_at}

-- the cues of a channel that keep the rules are loaded in their order
in_order : (step frames : ℕ) (cues : List Cue) → AreInSequence step frames cues → AreInOrder (map span_of cues)
in_order step frames [] is = tt
in_order step frames (cue ∷ []) is = tt
in_order step frames (cue ∷ (next ∷ cues)) is =
    let low = is.0.loaded in
    let high = is.1.loaded in
    (omega arith, in_order step frames (next ∷ cues) is.2)

pub loaded_in_order : (list : Listing) → IsRuled list → AreLoadedInOrder list.cues
loaded_in_order list ruled = in_order _ list.frames (cues_on Cc3 list.cues) ((lanes_ruled list ruled).channels Cc3)

pub packets_laid : PacketsAreLaid
packets_laid list placed listed packets is = record {
  laying = laying_of list placed listed;
  pairs_are = λ frame. refl;
  columns_are = λ n. refl;
  stands = is;
}

pub room_told : RoomIsTold
room_told list placed listed None is = is
room_told list placed listed (Some number) is = record { before = is.0; lacks = is.1 }

pub room_judged : RoomIsJudged
room_judged list placed listed =
    let laying = laying_of list placed listed in
    let number = unfinished (length listed) (writing_at (free_at laying) (slot_frame laying.cadence) listed (slots_in_list list Cc3)) in
    (number, room_told list placed listed number (unfinished_lacks_room (free_at laying) (slot_frame laying.cadence) listed (slots_in_list list Cc3)))
