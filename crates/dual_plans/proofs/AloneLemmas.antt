-- Beside another list a list has no more room than alone.
use Rattle.std.proofs.Common.{◌≡◌, ℕ, Bool, true, false, List, [], ◌∷◌, ◌++◌, refl, sym, ap, ◌∙◌, subst, arith}
use Rattle.std.specs.Prelude.{if◌then◌else◌, nat_le}
use Rattle.line21_codes.specs.declared.channels.Chan.{Chan}
use Rattle.cue_lists.specs.Listing.{Listing}
use Rattle.cue_lists.specs.declared.lane.Lane.TheVariants.{Channel}
use Rattle.line21_author.specs.CueEvents.{channel_events}
use Rattle.line21_author.specs.declared.event.Event.{Event}
use Rattle.lanes.specs.LaneRoom.{HasRoom, up_to}
use Rattle.lanes.specs.Placing.{IsPlaced}
use Rattle.lanes.specs.FieldLane as alone
use Rattle.lanes.specs.LaneEvents.{IsFree}
use Rattle.lanes.specs.FieldPlan.{field_chunk_cue}
use Rattle.frame_carrier.specs.Planned.{LaneHasRoom}
use Rattle.frame_carrier.specs.SlotLists.{slot_cues}
use Rattle.lanes.specs.declared.chunk.FieldChunk.{FieldChunk}
use Rattle.lanes.proofs.FieldLaneLemmas.{end_push as end_push_alone}
use Rattle.dual_fields.specs.FieldSlots.{holds}
use Rattle.dual_fields.specs.Parts.{part_cue}
use Rattle.dual_fields.specs.ResumedLane.{end_of_parts, resumed_lane}
use Rattle.dual_fields.specs.Slots.{Slots}
use Rattle.dual_fields.specs.declared.part.Part.{Part}
use Rattle.dual_fields.proofs.ResumedLemmas.{end_push}
use Rattle.dual_fields.specs.Lanes.{part_chunks}
use Rattle.dual_fields.specs.Seen.{first_events, second_events}
use Rattle.dual_fields.proofs.ListedLemmas.{channel_chunks_from_back}
use Rattle.dual_fields.proofs.SeenLemmas.{free_unless}
use Rattle.dual_fields.proofs.TogetherLemmas.{both_not}
use Rattle.dual_plans.specs.FieldPlaces.{first_units, slots_for_first}

-- the units of the cues up to a number, by themselves
chunks_up_to : (cue : ℕ) (parts : List Part) → part_chunks (up_to part_cue cue parts) ≡ up_to field_chunk_cue cue (part_chunks parts)
chunks_up_to cue [] = refl
chunks_up_to cue (part ∷ parts) = by_test (nat_le part.chunk.cue cue) (chunks_up_to cue parts)
  where
    by_test : (b : Bool) → part_chunks (up_to part_cue cue parts) ≡ up_to field_chunk_cue cue (part_chunks parts)
        → part_chunks (if b then part ∷ up_to part_cue cue parts else up_to part_cue cue parts)
        ≡ (if b then part.chunk ∷ up_to field_chunk_cue cue (part_chunks parts) else up_to field_chunk_cue cue (part_chunks parts))
    by_test true rest = ap (λ (ps : List FieldChunk). part.chunk ∷ ps) rest
    by_test false rest = rest

-- units that are placed beside another lane are placed without it
placed_without : (events : List Event) (slots : Slots) → ((n : ℕ) → slots.free n ≡ true → IsFree events n) → (before : List (Part × ℕ)) (others : List (FieldChunk × ℕ))
    → end_of_parts before ≡ alone.end_of others → (parts : List Part) (fs : List ℕ) → IsPlaced (resumed_lane slots) before parts fs
    → IsPlaced (alone.field_lane events) others (part_chunks parts) fs
placed_without events slots free before others at [] [] placed = tt
placed_without events slots free before others at [] (f ∷ fs) placed = absurd placed
placed_without events slots free before others at (part ∷ parts) [] placed = absurd placed
placed_without events slots free before others at (part ∷ parts) (f ∷ fs) placed = (
  record {
    behind = omega (arith, at, placed.0.behind);
    loaded = placed.0.loaded;
    ended = placed.0.ended;
    free = λ n high low. free n (placed.0.free n high low);
  },
  placed_without events slots free (before ++ (part, f) ∷ []) (others ++ (part.chunk, f) ∷ [])
      (end_push before part f ∙ sym (end_push_alone others part.chunk f)) parts fs placed.1,
)

-- so where a cue of the first list has room in a field beside the second, it has room alone
pub room_alone : (one two : Listing) (channel : Chan) (cue : ℕ) → HasRoom (resumed_lane (slots_for_first one two channel)) part_cue (first_units one channel) cue
    → LaneHasRoom one (Channel channel) cue
room_alone one two channel cue room =
    let units : part_chunks (up_to part_cue cue (first_units one channel)) ≡ up_to field_chunk_cue cue (part_chunks (first_units one channel)) =
    chunks_up_to cue (first_units one channel) in (
      room.0,
      subst (λ (ps : List FieldChunk). IsPlaced (alone.field_lane (channel_events channel (slot_cues one channel))) [] ps room.0)
          (units ∙ ap (up_to field_chunk_cue cue) (channel_chunks_from_back channel 1 (slot_cues one channel)))
          (placed_without (channel_events channel (slot_cues one channel)) (slots_for_first one two channel)
          (λ n free. free_unless (channel_events channel (slot_cues one channel)) n
          (both_not (holds (first_events channel (slot_cues one channel)) n) (holds (second_events channel (slot_cues two channel)) n) free).0)
          [] [] refl (up_to part_cue cue (first_units one channel)) room.0 room.1),
    )
