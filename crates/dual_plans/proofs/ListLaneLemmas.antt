-- What the lanes of lists are like.
use Rattle.std.proofs.Common.{ℕ, suc, ◌+◌, ◌<◌, ◌≤◌, Bool, true, false, List, [], ◌∷◌, ◌++◌, Option, Some, None, All, map, sym, subst, arith}
use Rattle.std.specs.Prelude.{if◌then◌else◌, IfSome, MatchOption}
use Rattle.std.specs.List.{AllByRecursion}
use Rattle.std.proofs.lemmas.List.Elements.{All-append, All-cons, All-head, All-nil, All-tail}
use Rattle.line21_codes.specs.declared.channels.Chan.{Chan}
use Rattle.line21_codes.specs.declared.channels.FieldNumber.{FieldNumber}
use Rattle.line21_codes.specs.Channels.{field_of_channel}
use Rattle.line21_codes.specs.Reading.{code_of}
use Rattle.line21_codes.specs.Writable.{IsWritable}
use Rattle.cue_lists.specs.Listing.{IsFormed, Listing}
use Rattle.cue_lists.specs.Rules.{IsRuled}
use Rattle.cue_lists.specs.declared.cue.Cue.{Cue}
use Rattle.line21_author.specs.Channels.{cues_on, is_on}
use Rattle.line21_author.specs.CueUnits.{units_of}
use Rattle.line21_author.specs.declared.event.Event.{Event}
use Rattle.line21_author.specs.declared.unit.Unit.{Unit}
use Rattle.line21_author.proofs.SlotSequenceLemmas.{IsSoundInSlots, all_sound_in_slots}
use Rattle.lanes.specs.ChannelLane.{field_cue_chunks}
use Rattle.frame_carrier.specs.SlotLists.{slot_cues, slots_in_list}
use Rattle.frame_carrier.proofs.SlotLemmas.{slot_sequence}
use Rattle.dual_fields.specs.Agreeing.{EndsBy}
use Rattle.dual_fields.specs.declared.part.Part.{Part}
use Rattle.dual_plans.specs.Placeable.{ArePlaceable, AreWritable}
use Rattle.dual_plans.proofs.PlaceableLemmas.{channels_ready}
use Rattle.dual_fields.specs.ChannelParts.{channel_parts, later_part, parts_from, parts_of}
use Rattle.dual_fields.specs.Seen.{second_part, second_parts}
use Rattle.dual_plans.specs.ListLanes.{HasUnitsWithin, IsFirstLane, IsSecondLane, IsWritableLane}
use Rattle.dual_plans.specs.declared.list_lane.ListLane.{ListLane}

-- a cue is shown within the slots of its list
shown_within : (slots show : ℕ) (hide : Option ℕ) → IfSome hide (λ h. show < h) → MatchOption hide (show < slots) (λ h. h + 2 ≤ slots) → show ≤ slots
shown_within slots show None hidden ended = omega arith
shown_within slots show (Some h) hidden ended = omega arith

-- so its units have ended
later_end : (slots number load until : ℕ) (first : Unit) (units : List Unit) → until ≤ slots
    → All (EndsBy slots) (map (later_part first) (map (λ (unit : Unit). record { unit = unit; load = load; until = until; cue = number }) units))
later_end slots number load until first [] ends = All-nil (EndsBy slots)
later_end slots number load until first (unit ∷ units) ends = All-cons (EndsBy slots) _ _ ends (later_end slots number load until first units ends)

cue_end : (slots number load until : ℕ) (units : List Unit) → until ≤ slots
    → All (EndsBy slots) (parts_of (map (λ (unit : Unit). record { unit = unit; load = load; until = until; cue = number }) units))
cue_end slots number load until [] ends = All-nil (EndsBy slots)
cue_end slots number load until (unit ∷ units) ends = All-cons (EndsBy slots) _ _ ends (later_end slots number load until unit units ends)

parts_end : (slots : ℕ) (channel : Chan) (number : ℕ) (cues : List Cue) → AllByRecursion (IsSoundInSlots slots) (cues_on channel cues)
    → All (EndsBy slots) (parts_from channel number cues)
parts_end slots channel number [] sound = All-nil (EndsBy slots)
parts_end slots channel number (cue ∷ cues) sound = by_test (is_on channel cue.kind) sound (λ s. parts_end slots channel (suc number) cues s)
  where
    by_test : (on : Bool) → AllByRecursion (IsSoundInSlots slots) (if on then cue ∷ cues_on channel cues else cues_on channel cues)
        → (AllByRecursion (IsSoundInSlots slots) (cues_on channel cues) → All (EndsBy slots) (parts_from channel (suc number) cues))
        → All (EndsBy slots) ((if on then parts_of (field_cue_chunks number cue) else []) ++ parts_from channel (suc number) cues)
    by_test true sound rest =
        All-append (EndsBy slots) (parts_of (field_cue_chunks number cue)) (parts_from channel (suc number) cues)
        (cue_end slots number cue.load cue.show (units_of cue) (shown_within slots cue.show cue.hide sound.0.hidden sound.0.ended)) (rest sound.1)
    by_test false sound rest = rest sound

second_end : (slots : ℕ) (f : FieldNumber) (parts : List Part) → All (EndsBy slots) parts → All (EndsBy slots) (second_parts f parts)
second_end slots f [] all = All-nil (EndsBy slots)
second_end slots f (part ∷ parts) all =
    All-cons (EndsBy slots) (second_part f part) (second_parts f parts) (All-head (EndsBy slots) part parts all)
    (second_end slots f parts (All-tail (EndsBy slots) part parts all))

module _ (list : Listing) (formed : IsFormed list) (ruled : IsRuled list) (channel : Chan) where
  ends : All (EndsBy (slots_in_list list channel)) (channel_parts channel (slot_cues list channel))
  ends =
      parts_end (slots_in_list list channel) channel 1 (slot_cues list channel)
      (all_sound_in_slots (slots_in_list list channel) (cues_on channel (slot_cues list channel)) (slot_sequence list ruled channel))

  pub first_within : (lane : ListLane) → IsFirstLane list channel lane → HasUnitsWithin (slots_in_list list channel) lane
  first_within lane is = record {
    placeable = subst ArePlaceable (sym is.parts) (channels_ready list channel formed ruled).placeable;
    ends = subst (All (EndsBy (slots_in_list list channel))) (sym is.parts) ends;
  }

  pub first_writable : (lane : ListLane) → IsFirstLane list channel lane → IsWritableLane lane
  first_writable lane is = record {
    parts = subst AreWritable (sym is.parts) (channels_ready list channel formed ruled).writable;
    events = subst (All (λ (event : Event). IsWritable (code_of event.pair))) (sym is.events) (channels_ready list channel formed ruled).events;
  }

  pub second_within : (lane : ListLane) → IsSecondLane list channel lane → HasUnitsWithin (slots_in_list list channel) lane
  second_within lane is = record {
    placeable = subst ArePlaceable (sym is.parts) (channels_ready list channel formed ruled).second;
    ends = subst (All (EndsBy (slots_in_list list channel))) (sym is.parts)
        (second_end (slots_in_list list channel) (field_of_channel channel) (channel_parts channel (slot_cues list channel)) ends);
  }
