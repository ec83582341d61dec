-- The pairs of the frames of two lists.
use Rattle.std.proofs.Common.{◌≡◌, ℕ, Option, Some, None, option_map, ⊎_elim, sym, subst, refl}
use Rattle.std.specs.Prelude.{IfSome}
use Rattle.line21_codes.specs.declared.channels.Chan.{Chan}
use Rattle.line21_codes.specs.declared.channels.Chan.TheVariants.{Cc1, Cc3}
use Rattle.line21_codes.specs.declared.channels.FieldNumber.TheVariants.{One, Two}
use Rattle.line21_codes.specs.Channels.{field_of_channel}
use Rattle.cue_lists.specs.Listing.{Listing}
use Rattle.line21_author.specs.declared.unit.Unit.{Unit}
use Rattle.cue_lists.specs.Cadences.{cadence_of, slot_in}
use Rattle.frame_carrier.specs.Carried.{AreBytePairs, IsBytePair}
use Rattle.lanes.specs.DoubledPairs.{IsDoubled}
use Rattle.frame_carrier.specs.SlotLists.{slot_cues, slots_in_list}
use Rattle.lanes.specs.Timeline.{Timeline, column, slot}
use Rattle.frame_carrier.proofs.ListDoublingLemmas.{pairs_column}
use Rattle.dual_fields.specs.ChannelParts.{channel_parts}
use Rattle.dual_fields.specs.Dual.{IsDual, Places}
use Rattle.dual_fields.specs.Lanes.{whole}
use Rattle.dual_fields.specs.Seen.{field_timeline, first_events, second_events}
use Rattle.dual_fields.specs.Together.{AreTogether}
use Rattle.dual_fields.proofs.SeenLemmas.{listed_second}
use Rattle.dual_fields.proofs.TogetherLemmas.{together_doubled}
use Rattle.services_shown.specs.Sound.{AreDoubledIn}
use Rattle.services_shown.proofs.SoundLemmas.{fit_sound}
use Rattle.dual_plans.specs.DualPlacement.{DualPlacement, IsDualPlaced, both_pair, dual_columns}
use Rattle.dual_plans.specs.FieldPlaces.{GoTogether, first_units, second_units, slots_for_first, slots_for_second}
use Rattle.dual_plans.proofs.DualLemmas.{placed_dual}
use Rattle.dual_plans.proofs.FieldLemmas.{same_slots}
use Rattle.dual_plans.specs.DualPairs.{DualFramesAreSound, DualPairsAreFit}
use Rattle.dual_plans.proofs.DualBlocksLemmas.{dual_blocks}
use Rattle.dual_plans.proofs.SendableLemmas.{event_sent, firsts_sendable, listed, second_event_sent, seconds_sendable}
use Rattle.dual_plans.proofs.SentLemmas.{IsSent, either_is, lane_sent, none_due, slot_bytes}

-- one field of lists that go together
module _ (one two : Listing) (channel : Chan) (places : Places) (together : GoTogether one two) (dual : IsDual one two channel places) where
  abbrev timeline : Timeline
  timeline = field_timeline channel (slot_cues one channel) (slot_cues two channel) places.first places.second places.first_again places.second_again

  are_together : AreTogether (first_events channel (slot_cues one channel)) (second_events channel (slot_cues two channel))
      (first_units one channel) (second_units two channel) places.first places.second places.first_again places.second_again
  are_together = record {
    first = listed one channel together.formed together.ruled;
    second = listed_second (field_of_channel channel) (first_events channel (slot_cues two channel)) (channel_parts channel (slot_cues two channel))
        (listed two channel together.second_formed together.second_ruled);
    clash = dual.clash;
    stand = dual.stand;
    beside = dual.beside;
  }

  -- what begins in either lane is sent
  first_sent : (n : ℕ) (unit : Unit) → whole (first_events channel (slot_cues one channel)) (first_units one channel) places.first places.first_again n ≡ Some unit
      → IsSent (slots_in_list one channel) n unit
  first_sent =
      lane_sent (slots_for_first one two channel) (slots_in_list one channel) (first_events channel (slot_cues one channel)) (first_units one channel)
      places.first places.first_again dual.stand (firsts_sendable one channel together.formed together.ruled)
      (event_sent one channel together.formed together.ruled)

  as_many : (n : ℕ) (unit : Unit) → IsSent (slots_in_list two channel) n unit → IsSent (slots_in_list one channel) n unit
  as_many n unit = subst (λ slots. IsSent (slots_in_list two channel) n unit → IsSent slots n unit) (same_slots one two channel together.alike) (λ is. is)

  second_sent : (n : ℕ) (unit : Unit) → whole (second_events channel (slot_cues two channel)) (second_units two channel) places.second places.second_again n ≡ Some unit
      → IsSent (slots_in_list one channel) n unit
  second_sent n unit is =
      as_many n unit
      (lane_sent (slots_for_second one two channel places.first) (slots_in_list two channel) (second_events channel (slot_cues two channel)) (second_units two channel)
      places.second places.second_again dual.beside (seconds_sendable two channel together.second_formed together.second_ruled)
      (second_event_sent two channel together.second_formed together.second_ruled) n unit is)

  all_sent : (n : ℕ) (unit : Unit) → timeline n ≡ Some unit → IsSent (slots_in_list one channel) n unit
  all_sent n unit is =
      ⊎_elim (first_sent n unit) (second_sent n unit)
      (either_is (whole (first_events channel (slot_cues one channel)) (first_units one channel) places.first places.first_again n)
      (whole (second_events channel (slot_cues two channel)) (second_units two channel) places.second places.second_again n) unit is)

  pub field_doubled : IsDoubled (column timeline (slots_in_list one channel))
  field_doubled =
      together_doubled (first_events channel (slot_cues one channel)) (second_events channel (slot_cues two channel)) (first_units one channel) (second_units two channel)
      places.first places.second places.first_again places.second_again are_together (slots_in_list one channel)
      (none_due (slots_in_list one channel) timeline all_sent)

  pub field_bytes : (frame : ℕ) → IfSome (both_pair one two channel places frame) IsBytePair
  field_bytes frame = at_slot (slot_in (cadence_of one.rate channel) frame)
    where
      at_slot : (o : Option ℕ) → IfSome (option_map (slot timeline) o) IsBytePair
      at_slot None = tt
      at_slot (Some n) = slot_bytes (slots_in_list one channel) timeline all_sent n

module _ (one two : Listing) (placed : DualPlacement) (together : GoTogether one two) (is : IsDualPlaced one two placed) where
  dual_one : IsDual one two Cc1 (placed.fields One)
  dual_one = placed_dual one two together One (placed.fields One) (is.fields One)

  dual_two : IsDual one two Cc3 (placed.fields Two)
  dual_two = placed_dual one two together Two (placed.fields Two) (is.fields Two)

  dual_doubled : AreDoubledIn one.frames (dual_columns one two placed)
  dual_doubled One =
      subst IsDoubled (sym (pairs_column (cadence_of one.rate Cc1)
      (field_timeline Cc1 (slot_cues one Cc1) (slot_cues two Cc1) (placed.fields One).first (placed.fields One).second (placed.fields One).first_again (placed.fields One).second_again)
      One (dual_columns one two placed) (λ n. refl) one.frames))
      (field_doubled one two Cc1 (placed.fields One) together dual_one)
  dual_doubled Two =
      subst IsDoubled (sym (pairs_column (cadence_of one.rate Cc3)
      (field_timeline Cc3 (slot_cues one Cc3) (slot_cues two Cc3) (placed.fields Two).first (placed.fields Two).second (placed.fields Two).first_again (placed.fields Two).second_again)
      Two (dual_columns one two placed) (λ n. refl) one.frames))
      (field_doubled one two Cc3 (placed.fields Two) together dual_two)

  dual_bytes : AreBytePairs (dual_columns one two placed)
  dual_bytes One frame = field_bytes one two Cc1 (placed.fields One) together dual_one frame
  dual_bytes Two frame = field_bytes one two Cc3 (placed.fields Two) together dual_two frame

pub dual_pairs : DualPairsAreFit
dual_pairs one two placed together is = record { doubled = dual_doubled one two placed together is; pairs = dual_bytes one two placed together is }

pub dual_sound : DualFramesAreSound
dual_sound one two placed together is =
    fit_sound one.rate one.frames (dual_columns one two placed) (dual_pairs one two placed together is) (dual_blocks one two placed together is).fit
