-- What a viewer sees of the frames of two cue lists.
use Rattle.std.proofs.Common.{◌≡◌, ℕ, zero, suc, List, [], reverse, refl, sym, ap, ◌∙◌, subst}
use Rattle.line21_codes.specs.declared.channels.Chan.{Chan}
use Rattle.line21_codes.specs.declared.channels.FieldNumber.{FieldNumber}
use Rattle.line21_codes.specs.declared.pairs.Pair.{Pair}
use Rattle.line21_codes.specs.Channels.{field_of_channel}
use Rattle.line21_screen.specs.Channels.{new_channel}
use Rattle.line21_screen.specs.Fields.{FieldState}
use Rattle.line21_screen.specs.Meaning.{after}
use Rattle.line21_screen.proofs.MeaningLemmas.{after-none}
use Rattle.cue_lists.specs.Listing.{Listing}
use Rattle.cue_lists.specs.Cadences.{cadence_of, slot_from}
use Rattle.line21_author.specs.Channels.{cues_on}
use Rattle.line21_author.proofs.SlotSequenceLemmas.{AreInSlots}
use Rattle.line21_shown.specs.SlotLists.{slot_cues, slots_in_list}
use Rattle.lanes.specs.Timeline.{Timeline, slot}
use Rattle.line21_shown.proofs.ListDoublingLemmas.{pairs_column}
use Rattle.line21_shown.proofs.SlotLemmas.{slot_cues_formed, slot_sequence}
use Rattle.line21_shown.specs.Reading.{pairs_before}
use Rattle.line21_shown.specs.Shown.{state_at}
use Rattle.line21_shown.proofs.SequenceLemmas.{newest_pairs}
use Rattle.line21_shown.proofs.SlotGridLemmas.{grid_before_slots, grid_in_slots, settled_in_slots}
use Rattle.dual_fields.specs.Dual.{BothAreSeen, IsDual, Places, ShowsBoth}
use Rattle.dual_fields.specs.Seen.{field_timeline}
use Rattle.dual_fields.proofs.SeenLemmas.{IsShared, field_seen}
use Rattle.cue_lists.proofs.RulesSaid.{lanes_ruled}

module _ (first second : Listing) (of_list : Chan) (places : Places) (is : IsDual first second of_list places) where
  same_cadence : cadence_of second.rate of_list ≡ cadence_of first.rate of_list
  same_cadence = ap (λ r. cadence_of r of_list) is.rate

  same_slots : slots_in_list second of_list ≡ slots_in_list first of_list
  same_slots = ap (λ r. slot_from (cadence_of r of_list) second.frames) is.rate ∙ ap (slot_from (cadence_of first.rate of_list)) is.frames

  shared : IsShared of_list (slots_in_list first of_list) (slot_cues first of_list) (slot_cues second of_list) places.first places.second places.first_again places.second_again
  shared = record {
    formed = slot_cues_formed first is.formed of_list;
    others_formed = slot_cues_formed second is.second_formed of_list;
    sequence = slot_sequence first is.ruled of_list;
    others_sequence = subst (λ n. AreInSlots n (cues_on of_list (slot_cues second of_list))) same_slots (slot_sequence second is.second_ruled of_list);
    clash = is.clash;
    stand = is.stand;
    beside = is.beside;
  }

  abbrev t : Timeline
  t = field_timeline of_list (slot_cues first of_list) (slot_cues second of_list) places.first places.second places.first_again places.second_again

  -- before the first slot nothing is shown
  none_yet : (f : FieldNumber) → ((after f []).first.displayed ≡ new_channel.displayed) × ((after f []).second.displayed ≡ new_channel.displayed)
  none_yet f =
      let e = after-none f new_channel new_channel refl refl in
      (ap (λ (s : FieldState). s.first.displayed) (sym e), ap (λ (s : FieldState). s.second.displayed) (sym e))

  -- after this many slots
  by_slots : (frame m : ℕ) → slot_from (cadence_of first.rate of_list) (suc frame) ≡ m → ShowsBoth first second of_list (after (field_of_channel of_list) (pairs_before (slot t) m)) frame
  by_slots frame zero come = record {
    first_shown = λ settled. (none_yet (field_of_channel of_list)).0 ∙ sym (grid_before_slots (cadence_of first.rate of_list) frame come of_list first.cues ((lanes_ruled first is.ruled).on_slots of_list));
    second_shown = λ settled. (none_yet (field_of_channel of_list)).1
        ∙ sym (grid_before_slots (cadence_of second.rate of_list) frame (ap (λ c. slot_from c (suc frame)) same_cadence ∙ come) of_list second.cues ((lanes_ruled second is.second_ruled).on_slots of_list));
  }
  by_slots frame (suc k) come =
      let shows = field_seen of_list (slots_in_list first of_list) (slot_cues first of_list) (slot_cues second of_list) places.first places.second places.first_again places.second_again shared k in
      let come2 : slot_from (cadence_of second.rate of_list) (suc frame) ≡ suc k = ap (λ c. slot_from c (suc frame)) same_cadence ∙ come in
      record {
        first_shown = λ settled.
            shows.first (settled_in_slots (cadence_of first.rate of_list) frame k come of_list first.cues ((lanes_ruled first is.ruled).on_slots of_list) settled)
            ∙ grid_in_slots (cadence_of first.rate of_list) frame k come of_list first.cues ((lanes_ruled first is.ruled).on_slots of_list);
        second_shown = λ settled.
            shows.second (settled_in_slots (cadence_of second.rate of_list) frame k come2 of_list second.cues ((lanes_ruled second is.second_ruled).on_slots of_list) settled)
            ∙ grid_in_slots (cadence_of second.rate of_list) frame k come2 of_list second.cues ((lanes_ruled second is.second_ruled).on_slots of_list);
      }

pub both_seen : BothAreSeen
both_seen first second of_list places columns is have frame =
    let t = field_timeline of_list (slot_cues first of_list) (slot_cues second of_list) places.first places.second places.first_again places.second_again in
    let m = slot_from (cadence_of first.rate of_list) (suc frame) in
    let state : state_at (field_of_channel of_list) columns frame ≡ after (field_of_channel of_list) (pairs_before (slot t) m) =
    ap (λ (l : List Pair). after (field_of_channel of_list) (reverse l)) (pairs_column (cadence_of first.rate of_list) t (field_of_channel of_list) columns have (suc frame))
    ∙ ap (after (field_of_channel of_list)) (newest_pairs t m) in
    subst (λ (s : FieldState). ShowsBoth first second of_list s frame) (sym state) (by_slots first second of_list places is frame m refl)
