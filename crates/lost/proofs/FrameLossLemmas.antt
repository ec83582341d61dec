-- What is authored is seen again after frames that are lost: what a concealing receiver hears of each field and service is what the list
-- sends it in the frames after the loss.
use Rattle.std.proofs.Common.{◌≡◌, ◌∙◌, ℕ, zero, suc, ◌+◌, ◌<◌, ◌⊎◌, inl, inr, List, [], ◌∷◌, ◌++◌, map, reverse, refl, sym, ap, subst, arith}
use Rattle.std.specs.Prelude.{option_to_list}
use Rattle.std.specs.List.{range_with_len, zip}
use Rattle.line21_codes.specs.declared.channels.FieldNumber.{FieldNumber}
use Rattle.line21_codes.specs.declared.pairs.Pair.{Pair}
use Rattle.cue_lists.specs.AuthoredGrid.{IsSettled, authored_grid, blank, shown_by, shown_of_newest}
use Rattle.cue_lists.specs.Listing.{IsFormed, Listing}
use Rattle.cue_lists.specs.declared.cue.Cue.{Cue}
use Rattle.line21_screen.specs.Fields.{FieldState}
use Rattle.cue_lists.specs.Rules.{IsRuled}
use Rattle.cue_lists.specs.declared.lane.Lane.TheVariants.{Service}
use Rattle.line21_screen.specs.Meaning.{after}
use Rattle.cdp_packets.specs.Packets.{Frame}
use Rattle.words_files.specs.Received.{received_pairs}
use Rattle.dtvcc_screen.specs.Meaning.{Byte, Event, Served, Tick, served_after as after_events, start}
use Rattle.dtvcc_screen.specs.Shown.{grids}
use Rattle.services_files.specs.Events.{service_events}
use Rattle.cue_lists.specs.AuthoredServiceGrid.{authored_windows}
use Rattle.frame_carrier.specs.Columns.{Columns, first_pairs, pair_in}
use Rattle.frame_carrier.specs.Planned.{IsListPlaced, Placement, authored_channel, captions_in, chunks_in, columns_of, share_in}
use Rattle.frame_carrier.specs.Carrying.{column_packets}
use Rattle.services_shown.specs.PlacedServices.{AreServicesPlaced}
use Rattle.services_shown.specs.Told.{sent_to, told, told_since}
use Rattle.services_shown.proofs.LaneLemmas.{lane_sent}
use Rattle.services_shown.proofs.RoomLemmas.{has_blocks}
use Rattle.services_shown.proofs.ToldLemmas.{since_told}
use Rattle.services_shown.proofs.LeadingLemmas.{told_leads}
use Rattle.windows_shown.specs.ServiceLanes.{Lane, lane_frame_bytes, lane_frame_events}
use Rattle.windows_shown.proofs.CaptionLanesLemmas.{lane_bytes_are}
use Rattle.windows_shown.specs.AuthoredShown.{list_lane}
use Rattle.windows_shown.proofs.ShownLemmas.{windows_are_shown}
use Rattle.lost.specs.WindowLoss.{IsServiceBack, lane_events_since}
use Rattle.lost.proofs.WindowLossLemmas.{service_loss_recovered}
use Rattle.line21_shown.specs.Shown.{ShowsField}
use Rattle.line21_shown.proofs.SequenceLemmas.{authored_seen}
use Rattle.lost.specs.ChannelLoss.{pairs_between, state_from}
use Rattle.lost.proofs.ChannelLossLemmas.{seen_again, silent_blank}
use Rattle.lost.proofs.LastLemmas.{last_lost_found}
use Rattle.cc_conceal.specs.Concealed.{concealed, concealed_field, concealed_windows, heard_of}
use Rattle.lost.specs.Delivered.{AreDelivered, HoldsOfLastLost, IsLastLost, NoneIsLost, delivered_packets}
use Rattle.lost.specs.Recovered.{IsChannelBack, IsChannelInStep, IsServiceInStep, LossIsRecovered}
use Rattle.lost.proofs.DeliveredLemmas.{hears_all, hears_behind}
use Rattle.lost.proofs.PairLemmas.{between_plain, pairs_since}
use Rattle.lost.proofs.WordsLemmas.{list_carried}

module _ (list : Listing) (placed : Placement) (formed : IsFormed list) (ruled : IsRuled list) (is : IsListPlaced list placed) (came : List ℕ) where
  abbrev columns : Columns
  columns = columns_of list placed

  abbrev services : AreServicesPlaced list placed
  services service = is (Service service)

  abbrev packets : List Frame
  packets = delivered_packets list placed came

  -- the pairs of the frames that are heard are the list's
  pairs_heard : (in_field : FieldNumber) (since count : ℕ) → heard_of packets ≡ column_packets list.rate columns since count
      → map concealed (received_pairs in_field (heard_of packets)) ≡ pairs_between in_field columns since count
  pairs_heard in_field since count heard =
      ap (λ (frames : List Frame). map concealed (received_pairs in_field frames)) heard
      ∙ ap (map concealed) (pairs_since list.rate columns list.frames (list_carried list placed formed ruled is) in_field since count)
      ∙ between_plain list placed formed in_field since count

  -- and what a service gets in them is what its lane sends
  lane_since : (service since count : ℕ)
      → told_since list.rate (λ frame. sent_to service (has_blocks list placed formed ruled services frame).sent) since count
      ≡ lane_events_since (list_lane list service (placed (Service service))) since count
  lane_since service since zero = refl
  lane_since service since (suc count) =
      let last : ℕ = since + count in
      let lane : Lane = list_lane list service (placed (Service service)) in
      ap (λ (es : List Event). es ++ (Tick list.rate ∷ map Byte (sent_to service (has_blocks list placed formed ruled services last).sent)))
      (lane_since service since count)
      ∙ ap (λ (bytes : List ℕ). lane_events_since lane since count ++ (Tick list.rate ∷ map Byte bytes))
      (lane_sent list placed formed ruled services service last
      ∙ sym (lane_bytes_are list.rate (captions_in list service) (zip (chunks_in list service) (placed (Service service))) last))

  events_heard : (service since count : ℕ) → heard_of packets ≡ column_packets list.rate columns since count
      → service_events service (heard_of packets) ≡ lane_events_since (list_lane list service (placed (Service service))) since count
  events_heard service since count heard =
      ap (service_events service) heard
      ∙ since_told list.rate columns (has_blocks list placed formed ruled services) service since count
      ∙ lane_since service since count

  -- after a loss
  field_heard : (in_field : FieldNumber) (since count : ℕ) → heard_of packets ≡ column_packets list.rate columns since count
      → concealed_field in_field packets ≡ state_from in_field columns since count
  field_heard in_field since count heard = ap (λ (pairs : List Pair). after in_field (reverse pairs)) (pairs_heard in_field since count heard)

  field_behind : (frame lost : ℕ) (in_field : FieldNumber) → AreDelivered came → (last : IsLastLost came lost frame)
      → concealed_field in_field packets ≡ state_from in_field columns (suc lost) (suc last.count)
  field_behind frame lost in_field delivered last =
      field_heard in_field (suc lost) (suc last.count) (hears_behind list.rate columns came lost frame delivered last)

  field_again : (frame : ℕ) (in_field : FieldNumber) → AreDelivered came
      → (by : HoldsOfLastLost came frame (IsChannelBack (authored_channel in_field) list.cues frame)) → IsSettled (authored_channel in_field) list.cues frame
      → (concealed_field in_field packets).first.displayed ≡ authored_grid (authored_channel in_field) list.cues frame
  field_again frame in_field delivered by settled =
      ap (λ (s : FieldState). s.first.displayed) (field_behind frame by.lost in_field delivered by.last) ∙ back by.holds
    where
      back : IsChannelBack (authored_channel in_field) list.cues frame by.lost
          → (state_from in_field columns (suc by.lost) (suc by.last.count)).first.displayed ≡ authored_grid (authored_channel in_field) list.cues frame
      back (inl none) =
          (silent_blank list placed formed ruled is in_field (suc by.lost) (suc by.last.count)).own none
          ∙ sym (ap (λ (cues : List Cue). shown_of_newest frame (shown_by frame (reverse cues))) none)
      back (inr again) =
          let up_to = by.last.up_to in
          seen_again list placed formed ruled is in_field by.lost (suc by.last.count) frame again.0 (omega arith) again.1 again.2 settled

  service_again : (frame service id : ℕ) → id < 8 → AreDelivered came → HoldsOfLastLost came frame (IsServiceBack list service frame)
      → concealed_windows packets service id ≡ authored_windows service list.cues frame id
  service_again frame service id small delivered by =
      ap (λ (es : List Event). grids (after_events start es).core.screen id)
      (events_heard service (suc by.lost) (suc by.last.count) (hears_behind list.rate columns came by.lost frame delivered by.last))
      ∙ service_loss_recovered list service (placed (Service service)) formed ruled (services service).placed start.clock by.lost by.last.count frame id
      by.last.up_to by.holds small

  -- where none is lost
  all_heard : (frame : ℕ) → came ≡ range_with_len 0 (suc frame) → heard_of packets ≡ column_packets list.rate columns 0 (suc frame)
  all_heard frame none = ap (λ (ks : List ℕ). heard_of (delivered_packets list placed ks)) none ∙ hears_all list.rate columns frame

  first_is : (in_field : FieldNumber) (count : ℕ) → pairs_between in_field columns 0 count ≡ first_pairs in_field columns count
  first_is in_field zero = refl
  first_is in_field (suc count) =
      let same : 0 + count ≡ count = omega arith in
      ap (λ (pairs : List Pair). pairs ++ option_to_list (pair_in in_field (columns (0 + count)))) (first_is in_field count)
      ∙ ap (λ (n : ℕ). first_pairs in_field columns count ++ option_to_list (pair_in in_field (columns n))) same

  field_whole : (frame : ℕ) (in_field : FieldNumber) → came ≡ range_with_len 0 (suc frame)
      → ShowsField (concealed_field in_field packets) (authored_channel in_field) list.cues frame
  field_whole frame in_field none =
      subst (λ (pairs : List Pair). ShowsField (after in_field (reverse pairs)) (authored_channel in_field) list.cues frame)
      (sym (pairs_heard in_field 0 (suc frame) (all_heard frame none) ∙ first_is in_field (suc frame)))
      (authored_seen list placed formed ruled is frame in_field)

  told_whole : (lane : Lane) (count : ℕ) → lane_events_since lane 0 count ≡ told lane.rate (lane_frame_bytes lane) count
  told_whole lane zero = refl
  told_whole lane (suc count) =
      let same : 0 + count ≡ count = omega arith in
      ap (λ (es : List Event). es ++ lane_frame_events lane (0 + count)) (told_whole lane count)
      ∙ ap (λ (n : ℕ). told lane.rate (lane_frame_bytes lane) count ++ lane_frame_events lane n) same

  service_whole : (frame service id : ℕ) → id < 8 → came ≡ range_with_len 0 (suc frame)
      → concealed_windows packets service id ≡ authored_windows service list.cues frame id
  service_whole frame service id small none =
      let lane : Lane = list_lane list service (placed (Service service)) in
      ap (λ (es : List Event). grids (after_events start es).core.screen id)
      (events_heard service 0 (suc frame) (all_heard frame none) ∙ told_whole lane (suc frame))
      ∙ ap (λ (s : Served). grids s.core.screen id) (told_leads lane (suc frame))
      ∙ windows_are_shown list (share_in list service) service (placed (Service service)) formed ruled (services service).placed frame id small

  -- either way
  first_recovered : (frame : ℕ) (in_field : FieldNumber) → AreDelivered came → IsChannelInStep list (authored_channel in_field) came frame
      → IsSettled (authored_channel in_field) list.cues frame → (concealed_field in_field packets).first.displayed ≡ authored_grid (authored_channel in_field) list.cues frame
  first_recovered frame in_field delivered (inl none) settled = (field_whole frame in_field none).first settled
  first_recovered frame in_field delivered (inr by) settled = field_again frame in_field delivered by settled

  second_blank : (frame : ℕ) (in_field : FieldNumber) → AreDelivered came → NoneIsLost came frame ⊎ ((lost : ℕ) × IsLastLost came lost frame)
      → (concealed_field in_field packets).second.displayed ≡ blank
  second_blank frame in_field delivered (inl none) = (field_whole frame in_field none).second
  second_blank frame in_field delivered (inr (lost, last)) =
      ap (λ (s : FieldState). s.second.displayed) (field_behind frame lost in_field delivered last)
      ∙ (silent_blank list placed formed ruled is in_field (suc lost) (suc last.count)).other

  service_recovered : (frame service id : ℕ) → id < 8 → AreDelivered came → IsServiceInStep list service came frame
      → concealed_windows packets service id ≡ authored_windows service list.cues frame id
  service_recovered frame service id small delivered (inl none) = service_whole frame service id small none
  service_recovered frame service id small delivered (inr by) = service_again frame service id small delivered by

pub loss_recovered : LossIsRecovered
loss_recovered list placed formed ruled is earlier frame delivered =
    let came : List ℕ = earlier ++ frame ∷ [] in (
      λ in_field. record {
        first = first_recovered list placed formed ruled is came frame in_field delivered;
        second = second_blank list placed formed ruled is came frame in_field delivered (last_lost_found earlier frame delivered);
      },
      λ service id small step. service_recovered list placed formed ruled is came frame service id small delivered step,
    )
