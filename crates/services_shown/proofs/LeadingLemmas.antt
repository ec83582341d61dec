-- What a service gets by the frames of a placed list leads it as its lane does.
use Rattle.std.proofs.Common.{◌≡◌, ℕ, zero, suc, ◌≤◌, refl, sym, ap, subst, ◌∙◌, take, arith}
use Rattle.std.specs.List.{zip}
use Rattle.std.proofs.lemmas.List.{take_all}
use Rattle.line21_shown.specs.Listing.{IsFormed, Listing}
use Rattle.line21_shown.specs.Rules.{IsRuled}
use Rattle.line21_shown.specs.Lane.TheVariants.{Service}
use Rattle.dtvcc_screen.specs.Meaning.{Served, served_after, start}
use Rattle.dtvcc_screen.proofs.MeaningLemmas.{after_append}
use Rattle.windows_shown.specs.Filling.{AllFill}
use Rattle.windows_shown.specs.ServiceLanes.{Lane, lane_frame_bytes, lane_frame_events, served}
use Rattle.windows_shown.specs.Soundness.{IsSoundLane}
use Rattle.windows_shown.proofs.CaptionLanesLemmas.{lane_bytes_are, lane_sound}
use Rattle.windows_shown.proofs.FrameLemmas.{buffer_keeps, fill_append}
use Rattle.frame_carrier.specs.Carrying.{column_packets}
use Rattle.frame_carrier.specs.Planned.{Placement, captions_in, chunks_in, columns_of, service_bytes, share_in}
use Rattle.services_shown.specs.PlacedServices.{AreServicesPlaced}
use Rattle.frame_carrier.proofs.CaptionsKept.{captions_kept}
use Rattle.services_shown.specs.Told.{told}
use Rattle.services_shown.proofs.LaneLemmas.{services_told}
use Rattle.services_shown.proofs.ToldLemmas.{packets_count, told_same}
use Rattle.cc_receiver.specs.Events.{service_events}
use Rattle.windows_shown.specs.AuthoredShown.{list_lane}

-- the frames of a lane lead where it says
pub told_leads : (lane : Lane) (n : ℕ) → served_after start (told lane.rate (lane_frame_bytes lane) n) ≡ served lane n
told_leads lane zero = refl
told_leads lane (suc n) =
    after_append start (told lane.rate (lane_frame_bytes lane) n) (lane_frame_events lane n)
    ∙ ap (λ (s : Served). served_after s (lane_frame_events lane n)) (told_leads lane n)

-- and fill nothing, where it is sound
pub told_fills : (lane : Lane) (n : ℕ) → IsSoundLane lane → AllFill 127 start (told lane.rate (lane_frame_bytes lane) n)
told_fills lane zero sound = tt
told_fills lane (suc n) sound =
    fill_append start (told lane.rate (lane_frame_bytes lane) n) (lane_frame_events lane n) (told_fills lane n sound)
    (subst (λ (s : Served). AllFill 127 s (lane_frame_events lane n)) (sym (told_leads lane n)) (buffer_keeps lane sound n))

-- a service is sent the bytes of its lane
pub lane_told : (list : Listing) (placed : Placement) (service n : ℕ)
    → told list.rate (service_bytes list service (placed (Service service))) n ≡ told list.rate (lane_frame_bytes (list_lane list service (placed (Service service)))) n
lane_told list placed service n =
    told_same list.rate (service_bytes list service (placed (Service service))) (lane_frame_bytes (list_lane list service (placed (Service service))))
    (λ frame. sym (lane_bytes_are list.rate (captions_in list service) (zip (chunks_in list service) (placed (Service service))) frame)) n

-- and in the first frames of a placed list it gets just those
pub front_told : (list : Listing) (placed : Placement) (service k : ℕ) → IsFormed list → IsRuled list → AreServicesPlaced list placed → k ≤ list.frames
    → service_events service (take k (column_packets list.rate (columns_of list placed) 0 list.frames))
    ≡ told list.rate (lane_frame_bytes (list_lane list service (placed (Service service)))) k
front_told list placed service k formed ruled is below =
    services_told list placed formed ruled is service k below ∙ lane_told list placed service k

pub whole_told : (list : Listing) (placed : Placement) (service : ℕ) → IsFormed list → IsRuled list → AreServicesPlaced list placed
    → service_events service (column_packets list.rate (columns_of list placed) 0 list.frames)
    ≡ told list.rate (lane_frame_bytes (list_lane list service (placed (Service service)))) list.frames
whole_told list placed service formed ruled is =
    let count = packets_count list.rate (columns_of list placed) 0 list.frames in
    ap (service_events service) (sym (take_all list.frames (column_packets list.rate (columns_of list placed) 0 list.frames) (omega (arith, count))))
    ∙ front_told list placed service list.frames formed ruled is (omega arith)

-- the lane of a service of a placed list is sound
pub lane_is_sound : (list : Listing) (placed : Placement) (service : ℕ) → IsFormed list → IsRuled list → AreServicesPlaced list placed
    → IsSoundLane (list_lane list service (placed (Service service)))
lane_is_sound list placed service formed ruled is =
    lane_sound list.rate (share_in list service) service list.frames list.cues (placed (Service service)) formed.cues
    (captions_kept list service formed ruled) (is service).placed
