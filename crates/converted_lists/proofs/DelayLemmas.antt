-- What the frames of a placed list tell a service is a good stream, where delays have at most 166 tenths.
use Rattle.std.proofs.Common.{◌≡◌, ℕ, zero, suc, ◌≤◌, ◌==◌, Bool, true, false, if◌then◌else◌, List, [], ◌∷◌, ◌++◌, Some, None, All, take, refl, sym, ap, subst, inl, inr}
use Rattle.std.specs.List.{cons_option}
use Rattle.std.proofs.lemmas.List.Elements.{All-head, All-tail}
use Rattle.cc_base.specs.declared.rate.Rate.{Rate}
use Rattle.cc_base.specs.declared.rate.Rate.TheVariants.{F2997}
use Rattle.rate_convert.specs.ReceivedServices.{received_windows}
use Rattle.cdp_packets.specs.Packets.{Frame}
use Rattle.cue_lists.specs.Listing.{IsFormed, Listing}
use Rattle.cue_lists.specs.Rules.{IsRuled}
use Rattle.cue_lists.specs.declared.cue.Cue.{Cue}
use Rattle.cue_lists.specs.declared.cue.Kind.{Kind}
use Rattle.cue_lists.specs.declared.cue.Kind.TheVariants.{Pop, Paint, Roll, Win}
use Rattle.cue_lists.specs.declared.cue.WinCue.{WinCue}
use Rattle.cue_lists.specs.declared.lane.Lane.TheVariants.{Service}
use Rattle.dtvcc_author.specs.Captions.{caption_with, service_captions, window_caption}
use Rattle.dtvcc_author.specs.declared.caption.Caption.{Caption}
use Rattle.dtvcc_author.specs.declared.frame_events.Delay.{Delay}
use Rattle.dtvcc_author.proofs.LatestLemmas.{Has}
use Rattle.dtvcc_screen.specs.Meaning.{Event, start}
use Rattle.services_shown.specs.ServiceLanes.{Lane, lane_frame_bytes, lane_frame_events}
use Rattle.services_shown.proofs.CaptionLanesLemmas.{starting}
use Rattle.services_shown.specs.Carrying.{column_packets}
use Rattle.frame_carrier.specs.Planned.{Placement, columns_of}
use Rattle.rate_convert.specs.HalvedFrames.{AllHalves}
use Rattle.services_shown.specs.PlacedServices.{AreServicesPlaced}
use Rattle.services_shown.specs.Told.{told}
use Rattle.services_shown.proofs.LeadingLemmas.{front_told, lane_is_sound, told_fills}
use Rattle.services_shown.specs.AuthoredShown.{list_lane}
use Rattle.converted_lists.specs.SoundLanes.{lane_events}
use Rattle.rate_convert.specs.GoodStreams.{IsGoodStream}
use Rattle.rate_convert.specs.HalvedServices.{AreGood}
use Rattle.converted_lists.proofs.GoodStreamLemmas.{streams_good}
use Rattle.converted_lists.proofs.SoundLaneLemmas.{lanes_good}
use Rattle.converted_lists.specs.ConvertedLists.{HasShortDelay}
use Rattle.rate_convert.proofs.DelayedLemmas.{delayed_same}

captions_few : (r : Rate) (service : ℕ) (cues : List Cue) → All HasShortDelay cues → (c : Caption) → Has c (service_captions r service cues) → c.tenths ≤ 166
captions_few r service [] few c has = absurd has
captions_few r service (cue ∷ cues) few c has =
    at cue.kind refl (captions_few r service cues (All-tail HasShortDelay cue cues few) c) has
  where
    more : (w : WinCue) (b : Bool) → w.delay ≤ 166 → (Has c (service_captions r service cues) → c.tenths ≤ 166)
        → Has c (cons_option (if b then Some (window_caption r w cue) else None) (service_captions r service cues)) → c.tenths ≤ 166
    more w true short rest (inl is) = subst (λ (x : Caption). x.tenths ≤ 166) (sym is) short
    more w true short rest (inr later) = rest later
    more w false short rest later = rest later

    at : (k : Kind) → cue.kind ≡ k → (Has c (service_captions r service cues) → c.tenths ≤ 166)
        → Has c (cons_option (caption_with r service k cue) (service_captions r service cues)) → c.tenths ≤ 166
    at (Pop channel) is rest later = rest later
    at (Paint channel) is rest later = rest later
    at (Roll channel rows) is rest later = rest later
    at (Win w) is rest later = more w (w.service == service) (All-head HasShortDelay cue cues few w is) rest later

told_lane : (lane : Lane) (n : ℕ) → told lane.rate (lane_frame_bytes lane) n ≡ lane_events lane n
told_lane lane zero = refl
told_lane lane (suc n) = ap (λ (es : List Event). es ++ lane_frame_events lane n) (told_lane lane n)

pub halves_same : (list : Listing) (placed : Placement) → IsFormed list → IsRuled list → AreServicesPlaced list placed → list.rate ≡ F2997 → All HasShortDelay list.cues
    → (k : ℕ) → k ≤ list.frames → (others : List Frame) → AllHalves (take k (column_packets list.rate (columns_of list placed) 0 list.frames)) others
    → (service id : ℕ) → received_windows others service id ≡ received_windows (take k (column_packets list.rate (columns_of list placed) 0 list.frames)) service id
halves_same list placed formed ruled is rate few k below others all service id =
    let lane : Lane = list_lane list service (placed (Service service)) in
    let sound = lane_is_sound list placed service formed ruled is in
    let told_are = front_told list placed service k formed ruled is below in
    let short : (frame : ℕ) (delay : Delay) → lane.delay frame ≡ Some delay → delay.tenths ≤ 166 =
    λ frame delay starts.
    let s = starting (service_captions list.rate service list.cues) frame delay starts in
    subst (λ (d : Delay). d.tenths ≤ 166) (sym s.is) (captions_few list.rate service list.cues few s.caption s.has) in
    let stream : IsGoodStream [] (told lane.rate (lane_frame_bytes lane) k) =
    subst (λ (es : List Event). IsGoodStream [] es) (sym (told_lane lane k)) (lanes_good lane sound rate short k) in
    delayed_same (take k (column_packets list.rate (columns_of list placed) 0 list.frames)) others all service id
    (subst (λ (es : List Event). IsGoodStream [] es) (sym told_are) stream)
    (subst (λ (es : List Event). AreGood start es) (sym told_are) (streams_good (told lane.rate (lane_frame_bytes lane) k) stream (told_fills lane k sound)))
