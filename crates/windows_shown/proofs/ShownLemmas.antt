-- A service that is sent the captions of its cues, wherever its lane allows their units to stand, shows the authored windows; and so
-- does one of which nothing is heard before a frame, from where each caption that is up was loaded since.
use Rattle.std.proofs.Common.{◌≡◌, ◌∙◌, ℕ, suc, ◌<◌, ◌≤◌, nat_lt, inl, inr, Bool, true, false, List, [], ◌∷◌, Some, None, refl, sym, ap, subst, arith}
use Rattle.std.proofs.lemmas.Bool.Decides.{nat_tests}
use Rattle.std.specs.Prelude.{option_map}
use Rattle.std.specs.List.{zip}
use Rattle.cc_base.specs.declared.rate.Rate.{Rate}
use Rattle.cue_types.specs.Listing.{IsFormed, Listing}
use Rattle.frame_scheduler.specs.Rules.{IsRuled}
use Rattle.dtvcc_windows.specs.Showing.{shown}
use Rattle.dtvcc_screen.specs.Meaning.{Served}
use Rattle.dtvcc_screen.specs.Screens.{ScreenState}
use Rattle.dtvcc_screen.specs.Shown.{grids}
use Rattle.frame_scheduler.specs.AuthoredServiceGrid.{authored_windows}
use Rattle.dtvcc_author.specs.declared.caption.Caption.{Caption}
use Rattle.dtvcc_author.specs.declared.frame_events.Delay.{Delay}
use Rattle.dtvcc_author.specs.Captions.{service_captions}
use Rattle.dtvcc_author.specs.FrameEvents.{delayed_at}
use Rattle.dtvcc_author.specs.Kept.{AreKept}
use Rattle.dtvcc_author.specs.Latest.{caption_delay}
use Rattle.dtvcc_author.proofs.LatestLemmas.{Has}
use Rattle.frame_scheduler.specs.Placing.{IsPlaced}
use Rattle.frame_scheduler.specs.Chunks.{ServiceChunk}
use Rattle.frame_scheduler.specs.ServiceChunks.{service_chunks}
use Rattle.frame_scheduler.specs.ServiceRoom.{caption_lane}
use Rattle.frame_scheduler.proofs.CaptionsKept.{captions_kept}
use Rattle.windows_shown.proofs.AuthoredLemmas.{list_as_authored}
use Rattle.windows_shown.specs.CaptionLanes.{lane_of, plain_events}
use Rattle.windows_shown.specs.ServiceLanes.{IsInDelay, IsOutside, Lane, served}
use Rattle.windows_shown.specs.Soundness.{IsSoundLane}
use Rattle.windows_shown.specs.Undelayed.{acted_on, undelayed}
use Rattle.windows_shown.proofs.CaptionLanesLemmas.{lane_sound, starting}
use Rattle.windows_shown.proofs.FrameLemmas.{shows_opened, shows_undelayed}
use Rattle.windows_shown.proofs.ByteLemmas.{AreLoads, events_act, undelayed_is}
use Rattle.windows_shown.proofs.CaptionLoads.{AreInOrder, Among, CaptionLoad, captions}
use Rattle.windows_shown.proofs.CueLemmas.{loads_of, placed_timely}
use Rattle.windows_shown.proofs.HeardLaneLemmas.{heard_lane, heard_sound, whole_served}
use Rattle.windows_shown.proofs.MemberLemmas.{delay_holds, delayed_is}
use Rattle.windows_shown.proofs.SeenLemmas.{Delaying, IsDelaying, IsSeen, is_delaying, seen_by_all, seen_outside, seen_within}
use Rattle.windows_shown.proofs.WindowLemmas.{opening, screen_from}

-- a caption of the list has what loads it
load_of : (gs : List CaptionLoad) (c : Caption) → Has c (captions gs) → (g : CaptionLoad) × Among g gs × (g.caption ≡ c)
load_of [] c has = absurd has
load_of (g ∷ gs) c (inl same) = (g, inl refl, sym same)
load_of (g ∷ gs) c (inr has) = let rest = load_of gs c has in (rest.0, inr rest.1, rest.2)

module _ (since : ℕ) (rate : Rate) (frames : ℕ) (gs : List CaptionLoad) (placed : List (ServiceChunk × ℕ)) (kept : AreKept rate frames (captions gs))
    (order : AreInOrder gs) (loads : AreLoads placed gs) (sound : IsSoundLane (lane_of rate (captions gs) placed)) where
  abbrev whole_lane : Lane
  whole_lane = lane_of rate (captions gs) placed

  abbrev lane : Lane
  lane = heard_lane since whole_lane

  sound_heard : IsSoundLane lane
  sound_heard = heard_sound since whole_lane sound

  -- before a frame in which a caption's delay is on
  seen_in_delay : (frame id : ℕ) → id < 8 → (d : CaptionLoad) → Among d gs → IsDelaying since (suc frame) d
      → IsSeen since gs id frame (grids (served lane (suc frame)).core.screen id)
  seen_in_delay frame id small d among on =
      let start : ℕ = d.caption.starts in
      let low = on.heard in
      let test : nat_lt start since ≡ false = grind (arith, nat_tests) in
      let there : option_map caption_delay (delayed_at start (captions gs)) ≡ Some (caption_delay d.caption) =
      ap (option_map caption_delay) (delayed_is rate frames start gs d kept among (delay_holds start d.caption on.some refl)) in
      let starts : lane.delay start ≡ Some (caption_delay d.caption) = rw test there in
      let is_on : IsInDelay lane start (caption_delay d.caption) (suc frame) = record { starts = starts; from = on.from; to = on.to } in
      let events : lane.events start ≡ plain_events start (captions gs) = rw test refl in
      let screen : (served lane (suc frame)).core.screen ≡ opening start gs (screen_from since gs start) =
      shows_opened lane sound_heard start (suc frame) (caption_delay d.caption) is_on
      ∙ ap (λ (bytes : List ℕ). acted_on bytes (undelayed lane start)) events
      ∙ ap (acted_on (plain_events start (captions gs))) (undelayed_is since rate placed gs loads start)
      ∙ events_act start gs (screen_from since gs start) in
      subst (λ (s : ScreenState). IsSeen since gs id frame (shown (s.windows id))) (sym screen)
      (seen_within rate frames gs kept order since frame id small d among on)

  -- before one in which none is
  outside : (frame : ℕ) → ((g : CaptionLoad) → Among g gs → IsDelaying since frame g → ⊥) → IsOutside lane frame
  outside frame none start delay on = by_test (nat_lt start since) refl
    where
      at : since ≤ start → (c : Caption) → (g : CaptionLoad) × Among g gs × (g.caption ≡ c) → 0 < c.tenths → c.starts ≡ start → delay.ends ≡ c.show
          → IsInDelay lane start delay frame → ⊥
      at low c (g, among, same) some starts ends is_on =
          let from = is_on.from in
          let to = is_on.to in
          let tenths : g.caption.tenths ≡ c.tenths = ap (λ (d : Caption). d.tenths) same in
          let begins : g.caption.starts ≡ c.starts = ap (λ (d : Caption). d.starts) same in
          let shows : g.caption.show ≡ c.show = ap (λ (d : Caption). d.show) same in
          none g among (record { heard = omega arith; some = omega arith; from = omega arith; to = omega arith })

      by_test : (b : Bool) → nat_lt start since ≡ b → ⊥
      by_test true test = let wrong : None ≡ Some delay = sym (rw test refl) ∙ on.starts in cc
      by_test false test =
          let there : option_map caption_delay (delayed_at start (captions gs)) ≡ Some delay = sym (rw test refl) ∙ on.starts in
          let s = starting (captions gs) start delay there in
          at (grind (arith, nat_tests)) s.caption (load_of gs s.caption s.has) s.tenths s.starts (ap (λ (d : Delay). d.ends) s.is) on

  seen_clear : (frame id : ℕ) → since ≤ frame → id < 8 → ((g : CaptionLoad) → Among g gs → IsDelaying since (suc frame) g → ⊥)
      → IsSeen since gs id frame (grids (served lane (suc frame)).core.screen id)
  seen_clear frame id low small none =
      let screen : (served lane (suc frame)).core.screen ≡ screen_from since gs (suc frame) =
      shows_undelayed lane sound_heard (suc frame) (outside (suc frame) none) ∙ undelayed_is since rate placed gs loads (suc frame) in
      subst (λ (s : ScreenState). IsSeen since gs id frame (shown (s.windows id))) (sym screen)
      (seen_outside rate frames gs kept order since frame id low small none)

  -- so at every frame from there on
  pub seen_at : (frame id : ℕ) → since ≤ frame → id < 8 → IsSeen since gs id frame (grids (served lane (suc frame)).core.screen id)
  seen_at frame id low small = at (is_delaying since (suc frame) gs)
    where
      at : Delaying since (suc frame) gs → IsSeen since gs id frame (grids (served lane (suc frame)).core.screen id)
      at (inl (d, among, on)) = seen_in_delay frame id small d among on
      at (inr none) = seen_clear frame id low small none

-- the windows of a service of which nothing is heard before a frame, once each caption that is up was loaded since
pub windows_are_heard : (list : Listing) (share service since : ℕ) (placed : List ℕ) → IsFormed list → IsRuled list
    → IsPlaced (caption_lane share (service_captions list.rate service list.cues)) [] (service_chunks list.rate service list.cues) placed
    → (frame id : ℕ) → since ≤ frame → id < 8
    → ((c : Caption) → Has c (service_captions list.rate service list.cues) → frame < c.hide → since ≤ c.load)
    → grids (served (heard_lane since (lane_of list.rate (service_captions list.rate service list.cues) (zip (service_chunks list.rate service list.cues) placed))) (suc frame)).core.screen id
    ≡ authored_windows service list.cues frame id
windows_are_heard list share service since placed formed ruled is frame id low small up =
    let cs : List Caption = service_captions list.rate service list.cues in
    let chunks : List ServiceChunk = service_chunks list.rate service list.cues in
    let kept = captions_kept list service formed ruled in
    let sound = lane_sound list.rate share service list.frames list.cues placed formed.cues kept is in
    let all = loads_of list.rate service 1 list.cues placed formed.cues (list_as_authored list formed ruled) (placed_timely share cs [] chunks placed is) in
    subst (λ (more : List Caption). AreKept list.rate list.frames more → IsSoundLane (lane_of list.rate more (zip chunks placed))
    → ((c : Caption) → Has c more → frame < c.hide → since ≤ c.load)
    → grids (served (heard_lane since (lane_of list.rate more (zip chunks placed))) (suc frame)).core.screen id ≡ authored_windows service list.cues frame id)
    all.captions_are
    (λ own own_sound late. all.seen id frame (grids (served (heard_lane since (lane_of list.rate (captions all.loads) (zip chunks placed))) (suc frame)).core.screen id)
    (seen_by_all since all.loads id frame _ all.order late
    (seen_at since list.rate list.frames all.loads (zip chunks placed) own all.order all.acts own_sound frame id low small)))
    kept sound up

-- so are the windows of a service of which all is heard
pub windows_are_shown : (list : Listing) (share service : ℕ) (placed : List ℕ) → IsFormed list → IsRuled list
    → IsPlaced (caption_lane share (service_captions list.rate service list.cues)) [] (service_chunks list.rate service list.cues) placed
    → (frame id : ℕ) → id < 8
    → grids (served (lane_of list.rate (service_captions list.rate service list.cues) (zip (service_chunks list.rate service list.cues) placed)) (suc frame)).core.screen id
    ≡ authored_windows service list.cues frame id
windows_are_shown list share service placed formed ruled is frame id small =
    let cs : List Caption = service_captions list.rate service list.cues in
    let chunks : List ServiceChunk = service_chunks list.rate service list.cues in
    ap (λ (s : Served). grids s.core.screen id) (sym (whole_served (lane_of list.rate cs (zip chunks placed)) (suc frame)))
    ∙ windows_are_heard list share service 0 placed formed ruled is frame id (omega arith) small (λ c has up. omega arith)
