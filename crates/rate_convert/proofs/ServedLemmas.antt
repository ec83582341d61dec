-- Services that take frames, and what is seen of them.
use Rattle.std.proofs.Common.{◌≡◌, ℕ, ◌<◌, ◌||◌, Bool, true, false, List, [], ◌∷◌, ◌++◌, append-nil, refl, sym, ap, ◌∙◌, subst}
use Rattle.std.proofs.lemmas.Bool.{true≢false}
use Rattle.std.proofs.lemmas.Grind.{flat_map-append}
use Rattle.cc_base.specs.declared.rate.Rate.{Rate}
use Rattle.cc_data.specs.declared.triplet.Triplet.{Triplet}
use Rattle.cc_receiver.specs.ReceivedServices.{received_service, received_windows}
use Rattle.cc_receiver.specs.Serving.{HasServed, followed_by, given_by}
use Rattle.cc_receiver.specs.declared.services.Served.{Served as ServedOf}
use Rattle.cdp_packets.specs.PacketTriplets.{packet_triplets}
use Rattle.cdp_packets.specs.Packets.{Frame}
use Rattle.dtvcc_screen.specs.Meaning.{Event, Tick, served_after, start}
use Rattle.dtvcc_screen.specs.Screens.{ScreenState}
use Rattle.dtvcc_screen.specs.Shown.{LooksSame, grids}
use Rattle.dtvcc_services.specs.Numbers.{IsService}
use Rattle.dtvcc_windows.specs.Showing.{shown}
use Rattle.dtvcc_services.specs.Objects.{Events, all_ticks, screen_at, served_now, service_behind}
use Rattle.service_blocks.specs.Channels.{IsHeard, heard_behind}
use Rattle.service_blocks.proofs.ChannelLemmas.{heard_first}
use Rattle.services_files.specs.CarriedChannel.{file_triplets}
use Rattle.services_files.specs.Events.{events_of, frame_events, service_events}
use Rattle.services_files.proofs.EventLemmas.{events_more, frame_events-heard}
use Rattle.rate_convert.specs.ServedFrames.{AreNext, AreServed}

-- the last of a list
pub lasts_are : (front others : List Frame) (one other : Frame) → front ++ one ∷ [] ≡ others ++ other ∷ [] → (front ≡ others) × (one ≡ other)
lasts_are [] [] one other is = (refl, cc)
lasts_are [] (o ∷ []) one other is = absurd cc
lasts_are [] (o ∷ (p ∷ others)) one other is = absurd cc
lasts_are (f ∷ []) [] one other is = absurd cc
lasts_are (f ∷ (g ∷ front)) [] one other is = absurd cc
lasts_are (f ∷ front) (o ∷ others) one other is =
    let head : f ≡ o = cc in
    let rest : front ++ one ∷ [] ≡ others ++ other ∷ [] = cc in
    let w = lasts_are front others one other rest in
    (ap (λ (x : Frame). x ∷ front) head ∙ ap (λ (l : List Frame). o ∷ l) w.0, w.1)

pub no_last : (others : List Frame) (newest : Frame) → [] ≡ others ++ newest ∷ [] → ⊥
no_last [] newest is = absurd cc
no_last (o ∷ others) newest is = absurd cc

-- one frame more
triplets_more : (frames : List Frame) (frame : Frame) → file_triplets (frames ++ frame ∷ []) ≡ file_triplets frames ++ packet_triplets frame
triplets_more frames frame =
    flat_map-append packet_triplets frames (frame ∷ []) ∙ ap (λ (l : List Triplet). file_triplets frames ++ l) (append-nil (packet_triplets frame))

pub served_more : (frames : List Frame) (frame : Frame) (rate : Rate) (triplets : List Triplet) (old new : ServedOf) → frame.rate ≡ rate → packet_triplets frame ≡ triplets
    → ((before : List Triplet) (earlier last : Events) → HasServed before earlier last old → all_ticks old.services < 4294967295 → IsHeard (before ++ triplets)
    → HasServed (before ++ triplets) (followed_by earlier last) (given_by rate before triplets) new)
    → all_ticks old.services < 4294967295 → IsHeard (file_triplets (frames ++ frame ∷ [])) → AreServed frames old → AreServed (frames ++ frame ∷ []) new
served_more frames frame rate triplets old new rate_is triplets_are takes few heard was =
    let all : file_triplets (frames ++ frame ∷ []) ≡ file_triplets frames ++ triplets =
    triplets_more frames frame ∙ ap (λ (l : List Triplet). file_triplets frames ++ l) triplets_are in
    record {
      earlier = followed_by was.earlier was.last;
      last = given_by rate (file_triplets frames) triplets;
      has = subst (λ (ts : List Triplet). HasServed ts (followed_by was.earlier was.last) (given_by rate (file_triplets frames) triplets) new) (sym all)
          (takes (file_triplets frames) was.earlier was.last was.has few (subst IsHeard all heard));
      leads = λ service.
          let given = given_by rate (file_triplets frames) triplets service in
          let said : frame_events service (file_triplets frames) frame ≡ given =
          frame_events-heard service (file_triplets frames) frame
          ∙ ap (λ (r : Rate). Tick r ∷ events_of service (heard_behind (file_triplets frames) (packet_triplets frame))) rate_is
          ∙ ap (λ (ts : List Triplet). Tick rate ∷ events_of service (heard_behind (file_triplets frames) ts)) triplets_are in
          ap (λ (es : List Event). es ++ given) (was.leads service) ∙ ap (λ (es : List Event). service_events service frames ++ es) (sym said)
          ∙ sym (events_more service frames frame);
      before = λ others newest is service.
          was.leads service ∙ ap (λ (fs : List Frame). service_events service fs) (lasts_are frames others frame newest is).0;
    }

-- two of them
pub first_heard : (frames : List Frame) (served : ServedOf) (first second : List Triplet) (one two : Frame) → AreNext frames served first second one two
    → IsHeard (file_triplets (frames ++ one ∷ []))
first_heard frames served first second one two next =
    heard_first (file_triplets (frames ++ one ∷ [])) (packet_triplets two) (subst IsHeard (triplets_more (frames ++ one ∷ []) two) next.heard)

-- what is seen of a service
pub screen_is : (frames : List Frame) (earlier last : Events) (service : ℕ) → earlier service ++ last service ≡ service_events service frames
    → screen_at (served_now earlier last service) ≡ (received_service frames service).screen
screen_is frames earlier last service leads = ap (λ (es : List Event). (served_after start es).core.screen) leads

pub seen_before : (frames : List Frame) (earlier : Events) (service : ℕ) → earlier service ≡ service_events service frames
    → screen_at (service_behind earlier service) ≡ (received_service frames service).screen
seen_before frames earlier service is = ap (λ (es : List Event). (served_after start es).core.screen) is

-- where nothing was touched in the last frame, all is seen as before it
pub untouched : (frames : List Frame) (frame : Frame) (served : ServedOf) (was : AreServed (frames ++ frame ∷ []) served)
    → ((service : ℕ) → IsService service → LooksSame (screen_at (service_behind was.earlier service)) (screen_at (served_now was.earlier was.last service)))
    → (service id : ℕ) → IsService service → received_windows (frames ++ frame ∷ []) service id ≡ received_windows frames service id
untouched frames frame served was same service id is =
    sym (ap (λ (s : ScreenState). grids s id) (screen_is (frames ++ frame ∷ []) was.earlier was.last service (was.leads service)))
    ∙ same service is id
    ∙ ap (λ (s : ScreenState). grids s id) (seen_before frames was.earlier service (was.before frames frame refl service))

-- neither touched what is seen
pub neither : (one two : Bool) → (one || two) ≡ false → (one ≡ false) × (two ≡ false)
neither false false is = (refl, refl)
neither false true is = absurd (true≢false is)
neither true two is = absurd (true≢false is)

pub seen_window : (frames : List Frame) (earlier last : Events) (service id : ℕ) → earlier service ++ last service ≡ service_events service frames
    → received_windows frames service id ≡ shown ((screen_at (served_now earlier last service)).windows id)
seen_window frames earlier last service id leads = sym (ap (λ (s : ScreenState). grids s id) (screen_is frames earlier last service leads))
