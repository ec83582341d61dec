-- A frame more that is taken, and what is then told to the services.
use Rattle.std.proofs.Common.{◌≡◌, ◌∙◌, ℕ, Bool, true, false, List, [], ◌∷◌, ◌++◌, refl, sym, ap, subst, append_assoc, append-nil, if◌then◌else◌, ◌<◌}
use Rattle.std.specs.Prelude.{Result, Ok, Err, take}
use Rattle.std.proofs.lemmas.Grind.{flat_map-append}
use Rattle.cc_base.specs.declared.rate.Rate.{Rate}
use Rattle.cc_base.specs.declared.refusal.Refusal.{Refusal}
use Rattle.cc_receiver.specs.declared.receiver.Fed.{Fed}
use Rattle.cc_data.specs.declared.triplet.Triplet.{Triplet}
use Rattle.cdp_packets.specs.Packets.{Frame}
use Rattle.cdp_packets.specs.PacketTriplets.{packet_triplets}
use Rattle.dtvcc_screen.specs.Meaning.{Event, Reset, Served, Tick, cleaned, served_after, start}
use Rattle.dtvcc_screen.specs.Screens.{ScreenState}
use Rattle.dtvcc_screen.specs.Shown.{grids}
use Rattle.dtvcc_screen.specs.declared.clock.Clock.{Clock}
use Rattle.dtvcc_services.specs.Objects.{Events, all_ticks}
use Rattle.service_blocks.specs.Channels.{IsHeard, heard_behind}
use Rattle.service_blocks.proofs.ChannelLemmas.{channel_heard}
use Rattle.services_files.specs.CaptionChannel.{caption_channel}
use Rattle.services_files.specs.CarriedChannel.{CarryChannel, file_triplets}
use Rattle.services_files.specs.Events.{events_behind, events_of, frame_events, service_events}
use Rattle.services_files.specs.Said.{said_behind}
use Rattle.services_files.proofs.EventLemmas.{events_more, frame_events-heard}
use Rattle.words_files.specs.FramesOf.{AreFramesOf}
use Rattle.words_files.proofs.FramesOfLemmas.{frames_of_once}
use Rattle.cc_receiver.specs.Receivers.{HasReceived, frame_count}
use Rattle.cc_receiver.specs.ReceivedServices.{received_service}
use Rattle.cc_receiver.specs.Serving.{HasServed, followed_by, given_by}
use Rattle.cc_receiver.specs.declared.receiver.Receiver.{Receiver}
use Rattle.cc_receiver.specs.declared.services.Served.{Served as ServedOf}
use Rattle.cc_receiver.proofs.FedFrames.{frames_still}
use Rattle.cc_receiver.proofs.SilentLemmas.{served_whole}
use Rattle.cc_receiver.specs.Counting.{HasFront}
use Rattle.std.proofs.lemmas.Bool.{true≢false}
use Rattle.cc_conceal.specs.Concealed.{heard_of}
use Rattle.cc_conceal.specs.Concealers.{AreServed, Conceals, ConcealsOn, HasConcealed, LeadBefore, LeadFromReset, kept_at}
use Rattle.cc_conceal.specs.declared.concealer.Concealer.{Concealer}
use Rattle.cc_conceal.proofs.HeardLemmas.{heard_suffix, lasts_are, no_last}
use Rattle.dtvcc_screen.proofs.MeaningLemmas.{after_append}
use Rattle.dtvcc_screen.proofs.ShiftLemmas.{same_clock}
use Rattle.service_blocks.proofs.SuffixLemmas.{heard_since}

-- the triplets of one frame more
pub triplets_more : (heard : List Frame) (last : Frame) → file_triplets (heard ++ last ∷ []) ≡ file_triplets heard ++ packet_triplets last
triplets_more heard last =
    flat_map-append packet_triplets heard (last ∷ []) ∙ ap (λ (l : List Triplet). file_triplets heard ++ l) (append-nil (packet_triplets last))

-- what it tells
pub lead_more : (heard : List Frame) (last : Frame) (e l : Events) (rate : Rate) (triplets : List Triplet) → rate ≡ last.rate → triplets ≡ packet_triplets last
    → LeadFromReset heard e l → LeadFromReset (heard ++ last ∷ []) (followed_by e l) (given_by rate (file_triplets heard) triplets)
lead_more heard last e l rate triplets rate_is triplets_are lead service =
    let w = lead service in
    let given : List Event = given_by rate (file_triplets heard) triplets service in
    let said : frame_events service (file_triplets heard) last ≡ given =
    frame_events-heard service (file_triplets heard) last
    ∙ ap (λ (r : Rate). Tick r ∷ events_of service (heard_behind (file_triplets heard) (packet_triplets last))) (sym rate_is)
    ∙ ap (λ (ts : List Triplet). Tick rate ∷ events_of service (heard_behind (file_triplets heard) ts)) (sym triplets_are) in (
      w.0,
      after_append start (e service ++ l service) given
          ∙ ap (λ (s : Served). served_after s given) w.1
          ∙ sym (ap (served_after (cleaned w.0)) (events_more service heard last ∙ ap (λ (es : List Event). service_events service heard ++ es) said)
          ∙ after_append (cleaned w.0) (service_events service heard) given),
    )

pub served_more : (heard : List Frame) (last : Frame) (rate : Rate) (front : List Triplet) (old new : ServedOf) → rate ≡ last.rate → HasFront front (packet_triplets last)
    → ((before : List Triplet) (earlier last : Events) → HasServed before earlier last old → all_ticks old.services < 4294967295 → IsHeard (before ++ front)
    → HasServed (before ++ front) (followed_by earlier last) (given_by rate before front) new)
    → all_ticks old.services < 4294967295 → IsHeard (file_triplets (heard ++ last ∷ [])) → AreServed heard old → AreServed (heard ++ last ∷ []) new
served_more heard last rate front old new rate_is has frame few is_heard was = record {
  earlier = followed_by was.earlier was.last;
  last = given_by rate (file_triplets heard) (packet_triplets last);
  has = subst (λ (ts : List Triplet). HasServed ts (followed_by was.earlier was.last) (given_by rate (file_triplets heard) (packet_triplets last)) new) (sym (triplets_more heard last))
      (served_whole rate front (packet_triplets last) old new has frame (file_triplets heard) was.earlier was.last was.has few (subst IsHeard (triplets_more heard last) is_heard));
  leads = lead_more heard last was.earlier was.last rate (packet_triplets last) rate_is refl was.leads;
  before = λ others newest is service.
      subst (λ (fs : List Frame). LeadBefore fs (followed_by was.earlier was.last)) (lasts_are heard others last newest is).0 was.leads service;
}

-- a reset of all services, which took frames or none
reset_served : (heard : List Frame) (old new : ServedOf)
    → ((before : List Triplet) (earlier last : Events) → HasServed before earlier last old → HasServed [] earlier (λ service. last service ++ Reset ∷ []) new)
    → AreServed heard old → AreServed [] new
reset_served heard old new resets was = record {
  earlier = was.earlier;
  last = λ service. was.last service ++ Reset ∷ [];
  has = resets (file_triplets heard) was.earlier was.last was.has;
  leads = λ service.
      let all = was.earlier service ++ was.last service in (
        (served_after start all).clock,
        ap (served_after start) (sym (append_assoc (was.earlier service) (was.last service) (Reset ∷ []))) ∙ after_append start all (Reset ∷ []),
      );
  before = λ others newest none. absurd (no_last others newest none);
}

pub reset_either : (apart : Bool) (heard : List Frame) (old new : ServedOf)
    → ((before : List Triplet) (earlier last : Events) → HasServed before earlier last old → HasServed [] earlier (λ service. last service ++ Reset ∷ []) new)
    → (apart ≡ true → AreServed heard old) → (apart ≡ false → AreServed [] old) → AreServed [] new
reset_either true heard old new resets own none = reset_served heard old new resets (own refl)
reset_either false heard old new resets own none = reset_served [] old new resets (none refl)

-- it has no services of its own where it had none and no counter jumps
pub not_apart : (jumps was : Bool) → (if jumps then true else was) ≡ false → (jumps ≡ false) × (was ≡ false)
not_apart true was is = absurd (true≢false is)
not_apart false was is = (refl, is)

-- frames since some others are heard
file_append : (frames more : List Frame) → file_triplets (frames ++ more) ≡ file_triplets frames ++ file_triplets more
file_append frames more = flat_map-append packet_triplets frames more

pub suffix_heard : (bytes : List ℕ) (frames before rest : List Frame) → AreFramesOf caption_channel frames bytes → frames ≡ before ++ rest → IsHeard (file_triplets rest)
suffix_heard bytes frames before rest are is =
    let carried : CarryChannel frames = are.is_file.accepted in
    let all = (channel_heard carried.packets carried.blocks (file_triplets frames) carried.channel).is in
    heard_since (file_triplets before) (file_triplets rest) (subst IsHeard (ap file_triplets is ∙ file_append before rest) all)

-- those that are kept, with one more, are the last of the frames
pub kept_suffix : (frames : List Frame) (next : Frame) (jumps : Bool) → (before : List Frame) × (frames ++ next ∷ [] ≡ before ++ (kept_at jumps (heard_of frames) ++ next ∷ []))
kept_suffix frames next true = (frames, refl)
kept_suffix frames next false =
    let w = heard_suffix frames in
    (w.0, ap (λ (l : List Frame). l ++ next ∷ []) w.1 ∙ append_assoc w.0 (heard_of frames) (next ∷ []))

-- after bytes that bring no frame
pub concealed_still : (before more : List ℕ) (old : Concealer) (new : Receiver) → HasConcealed before old → HasReceived (before ++ more) new
    → frame_count new ≡ frame_count old.receiver → HasConcealed (before ++ more) (record old { receiver = new })
concealed_still before more old new had now counted =
    let are = frames_still before more old.receiver new had.frames had.frames_are had.received now counted in
    let acted = had.conceals.acted in
    record {
      received = now;
      frames = had.frames;
      frames_are = are;
      conceals = record {
        acted = record {
          counter = acted.counter;
          behind = record { first = acted.behind.first; second = acted.behind.second; apart = acted.behind.apart; beside = acted.behind.beside };
          together = acted.together;
          ticks = acted.ticks;
          number = acted.number;
          missing = acted.missing;
          small = acted.small;
          goes_on = acted.goes_on;
        };
        bytes = before ++ more;
        received = now;
        frames_are = are;
      };
    }

-- whatever the clock, a service has the screen of its events from reset
pub same_screen : (service : ℕ) (heard : List Frame) (clock : Clock) → (served_after (cleaned clock) (service_events service heard)).core.screen ≡ (received_service heard service).screen
same_screen service [] clock = refl
same_screen service (f ∷ fs) clock =
    same_clock start.clock clock f.rate (events_of service (said_behind [] (packet_triplets f)) ++ events_behind service ([] ++ packet_triplets f) fs)

-- so what is seen of it is what its events from reset leave
pub seen_from_reset : (service id : ℕ) (heard : List Frame) (s : Served) → (clock : Clock) × (s ≡ served_after (cleaned clock) (service_events service heard))
    → grids (received_service heard service).screen id ≡ grids s.core.screen id
seen_from_reset service id heard s w =
    ap (λ (screen : ScreenState). grids screen id) (sym (ap (λ (s : Served). s.core.screen) w.1 ∙ same_screen service heard w.0))

-- the frames of its bytes are those that it conceals
pub conceals_these : (bytes : List ℕ) (frames : List Frame) (concealer : Concealer) → HasConcealed bytes concealer → AreFramesOf caption_channel frames bytes
    → Conceals frames concealer
conceals_these bytes frames concealer had are =
    subst (λ (fs : List Frame). Conceals fs concealer) (frames_of_once caption_channel had.frames frames bytes had.frames_are are) had.conceals

-- whatever a call answers, some bytes lead to it
pub still_concealed : (before bytes : List ℕ) (new : Concealer) (result : Result Fed Refusal) → ConcealsOn before bytes new result
    → (after : List ℕ) × HasConcealed after new
still_concealed before bytes new (Ok fed) on = (before ++ take fed.used bytes, on)
still_concealed before bytes new (Err refusal) on = (before ++ bytes, on)
