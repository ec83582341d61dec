-- What a receiver shows after a frame without captions.
use Rattle.std.proofs.Common.{◌≡◌, ℕ, ◌+◌, ◌==◌, ◌||◌, Bool, true, false, List, [], ◌∷◌, ◌++◌, drop, length, map, Option, Some, None, refl, ap, sym, ◌∙◌, append-nil, append_assoc, arith}
use Rattle.std.specs.Prelude.{if◌then◌else◌}
use Rattle.std.proofs.lemmas.Bool.{eqb-true}
use Rattle.std.proofs.lemmas.List.{drop_all, length-map}
use Rattle.std.proofs.lemmas.List.Elements.{filter-append}
use Rattle.cc_base.specs.declared.rate.Rate.{Rate}
use Rattle.cc_data.specs.declared.triplet.Triplet.{Triplet}
use Rattle.cc_receiver.proofs.IdleLemmas.{idle_frame}
use Rattle.cc_receiver.specs.ReceivedServices.{received_service}
use Rattle.cdp_packets.specs.PacketTriplets.{packet_triplets}
use Rattle.cdp_packets.specs.Packets.{Frame}
use Rattle.channel_packets.specs.ChannelPackets.{channel_triplets, continues_packet, starts}
use Rattle.dtvcc_screen.proofs.MeaningLemmas.{after_more}
use Rattle.dtvcc_screen.specs.Cores.{CoreState, is_due, released}
use Rattle.dtvcc_screen.specs.Meaning.{Byte, Event, Reset, Served, Tick, on_event, served_after, start}
use Rattle.dtvcc_screen.specs.Shown.{grids}
use Rattle.line21_codes.specs.Channels.{data_channel_of, field_of_channel}
use Rattle.line21_screen.specs.Fields.{FieldState, channel}
use Rattle.service_blocks.specs.declared.parts.BlockPart.{BlockPart}
use Rattle.service_blocks.specs.Channels.{said}
use Rattle.services_files.specs.CarriedChannel.{file_triplets}
use Rattle.services_files.specs.Events.{events_behind, events_of, frame_events, rates_of, service_events}
use Rattle.services_files.specs.Said.{blocks_in, packets_started, said_behind, said_in}
use Rattle.services_files.proofs.EventLemmas.{events_rates}
use Rattle.mcc_words.specs.Standing.{IsWithoutCaptions}
use Rattle.mcc_words.specs.Unchanged.{DelayEndsBehind, FramesWithoutChangeNothing, FramesWithoutTellTime}
use Rattle.mcc_words.proofs.WithoutLemmas.{without_channel, without_idle}

-- triplets none of which is of channel packets say nothing, and what follows them says what it says without them
channel_append : (xs ys : List Triplet) → channel_triplets (xs ++ ys) ≡ channel_triplets xs ++ channel_triplets ys
channel_append xs ys = filter-append (λ (triplet : Triplet). starts triplet || continues_packet triplet) xs ys

said_by : (xs ys : List Triplet) → channel_triplets xs ≡ channel_triplets ys → said_in xs ≡ said_in ys
said_by xs ys same = ap (λ (l : List Triplet). said None (packets_started l) (map blocks_in (packets_started l))) same

silent_more : (before silent : List Triplet) → channel_triplets silent ≡ [] → channel_triplets (before ++ silent) ≡ channel_triplets before
silent_more before silent none = channel_append before silent ∙ ap (λ (l : List Triplet). channel_triplets before ++ l) none ∙ append-nil (channel_triplets before)

silent_says : (before silent : List Triplet) → channel_triplets silent ≡ [] → said_behind before silent ≡ []
silent_says before silent none =
    ap (λ (l : List BlockPart). drop (length (said_in before)) l) (said_by (before ++ silent) before (silent_more before silent none))
    ∙ drop_all (length (said_in before)) (said_in before) (omega arith)

says_alike : (before other triplets : List Triplet) → channel_triplets before ≡ channel_triplets other → said_behind before triplets ≡ said_behind other triplets
says_alike before other triplets same =
    let both = channel_append before triplets ∙ ap (λ (l : List Triplet). l ++ channel_triplets triplets) same ∙ sym (channel_append other triplets) in
    ap (λ (l : List BlockPart). drop (length l) (said_in (before ++ triplets))) (said_by before other same)
    ∙ ap (λ (l : List BlockPart). drop (length (said_in other)) l) (said_by (before ++ triplets) (other ++ triplets) both)

tells_alike : (service : ℕ) (before other : List Triplet) (frames : List Frame) → channel_triplets before ≡ channel_triplets other
    → events_behind service before frames ≡ events_behind service other frames
tells_alike service before other [] same = refl
tells_alike service before other (frame ∷ frames) same =
    let triplets = packet_triplets frame in
    let both = channel_append before triplets ∙ ap (λ (l : List Triplet). l ++ channel_triplets triplets) same ∙ sym (channel_append other triplets) in
    ap (λ (parts : List BlockPart). (Tick frame.rate ∷ events_of service parts) ++ events_behind service (before ++ triplets) frames) (says_alike before other triplets same)
    ∙ ap (λ (events : List Event). frame_events service other frame ++ events) (tells_alike service (before ++ triplets) (other ++ triplets) frames both)

-- so a frame without captions tells that time passes
tells_time : (service : ℕ) (before : List Triplet) (earlier more : List Frame) (next : Frame) → channel_triplets (packet_triplets next) ≡ []
    → events_behind service before (earlier ++ next ∷ more)
    ≡ events_behind service before earlier ++ (Tick next.rate ∷ events_behind service (before ++ file_triplets earlier) more)
tells_time service before [] more next none =
    let triplets = packet_triplets next in
    ap (λ (parts : List BlockPart). (Tick next.rate ∷ events_of service parts) ++ events_behind service (before ++ triplets) more) (silent_says before triplets none)
    ∙ ap (λ (events : List Event). Tick next.rate ∷ events)
    (tells_alike service (before ++ triplets) (before ++ []) more (silent_more before triplets none ∙ ap channel_triplets (sym (append-nil before))))
tells_time service before (frame ∷ earlier) more next none =
    let here = frame_events service before frame in
    let behind = before ++ packet_triplets frame in
    ap (λ (events : List Event). here ++ events) (tells_time service behind earlier more next none)
    ∙ sym (append_assoc here (events_behind service behind earlier) (Tick next.rate ∷ events_behind service (behind ++ file_triplets earlier) more))
    ∙ ap (λ (triplets : List Triplet). (here ++ events_behind service behind earlier) ++ (Tick next.rate ∷ events_behind service triplets more))
    (append_assoc before (packet_triplets frame) (file_triplets earlier))

pub without_tell_time : FramesWithoutTellTime
without_tell_time earlier more next is service = tells_time service [] earlier more next (without_channel next is)

-- the clock counts the frames
ticks_after : (s : Served) (events : List Event) → (served_after s events).clock.ticks ≡ s.clock.ticks + length (rates_of events)
ticks_after s [] = omega arith
ticks_after s (Tick rate ∷ events) = omega (arith, ticks_after (on_event (Tick rate) s) events)
ticks_after s (Byte byte ∷ events) = ticks_after (on_event (Byte byte) s) events
ticks_after s (Reset ∷ events) = ticks_after (on_event Reset s) events

ticks_are : (service : ℕ) (frames : List Frame) → (served_after start (service_events service frames)).clock.ticks ≡ length frames
ticks_are service frames =
    let counted = ticks_after start (service_events service frames) in
    let rates = ap length (events_rates service frames) ∙ length-map frames (λ (frame : Frame). frame.rate) in
    omega (arith, counted, rates)

-- where no delay ends, a frame changes nothing of a service
not_due : (until : Option ℕ) (now : ℕ) → (until ≡ Some now → ⊥) → is_due until now ≡ false
not_due None now other = refl
not_due (Some end) now other = by_test (end == now) refl
  where
    by_test : (test : Bool) → (end == now) ≡ test → (end == now) ≡ false
    by_test true is = absurd (other (ap (λ (n : ℕ). Some n) (eqb-true end now is)))
    by_test false is = is

tick_leaves : (rate : Rate) (s : Served) → (s.core.until ≡ Some (s.clock.ticks + 1) → ⊥) → (on_event (Tick rate) s).core ≡ s.core
tick_leaves rate s other =
    ap (λ (due : Bool). if due then released (record { ticks = s.clock.ticks + 1; rate = rate }) s.core else s.core) (not_due s.core.until (s.clock.ticks + 1) other)

service_stays : (service : ℕ) (earlier : List Frame) (next : Frame) → IsWithoutCaptions next → (DelayEndsBehind earlier service → ⊥)
    → received_service (earlier ++ next ∷ []) service ≡ received_service earlier service
service_stays service earlier next is other =
    let s = served_after start (service_events service earlier) in
    ap (λ (events : List Event). (served_after start events).core) (without_tell_time earlier [] next is service)
    ∙ ap (λ (t : Served). t.core) (after_more start (service_events service earlier) (Tick next.rate))
    ∙ tick_leaves next.rate s (λ due. other (due ∙ ap (λ (n : ℕ). Some (n + 1)) (ticks_are service earlier)))

pub without_change_nothing : FramesWithoutChangeNothing
without_change_nothing earlier next is = record {
  grids = λ chan. ap (λ (s : FieldState). (channel (data_channel_of chan) s).displayed) (idle_frame (field_of_channel chan) earlier next (without_idle next is));
  windows = λ service id other. ap (λ (core : CoreState). grids core.screen id) (service_stays service earlier next is other);
}
