-- Frames at each of whose bytes a service holds few enough fill its buffer in none of them.
use Rattle.std.proofs.Common.{◌≡◌, ◌∙◌, ℕ, ◌≤◌, ◌==◌, false, List, [], ◌∷◌, ◌++◌, ap, sym, subst, refl, arith, append_assoc, append-nil}
use Rattle.std.proofs.lemmas.Bool.Decides.{nat_tests}
use Rattle.cc_data.specs.declared.triplet.Triplet.{Triplet}
use Rattle.cc_receiver.specs.ReceivedServices.{fills_in}
use Rattle.cdp_packets.specs.Packets.{Frame}
use Rattle.cdp_packets.specs.PacketTriplets.{packet_triplets}
use Rattle.dtvcc_screen.specs.Cores.{fill}
use Rattle.dtvcc_screen.specs.Meaning.{Byte, Event, Reset, Served, Tick, on_event, served_after, start}
use Rattle.dtvcc_services.specs.Filling.{is_filled}
use Rattle.converted_lists.specs.Filling.{AllFill}
use Rattle.dtvcc_screen.proofs.MeaningLemmas.{after_append}
use Rattle.services_files.specs.Events.{events_behind, frame_events, service_events}
use Rattle.services_files.specs.CarriedChannel.{file_triplets}

-- events that are followed by more
first_fill : (s : Served) (events more : List Event) → AllFill 127 s (events ++ more) → AllFill 127 s events
first_fill s [] more all = tt
first_fill s (Tick rate ∷ events) more all = first_fill (on_event (Tick rate) s) events more all
first_fill s (Byte byte ∷ events) more all = (all.0, first_fill (on_event (Byte byte) s) events more all.1)
first_fill s (Reset ∷ events) more all = first_fill (on_event Reset s) events more all

-- and those that follow them
rest_fill : (s : Served) (events more : List Event) → AllFill 127 s (events ++ more) → AllFill 127 (served_after s events) more
rest_fill s [] more all = all
rest_fill s (Tick rate ∷ events) more all = rest_fill (on_event (Tick rate) s) events more all
rest_fill s (Byte byte ∷ events) more all = rest_fill (on_event (Byte byte) s) events more all.1
rest_fill s (Reset ∷ events) more all = rest_fill (on_event Reset s) events more all

-- where no byte fills the buffer beyond 127 none fills it
unfilled : (s : Served) (events : List Event) → AllFill 127 s events → is_filled s events ≡ false
unfilled s [] all = refl
unfilled s (Tick rate ∷ events) all = unfilled (on_event (Tick rate) s) events all
unfilled s (Byte byte ∷ events) all =
    let few : fill byte s.core ≤ 127 = all.0 in
    let low : (fill byte s.core == 128) ≡ false = grind (arith, nat_tests) in
    rw low (unfilled (on_event (Byte byte) s) events all.1)
unfilled s (Reset ∷ events) all = unfilled (on_event Reset s) events all

-- so it is at a frame after others
frame_unfilled : (service : ℕ) (before : List Triplet) (s : Served) (earlier : List Frame) (last : Frame) (later : List Frame)
    → AllFill 127 s (events_behind service before (earlier ++ last ∷ later))
    → is_filled (served_after s (events_behind service before earlier)) (frame_events service (before ++ file_triplets earlier) last) ≡ false
frame_unfilled service before s [] last later all =
    subst (λ (ts : List Triplet). is_filled s (frame_events service ts last) ≡ false) (sym (append-nil before))
    (unfilled s (frame_events service before last)
    (first_fill s (frame_events service before last) (events_behind service (before ++ packet_triplets last) later) all))
frame_unfilled service before s (frame ∷ earlier) last later all =
    let here = frame_events service before frame in
    let next = before ++ packet_triplets frame in
    let rest = frame_unfilled service next (served_after s here) earlier last later (rest_fill s here (events_behind service next (earlier ++ last ∷ later)) all) in
    ap (λ (t : Served). is_filled t (frame_events service (before ++ file_triplets (frame ∷ earlier)) last)) (after_append s here (events_behind service next earlier))
    ∙ ap (λ (ts : List Triplet). is_filled (served_after (served_after s here) (events_behind service next earlier)) (frame_events service ts last))
    (sym (append_assoc before (packet_triplets frame) (file_triplets earlier)))
    ∙ rest

pub none_filled : (service : ℕ) (earlier : List Frame) (last : Frame) (later : List Frame)
    → AllFill 127 start (service_events service (earlier ++ last ∷ later)) → fills_in earlier last service ≡ false
none_filled service earlier last later all = frame_unfilled service [] start earlier last later all
