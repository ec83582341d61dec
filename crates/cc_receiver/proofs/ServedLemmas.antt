-- The services of a receiver are where the events of its frames lead.
use Rattle.std.proofs.Common.{◌≡◌, ◌<◌, ◌^◌, ℕ, List, [], ◌∷◌, ◌++◌, length, map, reverse, refl, ap, sym, subst, ◌∙◌, append-nil, arith}
use Rattle.std.proofs.Math.Path.{fun_ext}
use Rattle.std.proofs.lemmas.Grind.{flat_map-append}
use Rattle.std.proofs.lemmas.List.{map-append, reverse-append}
use Rattle.cdp_packets.specs.PacketParts.{packet_parts}
use Rattle.cdp_packets.specs.PacketTriplets.{packet_triplets}
use Rattle.cdp_packets.specs.Packets.{Frame}
use Rattle.dtvcc_services.specs.Objects.{Events, Leads}
use Rattle.service_blocks.specs.Channels.{IsHeard}
use Rattle.service_blocks.proofs.ChannelLemmas.{channel_heard}
use Rattle.services_files.specs.Catching.{caught_in}
use Rattle.services_files.specs.FramesOf.{AreFramesOf}
use Rattle.services_files.specs.Events.{frame_events, service_events}
use Rattle.services_files.specs.Services.{services_say}
use Rattle.services_files.specs.CarriedChannel.{file_triplets}
use Rattle.services_files.specs.CaptionChannel.{caption_channel}
use Rattle.services_files.proofs.EventLemmas.{events_more, frame_events-heard}
use Rattle.services_files.proofs.ChannelFiles.{frames_caught}
use Rattle.cc_receiver.specs.declared.receiver.Receiver.{Receiver}
use Rattle.cc_receiver.specs.Gathering.{Gathered}
use Rattle.cc_receiver.specs.Receivers.{HasReceived}
use Rattle.cc_receiver.specs.Serving.{ServesFrames, earlier_events, given_by, last_events, said_events, said_triplets}
use Rattle.cc_receiver.proofs.GatheredLemmas.{packet_gathered}
use Rattle.cc_receiver.proofs.ServingLemmas.{both_are}
use Rattle.cc_receiver.proofs.HeardLemmas.{AllFit, Fits, frames_of_fit}

-- what fits does so in any order
fit-append : (frames more : List Frame) → AllFit frames → AllFit more → AllFit (frames ++ more)
fit-append [] more fit others = others
fit-append (frame ∷ frames) more (fits, fit) others = (fits, fit-append frames more fit others)

fit-reverse : (frames : List Frame) → AllFit frames → AllFit (reverse frames)
fit-reverse [] fit = tt
fit-reverse (frame ∷ frames) (fits, fit) =
    subst AllFit (sym (reverse-append (frame ∷ []) frames)) (fit-append (reverse frames) (frame ∷ []) (fit-reverse frames fit) (fits, tt))

-- the triplets of frames, which stand newest first
said_of : (frames : List Frame) → AllFit frames → said_triplets (map packet_parts frames) ≡ file_triplets (reverse frames)
said_of [] fit = refl
said_of (frame ∷ frames) (fits, fit) =
    ap (λ (g : Gathered). said_triplets (map packet_parts frames) ++ g.triplets) (packet_gathered frame fits.are fits.few)
    ∙ ap (λ ts. ts ++ packet_triplets frame) (said_of frames fit)
    ∙ sym (ap file_triplets (reverse-append (frame ∷ []) frames) ∙ flat_map-append packet_triplets (reverse frames) (frame ∷ [])
    ∙ ap (λ ts. file_triplets (reverse frames) ++ ts) (append-nil (packet_triplets frame)))

-- what the newest of them gives
last_of : (frame : Frame) (frames : List Frame) (service : ℕ) → Fits frame → AllFit frames
    → last_events (map packet_parts (frame ∷ frames)) service ≡ frame_events service (file_triplets (reverse frames)) frame
last_of frame frames service fits fit =
    ap (λ (g : Gathered). given_by g.rate (said_triplets (map packet_parts frames)) g.triplets service) (packet_gathered frame fits.are fits.few)
    ∙ ap (λ ts. given_by frame.rate ts (packet_triplets frame) service) (said_of frames fit)
    ∙ sym (frame_events-heard service (file_triplets (reverse frames)) frame)

-- what all of them give
events_are : (frames : List Frame) (service : ℕ) → AllFit frames → said_events (map packet_parts frames) service ≡ service_events service (reverse frames)
events_are [] service fit = refl
events_are (frame ∷ frames) service (fits, fit) =
    ap (λ es. es ++ last_events (map packet_parts (frame ∷ frames)) service) (events_are frames service fit)
    ∙ ap (λ es. service_events service (reverse frames) ++ es) (last_of frame frames service fits fit)
    ∙ sym (ap (service_events service) (reverse-append (frame ∷ []) frames) ∙ events_more service (reverse frames) frame)

map-reverse : (frames : List Frame) → map packet_parts (reverse frames) ≡ reverse (map packet_parts frames)
map-reverse [] = refl
map-reverse (frame ∷ frames) =
    ap (map packet_parts) (reverse-append (frame ∷ []) frames) ∙ map-append packet_parts (reverse frames) (frame ∷ [])
    ∙ ap (λ ps. ps ++ packet_parts frame ∷ []) (map-reverse frames) ∙ sym (reverse-append (packet_parts frame ∷ []) (map packet_parts frames))

reverse-twice : (frames : List Frame) → reverse (reverse frames) ≡ frames
reverse-twice [] = refl
reverse-twice (frame ∷ frames) =
    ap reverse (reverse-append (frame ∷ []) frames) ∙ reverse-append (reverse frames) (frame ∷ []) ∙ ap (λ fs. frame ∷ fs) (reverse-twice frames)

-- the services of a receiver took its frames
pub received_frames : (frames : List Frame) (bytes : List ℕ) (receiver : Receiver) → HasReceived bytes receiver → AreFramesOf caption_channel frames bytes
    → ServesFrames (map packet_parts (reverse frames)) receiver.captions.served
received_frames frames bytes receiver had are =
    let caught = frames_caught frames bytes had.bytes_are are ∙ sym (map-reverse frames) in
    let fit = fit-reverse frames (frames_of_fit caption_channel frames bytes are) in
    let channel = are.is_file.accepted in
    let heard = (channel_heard channel.packets channel.blocks (file_triplets frames) channel.channel).is in
    let triplets : said_triplets (caught_in services_say bytes).frames ≡ file_triplets frames =
    ap said_triplets caught ∙ said_of (reverse frames) fit ∙ ap file_triplets (reverse-twice frames) in
    let counted = had.counted in
    let count = had.reached.took.count in
    let few : length (caught_in services_say bytes).frames < 2 ^ 32 = omega (arith, count, counted) in
    subst (λ fs. ServesFrames fs receiver.captions.served) caught
    (had.reached.took.services few (subst IsHeard (sym triplets) heard))

-- the events of its frames lead to where its services are
pub record IsServed (frames : List Frame) (receiver : Receiver) : Type 0 where
  pub earlier : Events
  pub last : Events
  pub leads : Leads earlier last receiver.captions.served.services
  pub all : (service : ℕ) → earlier service ++ last service ≡ service_events service frames

pub received_events : (frames : List Frame) (bytes : List ℕ) (receiver : Receiver) → HasReceived bytes receiver → AreFramesOf caption_channel frames bytes → IsServed frames receiver
received_events frames bytes receiver had are =
    let newest = map packet_parts (reverse frames) in
    let serves = received_frames frames bytes receiver had are in
    let fit = fit-reverse frames (frames_of_fit caption_channel frames bytes are) in
    record {
      earlier = earlier_events newest;
      last = last_events newest;
      leads = serves.led.leads;
      all = λ service. both_are newest service ∙ events_are (reverse frames) service fit ∙ ap (service_events service) (reverse-twice frames);
    }

-- the last of its frames
pub received_last : (earlier : List Frame) (last : Frame) (bytes : List ℕ) (receiver : Receiver) → HasReceived bytes receiver
    → AreFramesOf caption_channel (earlier ++ last ∷ []) bytes
    → Leads (λ service. service_events service earlier) (λ service. frame_events service (file_triplets earlier) last) receiver.captions.served.services
received_last earlier last bytes receiver had are =
    let newest : map packet_parts (reverse (earlier ++ last ∷ [])) ≡ packet_parts last ∷ map packet_parts (reverse earlier) =
    ap (map packet_parts) (reverse-append earlier (last ∷ [])) in
    let leads = (subst (λ fs. ServesFrames fs receiver.captions.served) newest (received_frames (earlier ++ last ∷ []) bytes receiver had are)).led.leads in
    let (fits, fit) = subst AllFit (reverse-append earlier (last ∷ [])) (fit-reverse (earlier ++ last ∷ []) (frames_of_fit caption_channel (earlier ++ last ∷ []) bytes are)) in
    subst (λ events. Leads events (λ service. frame_events service (file_triplets earlier) last) receiver.captions.served.services)
    (fun_ext (λ service. events_are (reverse earlier) service fit ∙ ap (service_events service) (reverse-twice earlier)))
    (subst (λ events. Leads (said_events (map packet_parts (reverse earlier))) events receiver.captions.served.services)
    (fun_ext (λ service. last_of last (reverse earlier) service fits fit ∙ ap (λ fs. frame_events service (file_triplets fs) last) (reverse-twice earlier))) leads)
