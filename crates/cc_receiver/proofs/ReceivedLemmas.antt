-- What a receiver shows, and what it keeps of the last frame.
use Rattle.std.proofs.Common.{◌≡◌, ℕ, ◌++◌, List, [], ◌∷◌, map, reverse, Option, Some, None, refl, ap, subst, ◌∙◌}
use Rattle.std.proofs.lemmas.List.{map-append, reverse-append}
use Rattle.std.specs.List.{concat}
use Rattle.cc_base.specs.declared.refusal.Refusal.{Refusal}
use Rattle.cdp_packets.specs.declared.parts.CdpPart.{CdpPart}
use Rattle.cdp_packets.specs.PacketParts.{packet_parts}
use Rattle.cdp_packets.specs.PacketTriplets.{packet_triplets}
use Rattle.cdp_packets.specs.Packets.{Frame}
use Rattle.line21_codes.specs.declared.channels.FieldNumber.{FieldNumber}
use Rattle.line21_codes.specs.declared.channels.FieldNumber.TheVariants.{One, Two}
use Rattle.line21_codes.specs.declared.channels.Chan.{Chan}
use Rattle.line21_codes.specs.Channels.{field_of_channel, data_channel_of}
use Rattle.line21_screen.specs.Fields.{FieldState, channel}
use Rattle.line21_screen.specs.Meaning.{after}
use Rattle.line21_codes.specs.declared.pairs.Pair.{Pair}
use Rattle.line21_screen.specs.Objects.{Leads, field_of}
use Rattle.line21_screen.specs.declared.modes.Mode.{Mode}
use Rattle.services_files.specs.Catching.{caught_in, refusal_of}
use Rattle.services_files.specs.Services.{services_say}
use Rattle.services_files.specs.CaptionChannel.{caption_channel}
use Rattle.services_files.proofs.ChannelFiles.{frames_caught}
use Rattle.services_files.specs.FramesOf.{AreFramesOf}
use Rattle.services_files.specs.Received.{field_pairs, received, received_grids, received_pairs}
use Rattle.cc_receiver.specs.declared.receiver.Receiver.{Receiver}
use Rattle.cc_receiver.specs.Gathering.{Gathered}
use Rattle.cc_receiver.specs.Gatherers.{Holds}
use Rattle.cc_receiver.specs.Catchers.{KeepsLast}
use Rattle.cc_receiver.specs.Hearing.{heard}
use Rattle.cc_receiver.specs.Receivers.{HasReceived, displayed_grid, field_in, received_mode, receiver_refusal}
use Rattle.cc_receiver.proofs.GatheredLemmas.{packet_gathered}
use Rattle.cc_receiver.proofs.HeardLemmas.{AllFit, Fits, frames_of_fit, heard_frames}

-- the refusal that is kept is the bytes' refusal
pub kept_is : (bytes : List ℕ) (receiver : Receiver) → HasReceived bytes receiver → receiver_refusal receiver ≡ refusal_of services_say bytes
kept_is bytes receiver had =
    let cases : (refusal : Option Refusal) → refusal_of services_say bytes ≡ refusal → receiver_refusal receiver ≡ refusal = elim [
      | None ↦ λ none. (had.reached.leads none).1.unrefused
      | Some refused ↦ λ some. had.reached.kept refused some
    ] in cases _ refl

-- what is heard of bytes are the pairs of their frames
heard_of : (in_field : FieldNumber) (frames : List Frame) (bytes : List ℕ) (receiver : Receiver) → HasReceived bytes receiver → AreFramesOf caption_channel frames bytes
    → heard in_field (caught_in services_say bytes).frames ≡ reverse (received_pairs in_field frames)
heard_of in_field frames bytes receiver had are =
    ap (heard in_field) (frames_caught frames bytes had.bytes_are are) ∙ heard_frames in_field frames (frames_of_fit caption_channel frames bytes are)

-- the state of a field
field_received : (in_field : FieldNumber) (frames : List Frame) (bytes : List ℕ) (receiver : Receiver) → HasReceived bytes receiver → AreFramesOf caption_channel frames bytes
    → field_of (field_in in_field receiver) ≡ received in_field frames
field_received One frames bytes receiver had are = had.reached.took.first.state ∙ ap (after One) (heard_of One frames bytes receiver had are)
field_received Two frames bytes receiver had are = had.reached.took.second.state ∙ ap (after Two) (heard_of Two frames bytes receiver had are)

-- a receiver shows what its frames leave on the screens
pub shown_received : (frames : List Frame) (bytes : List ℕ) (receiver : Receiver) (chan : Chan) → HasReceived bytes receiver → AreFramesOf caption_channel frames bytes
    → displayed_grid receiver chan ≡ received_grids frames chan
shown_received frames bytes receiver chan had are =
    ap (λ (s : FieldState). (channel (data_channel_of chan) s).displayed) (field_received (field_of_channel chan) frames bytes receiver had are)

-- which pairs lead to a field
field_led : (in_field : FieldNumber) (frames : List Frame) (bytes : List ℕ) (receiver : Receiver) → HasReceived bytes receiver → AreFramesOf caption_channel frames bytes
    → Leads in_field (reverse (received_pairs in_field frames)) (field_in in_field receiver)
field_led One frames bytes receiver had are =
    subst (λ (ps : List Pair). Leads One ps receiver.captions.first) (heard_of One frames bytes receiver had are) had.reached.took.first
field_led Two frames bytes receiver had are =
    subst (λ (ps : List Pair). Leads Two ps receiver.captions.second) (heard_of Two frames bytes receiver had are) had.reached.took.second

-- a mode that is a channel's, whatever pairs lead to its field, is what the frames leave
pub mode_received : (frames : List Frame) (bytes : List ℕ) (receiver : Receiver) (chan : Chan) (mode : Mode) → HasReceived bytes receiver
    → AreFramesOf caption_channel frames bytes
    → ((in_field : FieldNumber) (before : List Pair) → Leads in_field before (field_in (field_of_channel chan) receiver)
    → mode ≡ (channel (data_channel_of chan) (after in_field before)).mode)
    → mode ≡ received_mode frames chan
mode_received frames bytes receiver chan mode had are is =
    let in_field = field_of_channel chan in
    is in_field (reverse (received_pairs in_field frames)) (field_led in_field frames bytes receiver had are)

-- the last of frames that fit
last_fits : (earlier : List Frame) (last : Frame) → AllFit (earlier ++ last ∷ []) → Fits last
last_fits [] last (fits, fit) = fits
last_fits (frame ∷ earlier) last (fits, fit) = last_fits earlier last fit

-- what the last frame says
abbrev pub said : Frame → Gathered
said frame = record {
  rate = frame.rate;
  flags = frame.flags;
  counter = frame.counter;
  sections = concat frame.sections;
  triplets = packet_triplets frame;
  pairs_one = field_pairs One (packet_triplets frame);
  pairs_two = field_pairs Two (packet_triplets frame);
}

-- the last frame is kept
pub last_received : (earlier : List Frame) (last : Frame) (bytes : List ℕ) (receiver : Receiver) → HasReceived bytes receiver
    → AreFramesOf caption_channel (earlier ++ last ∷ []) bytes → Holds (said last) receiver.captions.last
last_received earlier last bytes receiver had are =
    let newest : reverse (map packet_parts (earlier ++ last ∷ [])) ≡ packet_parts last ∷ reverse (map packet_parts earlier) =
    ap reverse (map-append packet_parts earlier (last ∷ [])) ∙ reverse-append (map packet_parts earlier) (packet_parts last ∷ []) in
    let kept = subst (λ (fs : List (List CdpPart)). KeepsLast fs receiver.captions.last) (frames_caught (earlier ++ last ∷ []) bytes had.bytes_are are ∙ newest) had.reached.took.last in
    let fits = last_fits earlier last (frames_of_fit caption_channel (earlier ++ last ∷ []) bytes are) in
    subst (λ (g : Gathered). Holds g receiver.captions.last) (packet_gathered last fits.are fits.few) kept
