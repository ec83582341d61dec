-- The services get just the bytes that frames send them.
use Rattle.std.proofs.Common.{◌≡◌, ◌∙◌, ℕ, zero, suc, ◌+◌, ◌≤◌, ◌==◌, if◌then◌else◌, Bool, true, false, List, [], ◌∷◌, ◌++◌, length, map, take, refl, sym, ap, arith, append_assoc, append-nil}
use Rattle.std.proofs.lemmas.Grind.{flat_map-append}
use Rattle.std.proofs.lemmas.List.{append_cancel_left, map-append}
use Rattle.cc_base.specs.declared.rate.Rate.{Rate}
use Rattle.line21_codes.specs.declared.channels.FieldNumber.{FieldNumber}
use Rattle.cc_data.specs.declared.triplet.Triplet.{Triplet}
use Rattle.cdp_packets.specs.Packets.{Frame}
use Rattle.cdp_packets.specs.PacketTriplets.{packet_triplets}
use Rattle.dtvcc_screen.specs.Meaning.{Byte, Tick}
use Rattle.service_blocks.specs.declared.parts.BlockPart.{BlockPart}
use Rattle.service_blocks.specs.declared.parts.BlockPart.TheVariants as part
use Rattle.service_blocks.specs.Channels.{heard_behind, heard_parts}
use Rattle.service_blocks.proofs.ChannelLemmas.{channel_heard, heard-append}
use Rattle.frame_carrier.specs.Received.{field_pairs, received_pairs}
use Rattle.cc_receiver.specs.Events.{event_of, events_behind, events_of, frame_events, service_events}
use Rattle.cc_receiver.specs.Said.{said_behind}
use Rattle.cc_receiver.specs.CarriedChannel.{file_triplets}
use Rattle.cc_receiver.proofs.EventLemmas.{events_more, frame_events-heard}
use Rattle.frame_carrier.specs.Columns.{Columns}
use Rattle.frame_carrier.specs.Carrying.{channel_packet_of, column_packets, frame_packet, packets_before}
use Rattle.frame_carrier.proofs.CarriedLemmas.{packet_channel_is}
use Rattle.services_shown.specs.ServicesCarried.{HasBlocks, Sent}
use Rattle.services_shown.specs.Told.{CarryTheSame, ColumnsAreTold, LikeFramesSayAlike, sent_to, told, told_since}
use Rattle.services_shown.proofs.ChannelLemmas.{channel_since, parts_from, parts_sent}

-- what is said of a service gets to it, and to no other
bytes_told : (service other : ℕ) (b : Bool) → (other == service) ≡ b → (bytes : List ℕ)
    → events_of service (map (part.Byte other) bytes) ≡ map Byte (if b then bytes else [])
bytes_told service other true is [] = refl
bytes_told service other true is (byte ∷ bytes) =
    let rest = bytes_told service other true is bytes in
    rw is (ap (λ es. Byte byte ∷ es) rest)
bytes_told service other false is [] = refl
bytes_told service other false is (byte ∷ bytes) =
    let rest = bytes_told service other false is bytes in
    rw is rest

pub sent_told : (service : ℕ) (sent : List Sent) → events_of service (parts_sent sent) ≡ map Byte (sent_to service sent)
sent_told service [] = refl
sent_told service (sent ∷ more) =
    let own : List ℕ = if sent.service == service then sent.bytes else [] in
    flat_map-append (event_of service) (map (part.Byte sent.service) sent.bytes) (parts_sent more)
    ∙ ap (λ es. es ++ events_of service (parts_sent more)) (bytes_told service sent.service (sent.service == service) refl sent.bytes)
    ∙ ap (λ es. map Byte own ++ es) (sent_told service more)
    ∙ sym (map-append Byte own (sent_to service more))

-- there is a packet for each frame
pub packets_count : (rate : Rate) (columns : Columns) (frame n : ℕ) → length (column_packets rate columns frame n) ≡ n
packets_count rate columns frame zero = refl
packets_count rate columns frame (suc n) = ap suc (packets_count rate columns (suc frame) n)

-- the first of the packets of columns
pub take_packets : (rate : Rate) (columns : Columns) (frame n k : ℕ) → k ≤ n → take k (column_packets rate columns frame n) ≡ column_packets rate columns frame k
take_packets rate columns frame n zero below = refl
take_packets rate columns frame zero (suc k) below = absurd (omega arith)
take_packets rate columns frame (suc n) (suc k) below =
    ap (λ l. frame_packet rate frame (columns frame) (channel_packet_of columns frame) ∷ l) (take_packets rate columns (suc frame) n k (omega arith))

-- one more of them at the end
pub packets_more : (rate : Rate) (columns : Columns) (frame n last : ℕ) → last ≡ frame + n
    → column_packets rate columns frame (suc n) ≡ column_packets rate columns frame n ++ frame_packet rate last (columns last) (channel_packet_of columns last) ∷ []
packets_more rate columns frame zero last is = let same : frame ≡ last = omega (arith, is) in ap (λ f. frame_packet rate f (columns f) (channel_packet_of columns f) ∷ []) same
packets_more rate columns frame (suc n) last is =
    ap (λ l. frame_packet rate frame (columns frame) (channel_packet_of columns frame) ∷ l) (packets_more rate columns (suc frame) n last (omega (arith, is)))

module _ (rate : Rate) (columns : Columns) (has : (frame : ℕ) → HasBlocks columns frame) where
  abbrev parts : ℕ → ℕ → List BlockPart
  parts = parts_from rate columns has (λ frame. packet_channel_is rate frame (columns frame) (packets_before columns frame))

  -- one frame more says more
  parts_more : (frame n last : ℕ) → last ≡ frame + n → parts frame (suc n) ≡ parts frame n ++ parts_sent (has last).sent
  parts_more frame zero last is =
      let same : frame ≡ last = omega (arith, is) in
      append-nil (parts_sent (has frame).sent) ∙ ap (λ f. parts_sent (has f).sent) same
  parts_more frame (suc n) last is =
      ap (λ ps. parts_sent (has frame).sent ++ ps) (parts_more (suc frame) n last (omega (arith, is)))
      ∙ sym (append_assoc (parts_sent (has frame).sent) (parts (suc frame) n) (parts_sent (has last).sent))

  -- what is heard of this many frames from one on
  heard_since : (since n : ℕ) → heard_parts (file_triplets (column_packets rate columns since n)) ≡ parts since n
  heard_since since n =
      let all = channel_since rate columns has (λ frame. packet_channel_is rate frame (columns frame) (packets_before columns frame)) since n in
      (channel_heard all.packets all.blocks (file_triplets (column_packets rate columns since n)) all.channel).says ∙ all.says_are

  -- so what is heard of one more
  heard_next : (since n last : ℕ) → last ≡ since + n
      → heard_behind (file_triplets (column_packets rate columns since n)) (packet_triplets (frame_packet rate last (columns last) (channel_packet_of columns last)))
      ≡ parts_sent (has last).sent
  heard_next since n last is =
      let before = file_triplets (column_packets rate columns since n) in
      let packet = frame_packet rate last (columns last) (channel_packet_of columns last) in
      let triplets = packet_triplets packet in
      let all : file_triplets (column_packets rate columns since (suc n)) ≡ before ++ triplets =
      ap file_triplets (packets_more rate columns since n last is) ∙ flat_map-append packet_triplets (column_packets rate columns since n) (packet ∷ [])
      ∙ ap (λ ts. before ++ ts) (append-nil triplets) in
      append_cancel_left (heard_parts before) (heard_behind before triplets) (parts_sent (has last).sent)
      (sym (heard-append before triplets) ∙ ap heard_parts (sym all) ∙ heard_since since (suc n) ∙ parts_more since n last is
      ∙ ap (λ ps. ps ++ parts_sent (has last).sent) (sym (heard_since since n)))

  -- the events of this many frames from one on, as a receiver has them that was reset before it
  pub since_told : (service since n : ℕ)
      → service_events service (column_packets rate columns since n) ≡ told_since rate (λ frame. sent_to service (has frame).sent) since n
  since_told service since zero = refl
  since_told service since (suc n) =
      let last : ℕ = since + n in
      let frames = column_packets rate columns since n in
      let packet = frame_packet rate last (columns last) (channel_packet_of columns last) in
      let told_before = told_since rate (λ frame. sent_to service (has frame).sent) since n in
      ap (service_events service) (packets_more rate columns since n last refl)
      ∙ events_more service frames packet
      ∙ ap (λ es. es ++ frame_events service (file_triplets frames) packet) (since_told service since n)
      ∙ ap (λ es. told_before ++ es) (frame_events-heard service (file_triplets frames) packet)
      ∙ ap (λ es. told_before ++ (Tick rate ∷ es)) (ap (events_of service) (heard_next since n last refl) ∙ sent_told service (has last).sent)

-- from frame 0 on that is what the first frames say
told_first : (rate : Rate) (bytes : ℕ → List ℕ) (n : ℕ) → told_since rate bytes 0 n ≡ told rate bytes n
told_first rate bytes zero = refl
told_first rate bytes (suc n) =
    let same : 0 + n ≡ n = omega arith in
    ap (λ k. told_since rate bytes 0 n ++ (Tick rate ∷ map Byte (bytes k))) same ∙ ap (λ es. es ++ (Tick rate ∷ map Byte (bytes n))) (told_first rate bytes n)

pub columns_told : ColumnsAreTold
columns_told rate columns n has service k below =
    ap (service_events service) (take_packets rate columns 0 n k below) ∙ since_told rate columns has service 0 k
    ∙ told_first rate (λ frame. sent_to service (has frame).sent) k

-- what is said where the same bytes are sent
pub told_same : (rate : Rate) (sent other : ℕ → List ℕ) → ((frame : ℕ) → sent frame ≡ other frame) → (n : ℕ) → told rate sent n ≡ told rate other n
told_same rate sent other same zero = refl
told_same rate sent other same (suc n) =
    ap (λ es. es ++ (Tick rate ∷ map Byte (sent n))) (told_same rate sent other same n)
    ∙ ap (λ bytes. told rate other n ++ (Tick rate ∷ map Byte bytes)) (same n)

-- frames of the same rates and triplets
behind_alike : (service : ℕ) (before : List Triplet) (frames others : List Frame) → CarryTheSame frames others
    → events_behind service before frames ≡ events_behind service before others
behind_alike service before [] [] alike = refl
behind_alike service before [] (other ∷ others) alike = let rates = alike.rates in absurd cc
behind_alike service before (frame ∷ frames) [] alike = let rates = alike.rates in absurd cc
behind_alike service before (frame ∷ frames) (other ∷ others) alike =
    let rates = alike.rates in
    let triplets = alike.triplets in
    let rate : frame.rate ≡ other.rate = cc in
    let own : packet_triplets frame ≡ packet_triplets other = cc in
    let rest = behind_alike service (before ++ packet_triplets other) frames others (record { rates = cc; triplets = cc }) in
    ap (λ r. (Tick r ∷ events_of service (said_behind before (packet_triplets frame))) ++ events_behind service (before ++ packet_triplets frame) frames) rate
    ∙ ap (λ ts. (Tick other.rate ∷ events_of service (said_behind before ts)) ++ events_behind service (before ++ ts) frames) own
    ∙ ap (λ es. frame_events service before other ++ es) rest

pairs_alike : (in_field : FieldNumber) (frames others : List Frame) → map packet_triplets frames ≡ map packet_triplets others
    → received_pairs in_field frames ≡ received_pairs in_field others
pairs_alike in_field [] [] same = refl
pairs_alike in_field [] (other ∷ others) same = absurd cc
pairs_alike in_field (frame ∷ frames) [] same = absurd cc
pairs_alike in_field (frame ∷ frames) (other ∷ others) same =
    let own : packet_triplets frame ≡ packet_triplets other = cc in
    let rest = pairs_alike in_field frames others cc in
    ap (λ ts. field_pairs in_field ts ++ received_pairs in_field frames) own
    ∙ ap (λ ps. field_pairs in_field (packet_triplets other) ++ ps) rest

pub like_frames : LikeFramesSayAlike
like_frames frames others alike = record {
  events = λ service. behind_alike service [] frames others alike;
  pairs = λ in_field. pairs_alike in_field frames others alike.triplets;
}
