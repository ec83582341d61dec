-- The words of frames that came are a words file of their packets, and carry a caption channel, whichever are lost: each frame has at most
-- one channel packet, and all of it (CTA-708-E, caption channel packets).
use Rattle.std.proofs.Common.{◌≡◌, ◌∙◌, ℕ, ◌≤◌, ◌%◌, List, [], ◌∷◌, ◌++◌, All, None, Some, length, map, refl, sym, ap, subst, arith, append-nil}
use Rattle.std.proofs.lemmas.List.Elements.{filter-append}
use Rattle.std.specs.Prelude.{◌||◌, IfSome, Option}
use Rattle.std.specs.List.{flat_map}
use Rattle.cc_base.specs.declared.rate.Rate.{Rate}
use Rattle.cc_data.specs.declared.triplet.Triplet.{Triplet}
use Rattle.cdp_packets.specs.Packets.{Frame}
use Rattle.cdp_packets.specs.PacketTriplets.{packet_triplets}
use Rattle.channel_packets.specs.ChannelPackets.{ChannelPacket, channel_triplets, continues_packet, starts}
use Rattle.channel_packets.proofs.LawLemmas.{packets-same}
use Rattle.service_blocks.specs.Channels.{AreChannel, said}
use Rattle.service_blocks.specs.ServiceBlocks.{Block}
use Rattle.services_files.specs.CarriedChannel.{CarryChannel, file_triplets}
use Rattle.services_files.specs.CaptionChannel.{caption_channel}
use Rattle.words_files.specs.Frames.{IsFileOf}
use Rattle.words_files.specs.Offences.{IsFileUnder}
use Rattle.words_files.proofs.FrameLemmas.{joined}
use Rattle.words_files.proofs.FramesOfLemmas.{file_frames, frames_of_once}
use Rattle.line21_codes.specs.declared.channels.Chan.TheVariants.{Cc1, Cc3}
use Rattle.line21_codes.specs.declared.channels.FieldNumber.TheVariants.{One, Two}
use Rattle.line21_codes.specs.declared.pairs.Pair.{Pair}
use Rattle.line21_shown.proofs.CaptionedLemmas.{AreBytes, frame_bytes as bytes_of_frame}
use Rattle.cue_lists.specs.Listing.{IsFormed, Listing}
use Rattle.cue_lists.specs.Rules.{IsRuled}
use Rattle.cue_lists.specs.declared.lane.Lane.TheVariants.{Channel, Service}
use Rattle.frame_carrier.specs.Columns.{Columns}
use Rattle.frame_carrier.specs.Planned.{IsListPlaced, Placement, channel_pair, columns_of}
use Rattle.services_shown.proofs.RoomLemmas.{blocks_bytes, frames_roomy, has_blocks}
use Rattle.frame_carrier.specs.Carried.{AreByteBlocks, AreBytePairs, AreCarried, AreRoomy, IsBytePair}
use Rattle.frame_carrier.specs.Carrying.{channel_packet, channel_packet_of, frame_bytes, packets_before}
use Rattle.frame_carrier.proofs.CarriedLemmas.{columns_file, frames_carried, packet_channel_is}
use Rattle.services_shown.specs.PlacedServices.{AreServicesPlaced}
use Rattle.services_shown.specs.ServicesCarried.{HasBlocks, IsSent, Sent, sent_bytes}
use Rattle.services_shown.proofs.ChannelLemmas.{channel_twice, with_packet}
use Rattle.cc_conceal.specs.Concealers.{Conceals}
use Rattle.lost.specs.Delivered.{delivered_bytes, delivered_packets, packet_of}
use Rattle.lost.specs.Recovered.{DeliveredAreConcealed}

-- the pairs of a placed list are of bytes
of_bytes : (o : Option Pair) → IfSome o AreBytes → IfSome o IsBytePair
of_bytes None are = tt
of_bytes (Some pair) are = record { a = are.0; b = are.1 }

byte_pairs : (list : Listing) (placed : Placement) → IsFormed list → AreBytePairs (columns_of list placed)
byte_pairs list placed formed One frame =
    of_bytes (channel_pair list Cc1 (placed (Channel Cc1)) frame) (bytes_of_frame list Cc1 (placed (Channel Cc1)) formed.cues frame)
byte_pairs list placed formed Two frame =
    of_bytes (channel_pair list Cc3 (placed (Channel Cc3)) frame) (bytes_of_frame list Cc3 (placed (Channel Cc3)) formed.cues frame)

-- triplets that are a caption channel
record Carries (triplets : List Triplet) : Type 0 where
  packets : List ChannelPacket
  blocks : List (List Block)
  channel : AreChannel packets blocks triplets

carries_none : Carries []
carries_none = record {
  packets = [];
  blocks = [];
  channel = record { packets_are = record { strays = []; stretches = []; spelled = refl; strays_are = refl; stretches_are = refl; packets_are = refl }; blocks_are = tt };
}

-- a frame's channel packet in front
carries_more : (count : ℕ) (bytes : List ℕ) (sent : List Sent) (rest : List Triplet) → bytes ≡ sent_bytes sent → All IsSent sent → length bytes ≤ 35
    → Carries rest → Carries (channel_packet count bytes ++ rest)
carries_more count [] sent rest is all few carries = carries
carries_more count (byte ∷ bytes) sent rest is all few carries =
    let c = with_packet None count sent (byte ∷ bytes) (said (Some (count % 4)) carries.packets carries.blocks) rest tt is all (omega arith) few
    (record { packets = carries.packets; blocks = carries.blocks; channel = carries.channel; says_are = refl }) in
    record { packets = c.packets; blocks = c.blocks; channel = c.channel }

module _ (rate : Rate) (columns : Columns) (has : (frame : ℕ) → HasBlocks columns frame) where
  came_carries : (came : List ℕ) → Carries (channel_triplets (file_triplets (map (packet_of rate columns) came)))
  came_carries [] = carries_none
  came_carries (k ∷ came) =
      let rest = file_triplets (map (packet_of rate columns) came) in
      let here = has k in
      subst Carries
      (sym (filter-append (λ t. starts t || continues_packet t) (packet_triplets (packet_of rate columns k)) rest
      ∙ ap (λ (l : List Triplet). l ++ channel_triplets rest) (packet_channel_is rate k (columns k) (packets_before columns k))))
      (carries_more (packets_before columns k) (columns k).blocks.items here.sent (channel_triplets rest) here.blocks here.are here.few (came_carries came))

  came_channel : (came : List ℕ) → CarryChannel (map (packet_of rate columns) came)
  came_channel came =
      let triplets = file_triplets (map (packet_of rate columns) came) in
      let all = came_carries came in
      record {
        packets = all.packets;
        blocks = all.blocks;
        channel = record {
          packets_are = packets-same all.packets (channel_triplets triplets) triplets (channel_twice triplets) all.channel.packets_are;
          blocks_are = all.channel.blocks_are;
        };
      }

module _ (rate : Rate) (columns : Columns) (are : AreBytePairs columns) (blocks : AreByteBlocks columns) (roomy : AreRoomy rate columns) where
  abbrev bytes_of : List ℕ → List ℕ
  bytes_of came = flat_map (λ frame. frame_bytes rate frame (columns frame) (channel_packet_of columns frame)) came

  pub came_file : (came : List ℕ) → IsFileOf (map (packet_of rate columns) came) (bytes_of came)
  came_file [] = columns_file rate columns are blocks roomy 0 0
  came_file (k ∷ came) =
      let one : List ℕ = frame_bytes rate k (columns k) (channel_packet_of columns k) in
      joined (packet_of rate columns k ∷ []) (map (packet_of rate columns) came) one (bytes_of came)
      (subst (IsFileOf (packet_of rate columns k ∷ [])) (append-nil one) (columns_file rate columns are blocks roomy k 1)) (came_file came)

-- the frames of a placed list are carried, and the ones that came are a words file
module _ (list : Listing) (placed : Placement) (formed : IsFormed list) (ruled : IsRuled list) (is : IsListPlaced list placed) where
  abbrev services : AreServicesPlaced list placed
  services service = is (Service service)

  pub list_carried : AreCarried list.rate (columns_of list placed) list.frames
  list_carried =
      frames_carried list.rate (columns_of list placed) list.frames (byte_pairs list placed formed) (blocks_bytes list placed formed ruled services)
      (frames_roomy list placed formed ruled services)

  pub came_words : (came : List ℕ) → IsFileUnder caption_channel (delivered_packets list placed came) (delivered_bytes list placed came)
  came_words came = record {
    file = came_file list.rate (columns_of list placed) (byte_pairs list placed formed) (blocks_bytes list placed formed ruled services)
        (frames_roomy list placed formed ruled services) came;
    accepted = came_channel list.rate (columns_of list placed) (has_blocks list placed formed ruled services) came;
  }

pub delivered_concealed : DeliveredAreConcealed
delivered_concealed list placed formed ruled is came =
    let words = came_words list placed formed ruled is came in
    let frames : List Frame = delivered_packets list placed came in
    let bytes : List ℕ = delivered_bytes list placed came in (
      words,
      λ receiver had.
          subst (λ (fs : List Frame). Conceals fs receiver)
          (frames_of_once caption_channel had.frames frames bytes had.frames_are (file_frames caption_channel frames bytes words)) had.conceals,
    )
