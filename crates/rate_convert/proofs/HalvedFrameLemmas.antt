-- Frames that are cut in two halves.
use Rattle.std.proofs.Common.{◌≡◌, ℕ, ◌||◌, None, map, List, [], ◌∷◌, ◌++◌, drop, length, refl, sym, ap, ◌∙◌, append_assoc}
use Rattle.std.proofs.lemmas.List.Elements.{filter-append}
use Rattle.std.proofs.lemmas.List.{append_cancel_left}
use Rattle.std.specs.List.{flat_map}
use Rattle.cc_base.specs.declared.rate.Rate.TheVariants.{F2997, F5994}
use Rattle.cc_data.specs.declared.triplet.Triplet.{Triplet}
use Rattle.cdp_packets.specs.Packets.{Frame}
use Rattle.cdp_packets.specs.PacketTriplets.{packet_triplets}
use Rattle.channel_packets.specs.ChannelPackets.{channel_triplets, continues_packet, starts}
use Rattle.line21_codes.specs.declared.channels.FieldNumber.{FieldNumber}
use Rattle.line21_codes.specs.declared.pairs.Pair.{Pair}
use Rattle.dtvcc_screen.specs.Meaning.{Event, Tick}
use Rattle.service_blocks.specs.declared.parts.BlockPart.{BlockPart}
use Rattle.service_blocks.specs.Channels.{said}
use Rattle.services_files.specs.Events.{event_of, events_behind, events_of}
use Rattle.services_files.specs.Said.{blocks_in, packets_started, said_behind, said_in}
use Rattle.services_files.proofs.SaidLemmas.{said-append}
use Rattle.words_files.specs.Received.{field_pairs, received_pairs}
use Rattle.rate_convert.specs.HalvedFrames.{AllHalves, AreHalves, HalvedFramesTellHalves, in_halves, in_wholes, told_halves}

flat_map-append : (f : BlockPart → List Event) (xs ys : List BlockPart) → flat_map f (xs ++ ys) ≡ flat_map f xs ++ flat_map f ys
flat_map-append f [] ys = refl
flat_map-append f (x ∷ xs) ys = ap (λ (l : List Event). f x ++ l) (flat_map-append f xs ys) ∙ sym (append_assoc (f x) (flat_map f xs) (flat_map f ys))

-- what is said rests on the triplets of the channel
said_by : (xs ys : List Triplet) → channel_triplets xs ≡ channel_triplets ys → said_in xs ≡ said_in ys
said_by xs ys same = ap (λ (l : List Triplet). said None (packets_started l) (map blocks_in (packets_started l))) same

channel_append : (xs ys : List Triplet) → channel_triplets (xs ++ ys) ≡ channel_triplets xs ++ channel_triplets ys
channel_append xs ys = filter-append (λ (triplet : Triplet). starts triplet || continues_packet triplet) xs ys

channel_same : (b c x y : List Triplet) → channel_triplets b ≡ channel_triplets c → channel_triplets x ≡ channel_triplets y → channel_triplets (b ++ x) ≡ channel_triplets (c ++ y)
channel_same b c x y before same =
    channel_append b x ∙ ap (λ (l : List Triplet). l ++ channel_triplets x) before ∙ ap (λ (l : List Triplet). channel_triplets c ++ l) same ∙ sym (channel_append c y)

behind_same : (b c x y : List Triplet) → channel_triplets b ≡ channel_triplets c → channel_triplets x ≡ channel_triplets y → said_behind b x ≡ said_behind c y
behind_same b c x y before same =
    ap (λ (l : List BlockPart). drop (length l) (said_in (b ++ x))) (said_by b c before)
    ∙ ap (λ (l : List BlockPart). drop (length (said_in c)) l) (said_by (b ++ x) (c ++ y) (channel_same b c x y before same))

-- what two say, one after the other
behind_two : (b x y : List Triplet) → said_behind b (x ++ y) ≡ said_behind b x ++ said_behind (b ++ x) y
behind_two b x y =
    append_cancel_left (said_in b) (said_behind b (x ++ y)) (said_behind b x ++ said_behind (b ++ x) y)
    (sym (said-append b (x ++ y)) ∙ ap said_in (sym (append_assoc b x y)) ∙ said-append (b ++ x) y
    ∙ ap (λ (l : List BlockPart). l ++ said_behind (b ++ x) y) (said-append b x) ∙ append_assoc (said_in b) (said_behind b x) (said_behind (b ++ x) y))

-- the events of one frame and of its halves
events_two : (service : ℕ) (b c : List Triplet) (frame one two : Frame) → channel_triplets b ≡ channel_triplets c → AreHalves frame one two
    → events_of service (said_behind b (packet_triplets frame))
    ≡ events_of service (said_behind c (packet_triplets one)) ++ events_of service (said_behind (c ++ packet_triplets one) (packet_triplets two))
events_two service b c frame one two before are =
    ap (events_of service)
    (behind_same b c (packet_triplets frame) (packet_triplets one ++ packet_triplets two) before (are.service ∙ sym (channel_append (packet_triplets one) (packet_triplets two)))
    ∙ behind_two c (packet_triplets one) (packet_triplets two))
    ∙ flat_map-append (event_of service) (said_behind c (packet_triplets one)) (said_behind (c ++ packet_triplets one) (packet_triplets two))

channel_next : (b c : List Triplet) (frame one two : Frame) → channel_triplets b ≡ channel_triplets c → AreHalves frame one two
    → channel_triplets (b ++ packet_triplets frame) ≡ channel_triplets ((c ++ packet_triplets one) ++ packet_triplets two)
channel_next b c frame one two before are =
    channel_same b c (packet_triplets frame) (packet_triplets one ++ packet_triplets two) before (are.service ∙ sym (channel_append (packet_triplets one) (packet_triplets two)))
    ∙ ap channel_triplets (sym (append_assoc c (packet_triplets one) (packet_triplets two)))

wholes_are : (service : ℕ) (b c : List Triplet) (frames others : List Frame) → channel_triplets b ≡ channel_triplets c → AllHalves frames others
    → events_behind service b frames ≡ in_wholes (told_halves service c others)
wholes_are service b c [] [] before all = refl
wholes_are service b c [] (one ∷ others) before all = absurd all
wholes_are service b c (frame ∷ frames) [] before all = absurd all
wholes_are service b c (frame ∷ frames) (one ∷ []) before all = absurd all
wholes_are service b c (frame ∷ frames) (one ∷ (two ∷ others)) before all =
    ap (λ r. (Tick r ∷ events_of service (said_behind b (packet_triplets frame))) ++ events_behind service (b ++ packet_triplets frame) frames) all.0.rate
    ∙ ap (λ (l : List Event). (Tick F2997 ∷ l) ++ events_behind service (b ++ packet_triplets frame) frames) (events_two service b c frame one two before all.0)
    ∙ ap (λ (l : List Event). (Tick F2997 ∷ (events_of service (said_behind c (packet_triplets one)) ++ events_of service (said_behind (c ++ packet_triplets one) (packet_triplets two)))) ++ l)
    (wholes_are service (b ++ packet_triplets frame) ((c ++ packet_triplets one) ++ packet_triplets two) frames others (channel_next b c frame one two before all.0) all.1)

halves_are : (service : ℕ) (c : List Triplet) (frames others : List Frame) → AllHalves frames others → events_behind service c others ≡ in_halves (told_halves service c others)
halves_are service c [] [] all = refl
halves_are service c [] (one ∷ others) all = absurd all
halves_are service c (frame ∷ frames) [] all = absurd all
halves_are service c (frame ∷ frames) (one ∷ []) all = absurd all
halves_are service c (frame ∷ frames) (one ∷ (two ∷ others)) all =
    ap (λ r. (Tick r ∷ events_of service (said_behind c (packet_triplets one))) ++ ((Tick two.rate ∷ events_of service (said_behind (c ++ packet_triplets one) (packet_triplets two)))
    ++ events_behind service ((c ++ packet_triplets one) ++ packet_triplets two) others)) all.0.rate_one
    ∙ ap (λ r. (Tick F5994 ∷ events_of service (said_behind c (packet_triplets one))) ++ ((Tick r ∷ events_of service (said_behind (c ++ packet_triplets one) (packet_triplets two)))
    ++ events_behind service ((c ++ packet_triplets one) ++ packet_triplets two) others)) all.0.rate_two
    ∙ ap (λ (l : List Event). (Tick F5994 ∷ events_of service (said_behind c (packet_triplets one))) ++ ((Tick F5994 ∷ events_of service (said_behind (c ++ packet_triplets one) (packet_triplets two))) ++ l))
    (halves_are service ((c ++ packet_triplets one) ++ packet_triplets two) frames others all.1)

pairs_are : (in_field : FieldNumber) (frames others : List Frame) → AllHalves frames others → received_pairs in_field others ≡ received_pairs in_field frames
pairs_are in_field [] [] all = refl
pairs_are in_field [] (one ∷ others) all = absurd all
pairs_are in_field (frame ∷ frames) [] all = absurd all
pairs_are in_field (frame ∷ frames) (one ∷ []) all = absurd all
pairs_are in_field (frame ∷ frames) (one ∷ (two ∷ others)) all =
    ap (λ (l : List Pair). field_pairs in_field (packet_triplets one) ++ (field_pairs in_field (packet_triplets two) ++ l)) (pairs_are in_field frames others all.1)
    ∙ sym (append_assoc (field_pairs in_field (packet_triplets one)) (field_pairs in_field (packet_triplets two)) (received_pairs in_field frames))
    ∙ ap (λ (l : List Pair). l ++ received_pairs in_field frames) (sym (all.0.pairs in_field))

pub halved_frames : HalvedFramesTellHalves
halved_frames frames others all = record {
  pairs = λ in_field. pairs_are in_field frames others all;
  wholes = λ service. wholes_are service [] [] frames others refl all;
  halves = λ service. halves_are service [] frames others all;
}
