-- Frames with captions in place of their own say what the frames of the programme say.
use Rattle.std.proofs.Common.{◌≡◌, ℕ, zero, suc, ◌+◌, ◌<◌, List, [], ◌∷◌, ◌++◌, All, length, map, refl, ap, sym, subst, ◌∙◌, append-nil, length-append, arith, add-one}
use Rattle.std.proofs.lemmas.List.{map-append}
use Rattle.std.proofs.lemmas.List.Elements.{All-cons, All-head, All-nil, All-tail}
use Rattle.anc_words.proofs.ByteLemmas.{IsByte}
use Rattle.cc_data.specs.declared.triplet.Triplet.{Triplet}
use Rattle.cdp_packets.specs.Packets.{Frame}
use Rattle.cdp_packets.specs.PacketTriplets.{packet_triplets}
use Rattle.cdp_packets.specs.Written.{cc_data_section}
use Rattle.cdp_packets.proofs.SectionLemmas.{cc_data_section-triplets}
use Rattle.cue_list_commands.specs.Carried.{AreCarried, AreRoomy}
use Rattle.cue_list_commands.specs.Carrying.{channel_packet_of, column_packets, frame_packet, packets_before}
use Rattle.cue_list_commands.proofs.CarryingLemmas.{frame_kinds, frame_number, packet_kinds, triplets_many}
use Rattle.packet_inserter.specs.Insertion.{IsInserted}
use Rattle.packet_inserter.proofs.OneWayLemmas.{inserted-triplets}
use Rattle.cue_list_commands.specs.Told.{CarryTheSame}
use Rattle.words_files.proofs.CarriedWordsLemmas.{IsOfBytes, all_of_bytes}
use Rattle.cue_list_commands.specs.Framing.{Framing}
use Rattle.insert_commands.specs.Captions.{captions_of, padded}
use Rattle.insert_commands.specs.Soundness.{HaveCaptions, HaveRate}
use Rattle.insert_commands.specs.Soundness.HaveCaptions.{none as no_frame, more as one_more}
use Rattle.insert_commands.proofs.FileLemmas.{CanBeCarried}

-- the packet of a frame of a programme
abbrev packet_at : Framing → ℕ → Frame
packet_at list frame = frame_packet list.rate frame (padded list frame) (channel_packet_of (padded list) frame)

-- one packet more at the end
packets_more : (list : Framing) (frame n : ℕ)
    → column_packets list.rate (padded list) frame (suc n) ≡ column_packets list.rate (padded list) frame n ++ packet_at list (frame + n) ∷ []
packets_more list frame zero = let e : frame ≡ frame + 0 = omega arith in ap (λ f. packet_at list f ∷ []) e
packets_more list frame (suc n) =
    let e : suc frame + n ≡ frame + suc n = omega arith in
    ap (λ rest. packet_at list frame ∷ rest) (packets_more list (suc frame) n)
    ∙ ap (λ f. packet_at list frame ∷ (column_packets list.rate (padded list) (suc frame) n ++ packet_at list f ∷ [])) e

-- from frame 0 on
packets_first : (list : Framing) (n : ℕ) → column_packets list.rate (padded list) 0 (suc n) ≡ column_packets list.rate (padded list) 0 n ++ packet_at list n ∷ []
packets_first list n =
    let e : 0 + n ≡ n = omega arith in
    packets_more list 0 n ∙ ap (λ f. column_packets list.rate (padded list) 0 n ++ packet_at list f ∷ []) e

-- the captions of a frame have kinds
pub captions_kinds : (list : Framing) (frame : ℕ) → All (λ t. t.kind < 4) (captions_of list frame)
captions_kinds list frame =
    frame_kinds list.rate (padded list frame) (channel_packet_of (padded list) frame)
    (packet_kinds (packets_before (padded list) frame) (padded list frame).blocks.items)

-- so they are its packet's
packet_captions : (list : Framing) (frame : ℕ) → packet_triplets (packet_at list frame) ≡ captions_of list frame
packet_captions list frame = append-nil _ ∙ cc_data_section-triplets (captions_of list frame) (captions_kinds list frame)

-- the last of frames
last_is : (P : Frame → Type 0) (front : List Frame) (frame : Frame) → All P (front ++ frame ∷ []) → P frame
last_is P [] frame all = All-head P frame [] all
last_is P (f ∷ front) frame all = last_is P front frame (All-tail P f (front ++ frame ∷ []) all)

front_is : (P : Frame → Type 0) (front : List Frame) (frame : Frame) → All P (front ++ frame ∷ []) → All P front
front_is P [] frame all = All-nil P
front_is P (f ∷ front) frame all =
    All-cons P f front (All-head P f (front ++ frame ∷ []) all) (front_is P front frame (All-tail P f (front ++ frame ∷ []) all))

-- captions of a programme that is carried can be carried
pub can_be_carried : (list : Framing) → AreRoomy list.rate (padded list) → ((n : ℕ) → AreCarried list.rate (padded list) n)
    → (frame : ℕ) → CanBeCarried (captions_of list frame)
can_be_carried list roomy carried frame =
    let number = frame_number list.rate (padded list frame) (channel_packet_of (padded list) frame) (roomy frame) in
    let many = (triplets_many list.rate).1 in
    let file = (carried (suc frame)).file in
    let all = all_of_bytes file.packets (column_packets list.rate (padded list) 0 (suc frame)) file.carried in
    let own = last_is IsOfBytes (column_packets list.rate (padded list) 0 frame) (packet_at list frame) (subst (All IsOfBytes) (packets_first list frame) all) in
    record {
      few = omega (arith, number, many);
      kinds = captions_kinds list frame;
      bytes = subst (All IsByte) (append-nil (cc_data_section (captions_of list frame))) own.sections;
    }

-- one more of frames that say the same says the same
by_last : {B : Type 0} (f : Frame → B) (xs ys all others : List Frame) (x y : Frame) → all ≡ xs ++ x ∷ [] → others ≡ ys ++ y ∷ []
    → map f xs ≡ map f ys → f x ≡ f y → map f all ≡ map f others
by_last f xs ys all others x y all_is others_is front last =
    ap (map f) all_is ∙ map-append f xs (x ∷ []) ∙ ap (λ l. l ++ f x ∷ []) front ∙ ap (λ b. map f ys ++ b ∷ []) last
    ∙ sym (map-append f ys (y ∷ [])) ∙ ap (map f) (sym others_is)

-- frames with the captions of a programme say what its own frames say
captions_alike : (captions : ℕ → List Triplet) (frames news : List Frame) → HaveCaptions captions frames news → (list : Framing)
    → captions ≡ captions_of list → HaveRate list.rate frames → CarryTheSame news (column_packets list.rate (padded list) 0 (length frames))
captions_alike _ _ _ (no_frame _) list own rates = record { rates = refl; triplets = refl }
captions_alike _ _ _ (one_more captions frames news all all_news old new before inserted all_is news_is) list own rates =
    let of_all = subst (HaveRate list.rate) all_is rates in
    let had = captions_alike captions frames news before list own (front_is (λ (f : Frame). f.rate ≡ list.rate) frames old of_all) in
    let n = length frames in
    let rate : new.rate ≡ list.rate = inserted.rate ∙ last_is (λ (f : Frame). f.rate ≡ list.rate) frames old of_all in
    let triplets : packet_triplets new ≡ packet_triplets (packet_at list n) =
    inserted-triplets (captions_of list n) old new (captions_kinds list n) (subst (λ (c : ℕ → List Triplet). IsInserted (c n) old new) own inserted)
    ∙ sym (packet_captions list n) in
    let long : length all ≡ suc n = ap length all_is ∙ length-append frames (old ∷ []) ∙ add-one n in
    let packets : column_packets list.rate (padded list) 0 (length all) ≡ column_packets list.rate (padded list) 0 n ++ packet_at list n ∷ [] =
    ap (column_packets list.rate (padded list) 0) long ∙ packets_first list n in
    let others = column_packets list.rate (padded list) 0 (length all) in
    let first = column_packets list.rate (padded list) 0 n in
    record {
      rates = by_last (λ (f : Frame). f.rate) news first all_news others new (packet_at list n) news_is packets had.rates rate;
      triplets = by_last packet_triplets news first all_news others new (packet_at list n) news_is packets had.triplets triplets;
    }

pub say_alike : (list : Framing) (frames news : List Frame) → HaveCaptions (captions_of list) frames news → HaveRate list.rate frames
    → CarryTheSame news (column_packets list.rate (padded list) 0 (length frames))
say_alike list frames news have rates = captions_alike (captions_of list) frames news have list refl rates
