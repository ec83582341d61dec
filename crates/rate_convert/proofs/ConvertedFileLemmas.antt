-- What the frames of a words file become is a words file, over all layers.
use Rattle.std.proofs.Common.{◌≡◌, ℕ, suc, ◌+◌, ◌*◌, ◌==◌, Bool, true, false, List, [], ◌∷◌, ◌++◌, All, append_assoc, refl, sym, ap, ◌∙◌, arith}
use Rattle.std.specs.Prelude.{if◌then◌else◌, ◌||◌}
use Rattle.std.specs.List.{concat, flat_map}
use Rattle.std.proofs.lemmas.List.Elements.{All-append, All-cons, All-head, All-nil, All-tail, filter-append}
use Rattle.anc_words.proofs.ByteLemmas.{IsByte}
use Rattle.anc_words.proofs.WordsFileLemmas.{IsWordsFile-nil}
use Rattle.cc_base.specs.declared.rate.Rate.TheVariants.{F5994}
use Rattle.cc_data.specs.Triplets.{filler, triplet_of, triplets_of}
use Rattle.cc_data.specs.declared.triplet.Triplet.{Triplet}
use Rattle.cdp_packets.specs.PacketTriplets.{packet_triplets, section_triplets}
use Rattle.cdp_packets.specs.Packets.{Frame}
use Rattle.channel_packets.specs.ChannelPackets.{channel_triplets, continues_packet, starts}
use Rattle.services_files.specs.CarriedChannel.{CarryChannel, file_triplets}
use Rattle.words_files.specs.CarriedWords.{carried_words}
use Rattle.words_files.specs.Frames.{IsFileOf}
use Rattle.words_files.specs.Frames.CarryFrames.{none}
use Rattle.words_files.proofs.CarriedWordsLemmas.{IsByteTriplet, IsOfBytes, all_of_bytes, triplets_file}
use Rattle.words_files.proofs.FrameLemmas.{joined}
use Rattle.words_files.proofs.WordLemmas.{All-split}
use Rattle.rate_convert.specs.Conversion.{IsConvertible, conversion, conversion_from, first_half, first_half_of, second_half, second_half_of}
use Rattle.rate_convert.specs.ConvertedFrames.{ConvertedAreFile}
use Rattle.rate_convert.specs.HalvedFrames.{AllHalves}
use Rattle.rate_convert.proofs.ConvertedLemmas.{converted_halves, first_half_all, first_ten, second_half_all, second_ten}

-- the triplets of sections of bytes
read_bytes : (bytes : List ℕ) → All IsByte bytes → All IsByteTriplet (triplets_of bytes)
read_bytes [] all = All-nil IsByteTriplet
read_bytes (first ∷ []) all = All-nil IsByteTriplet
read_bytes (first ∷ (a ∷ [])) all = All-nil IsByteTriplet
read_bytes (first ∷ (a ∷ (b ∷ rest))) all =
    let behind = All-tail IsByte first (a ∷ (b ∷ rest)) all in
    let last = All-tail IsByte a (b ∷ rest) behind in
    All-cons IsByteTriplet (triplet_of first a b) (triplets_of rest)
    (record { kind = omega arith; a = All-head IsByte a (b ∷ rest) behind; b = All-head IsByte b rest last })
    (read_bytes rest (All-tail IsByte b rest last))

section_bytes : (section : List ℕ) → All IsByte section → All IsByteTriplet (section_triplets section)
section_bytes [] all = All-nil IsByteTriplet
section_bytes (id ∷ []) all = All-nil IsByteTriplet
section_bytes (id ∷ (second ∷ rest)) all = by_test (id == 0x72)
  where
    by_test : (b : Bool) → All IsByteTriplet (if b then triplets_of rest else [])
    by_test true = read_bytes rest (All-tail IsByte second rest (All-tail IsByte id (second ∷ rest) all))
    by_test false = All-nil IsByteTriplet

sections_bytes : (sections : List (List ℕ)) → All IsByte (concat sections) → All IsByteTriplet (flat_map section_triplets sections)
sections_bytes [] all = All-nil IsByteTriplet
sections_bytes (section ∷ sections) all =
    let parts = All-split IsByte section (concat sections) all in
    All-append IsByteTriplet (section_triplets section) (flat_map section_triplets sections) (section_bytes section parts.0) (sections_bytes sections parts.1)

filler_bytes : IsByteTriplet filler
filler_bytes = record { kind = omega arith; a = omega arith; b = omega arith }

-- the words of a half are a file of it
first_file : (number : ℕ) (frame : Frame) → All IsByteTriplet (packet_triplets frame) → IsFileOf (first_half_of number frame ∷ []) (carried_words (first_half_of number frame))
first_file number frame are =
    let ten = first_ten (packet_triplets frame) in
    triplets_file F5994 (2 * number) (first_half (packet_triplets frame)) (omega (arith, ten)) (first_half_all IsByteTriplet filler_bytes (packet_triplets frame) are)

second_file : (number : ℕ) (frame : Frame) → IsConvertible frame → All IsByteTriplet (packet_triplets frame)
    → IsFileOf (second_half_of number frame ∷ []) (carried_words (second_half_of number frame))
second_file number frame is are =
    let ten = second_ten (packet_triplets frame) is.most in
    triplets_file F5994 (2 * number + 1) (second_half (packet_triplets frame)) (omega (arith, ten)) (second_half_all IsByteTriplet filler_bytes (packet_triplets frame) are)

-- and the words of all halves
conversion_file : (number : ℕ) (frames : List Frame) → All IsConvertible frames → All IsOfBytes frames
    → IsFileOf (conversion_from number frames) (flat_map carried_words (conversion_from number frames))
conversion_file number [] all are = record { packets = []; file = IsWordsFile-nil; carried = none }
conversion_file number (frame ∷ frames) all are =
    let is = All-head IsConvertible frame frames all in
    let bytes = sections_bytes frame.sections (All-head IsOfBytes frame frames are).sections in
    let one = first_half_of number frame in
    let two = second_half_of number frame in
    let rest = conversion_from (suc number) frames in
    joined (one ∷ []) (two ∷ rest) (carried_words one) (carried_words two ++ flat_map carried_words rest) (first_file number frame bytes)
    (joined (two ∷ []) rest (carried_words two) (flat_map carried_words rest) (second_file number frame is bytes)
    (conversion_file (suc number) frames (All-tail IsConvertible frame frames all) (All-tail IsOfBytes frame frames are)))

-- halves carry the channel that the frames carry
channel_append : (xs ys : List Triplet) → channel_triplets (xs ++ ys) ≡ channel_triplets xs ++ channel_triplets ys
channel_append xs ys = filter-append (λ (triplet : Triplet). starts triplet || continues_packet triplet) xs ys

pub same_channel : (frames others : List Frame) → AllHalves frames others → channel_triplets (file_triplets others) ≡ channel_triplets (file_triplets frames)
same_channel [] [] all = refl
same_channel [] (one ∷ others) all = absurd all
same_channel (frame ∷ frames) [] all = absurd all
same_channel (frame ∷ frames) (one ∷ []) all = absurd all
same_channel (frame ∷ frames) (one ∷ (two ∷ others)) all =
    channel_append (packet_triplets one) (packet_triplets two ++ file_triplets others)
    ∙ ap (λ (ts : List Triplet). channel_triplets (packet_triplets one) ++ ts) (channel_append (packet_triplets two) (file_triplets others))
    ∙ sym (append_assoc (channel_triplets (packet_triplets one)) (channel_triplets (packet_triplets two)) (channel_triplets (file_triplets others)))
    ∙ ap (λ (ts : List Triplet). (channel_triplets (packet_triplets one) ++ channel_triplets (packet_triplets two)) ++ ts) (same_channel frames others all.1)
    ∙ ap (λ (ts : List Triplet). ts ++ channel_triplets (file_triplets frames)) (sym all.0.service)
    ∙ sym (channel_append (packet_triplets frame) (file_triplets frames))

pub carried_alike : (frames others : List Frame) → AllHalves frames others → CarryChannel frames → CarryChannel others
carried_alike frames others all carried =
    let packets = carried.channel.packets_are in
    record {
      packets = carried.packets;
      blocks = carried.blocks;
      channel = record {
        packets_are = record {
          strays = packets.strays;
          stretches = packets.stretches;
          spelled = same_channel frames others all ∙ packets.spelled;
          strays_are = packets.strays_are;
          stretches_are = packets.stretches_are;
          packets_are = packets.packets_are;
        };
        blocks_are = carried.channel.blocks_are;
      };
    }

pub converted_file : ConvertedAreFile
converted_file frames bytes file all = record {
  file = conversion_file 0 frames all (all_of_bytes file.file.packets frames file.file.carried);
  accepted = carried_alike frames (conversion frames) (converted_halves frames all) file.accepted;
}
