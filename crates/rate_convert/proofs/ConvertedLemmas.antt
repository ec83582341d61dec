-- Frames that can be converted are cut in halves, of ten triplets each.
use Rattle.std.proofs.Common.{◌≡◌, ℕ, suc, ◌+◌, ◌-◌, ◌*◌, ◌<◌, ◌≤◌, ◌==◌, Bool, true, false, List, [], ◌∷◌, ◌++◌, All, append-nil, drop, length, length-append, length-drop, replicate, take, refl, sym, ap, ◌∙◌, arith}
use Rattle.std.specs.Prelude.{if◌then◌else◌, get_or}
use Rattle.std.specs.List.{flat_map}
use Rattle.std.proofs.lemmas.List.{length-replicate, length-take}
use Rattle.std.proofs.lemmas.List.Elements.{All-append, All-cons, All-drop, All-filter, All-head, All-nil, All-replicate, All-tail, All-take}
use Rattle.cc_base.specs.declared.rate.Rate.TheVariants.{F5994}
use Rattle.cc_data.specs.Triplets.{filler, triplet_of, triplets_of}
use Rattle.cc_data.specs.declared.triplet.Triplet.{Triplet}
use Rattle.cdp_packets.specs.PacketTriplets.{packet_triplets, section_triplets}
use Rattle.cdp_packets.specs.Packets.{Frame}
use Rattle.cdp_packets.proofs.SectionLemmas.{cc_data_section-triplets}
use Rattle.channel_packets.specs.ChannelPackets.{channel_triplets, continues_packet, starts}
use Rattle.line21_codes.specs.declared.channels.FieldNumber.TheVariants.{One, Two}
use Rattle.words_files.specs.CarriedWords.{triplets_packet}
use Rattle.words_files.specs.Received.{field_pairs}
use Rattle.rate_convert.specs.Conversion.{IsConvertible, conversion_from, first_half, first_half_of, is_of, of_field, second_half, second_half_of, ten_triplets}
use Rattle.rate_convert.specs.ConvertedFrames.{ConvertedAreHalves, HalvesHaveTen}
use Rattle.rate_convert.specs.HalvedFrames.{AllHalves, AreHalves}
use Rattle.rate_convert.proofs.CutLemmas.{triplets_cut}
use Rattle.std.specs.Prelude.{◌||◌}

-- a kind has two bits
abbrev IsKind : Triplet → Type 0
IsKind t = t.kind < 4

read_kinds : (bytes : List ℕ) → All IsKind (triplets_of bytes)
read_kinds [] = All-nil IsKind
read_kinds (first ∷ []) = All-nil IsKind
read_kinds (first ∷ (a ∷ [])) = All-nil IsKind
read_kinds (first ∷ (a ∷ (b ∷ rest))) = All-cons IsKind (triplet_of first a b) (triplets_of rest) (omega arith) (read_kinds rest)

section_kinds : (section : List ℕ) → All IsKind (section_triplets section)
section_kinds [] = All-nil IsKind
section_kinds (id ∷ []) = All-nil IsKind
section_kinds (id ∷ (second ∷ rest)) = by_test (id == 0x72)
  where
    by_test : (b : Bool) → All IsKind (if b then triplets_of rest else [])
    by_test true = read_kinds rest
    by_test false = All-nil IsKind

sections_kinds : (sections : List (List ℕ)) → All IsKind (flat_map section_triplets sections)
sections_kinds [] = All-nil IsKind
sections_kinds (section ∷ sections) =
    All-append IsKind (section_triplets section) (flat_map section_triplets sections) (section_kinds section) (sections_kinds sections)

-- what holds of the triplets of a frame, and of a filler, holds of its halves' triplets
first_all : (P : Triplet → Type 0) → P filler → (ts : List Triplet) → All P ts → P (get_or ts 0 filler)
first_all P fill [] all = fill
first_all P fill (t ∷ ts) all = All-head P t ts all

ten_all : (P : Triplet → Type 0) → P filler → (field channel : List Triplet) → All P field → All P channel → All P (ten_triplets field channel)
ten_all P fill field channel one more =
    All-cons P (get_or field 0 filler) (channel ++ replicate (9 - length channel) filler) (first_all P fill field one)
    (All-append P channel (replicate (9 - length channel) filler) more (All-replicate P (9 - length channel) filler fill))

channel_all : (P : Triplet → Type 0) (ts : List Triplet) → All P ts → All P (channel_triplets ts)
channel_all P ts all = All-filter (λ (triplet : Triplet). starts triplet || continues_packet triplet) P ts all

pub first_half_all : (P : Triplet → Type 0) → P filler → (ts : List Triplet) → All P ts → All P (first_half ts)
first_half_all P fill ts all =
    ten_all P fill (of_field One ts) (take 9 (channel_triplets ts)) (All-filter (is_of One) P ts all) (All-take P 9 (channel_triplets ts) (channel_all P ts all))

pub second_half_all : (P : Triplet → Type 0) → P filler → (ts : List Triplet) → All P ts → All P (second_half ts)
second_half_all P fill ts all =
    ten_all P fill (of_field Two ts) (drop 9 (channel_triplets ts)) (All-filter (is_of Two) P ts all) (All-drop P 9 (channel_triplets ts) (channel_all P ts all))

-- the triplets of the halves' packets
half_triplets : (number : ℕ) (ts : List Triplet) → All IsKind ts → packet_triplets (triplets_packet F5994 number ts) ≡ ts
half_triplets number ts kinds = append-nil _ ∙ cc_data_section-triplets ts kinds

pub first_triplets : (number : ℕ) (frame : Frame) → packet_triplets (first_half_of number frame) ≡ first_half (packet_triplets frame)
first_triplets number frame =
    half_triplets (2 * number) (first_half (packet_triplets frame)) (first_half_all IsKind (omega arith) (packet_triplets frame) (sections_kinds frame.sections))

pub second_triplets : (number : ℕ) (frame : Frame) → packet_triplets (second_half_of number frame) ≡ second_half (packet_triplets frame)
second_triplets number frame =
    half_triplets (2 * number + 1) (second_half (packet_triplets frame)) (second_half_all IsKind (omega arith) (packet_triplets frame) (sections_kinds frame.sections))

-- there are ten
ten_length : (field channel : List Triplet) → length channel ≤ 9 → length (ten_triplets field channel) ≡ 10
ten_length field channel few =
    let all = length-append channel (replicate (9 - length channel) filler) in
    let fill = length-replicate (9 - length channel) filler in
    omega (arith, all, fill, few)

pub first_ten : (ts : List Triplet) → length (first_half ts) ≡ 10
first_ten ts = let few = length-take 9 (channel_triplets ts) in ten_length (of_field One ts) (take 9 (channel_triplets ts)) (omega (arith, few))

pub second_ten : (ts : List Triplet) → length (channel_triplets ts) ≤ 18 → length (second_half ts) ≡ 10
second_ten ts most =
    let few = length-drop 9 (channel_triplets ts) in ten_length (of_field Two ts) (drop 9 (channel_triplets ts)) (omega (arith, few, most))

pub halves_ten : HalvesHaveTen
halves_ten number frame is = record {
  first = first_triplets number frame;
  second = second_triplets number frame;
  first_ten = first_ten (packet_triplets frame);
  second_ten = second_ten (packet_triplets frame) is.most;
}

-- the halves of one frame, and of all
are_halves : (number : ℕ) (frame : Frame) → IsConvertible frame → AreHalves frame (first_half_of number frame) (second_half_of number frame)
are_halves number frame is =
    let cut = triplets_cut (packet_triplets frame) in
    let first = first_triplets number frame in
    let second = second_triplets number frame in
    record {
      rate = is.rate;
      rate_one = refl;
      rate_two = refl;
      service = cut.channel
          ∙ ap (λ (ts : List Triplet). channel_triplets ts ++ channel_triplets (second_half (packet_triplets frame))) (sym first)
          ∙ ap (λ (ts : List Triplet). channel_triplets (packet_triplets (first_half_of number frame)) ++ channel_triplets ts) (sym second);
      pairs = λ f. cut.pairs f (is.few f)
          ∙ ap (λ (ts : List Triplet). field_pairs f ts ++ field_pairs f (second_half (packet_triplets frame))) (sym first)
          ∙ ap (λ (ts : List Triplet). field_pairs f (packet_triplets (first_half_of number frame)) ++ field_pairs f ts) (sym second);
    }

pub halves_from : (number : ℕ) (frames : List Frame) → All IsConvertible frames → AllHalves frames (conversion_from number frames)
halves_from number [] all = tt
halves_from number (frame ∷ frames) all =
    (are_halves number frame (All-head IsConvertible frame frames all), halves_from (suc number) frames (All-tail IsConvertible frame frames all))

pub converted_halves : ConvertedAreHalves
converted_halves frames all = halves_from 0 frames all
