-- The frames of a programme are carried: each packet is one by the definitions of its layers, and a receiver gets its pairs.
use Rattle.std.proofs.Common.{◌≡◌, ℕ, zero, suc, ◌+◌, ◌-◌, ◌%◌, ◌<◌, ◌≤◌, Bool, true, false, Option, Some, None, List, [], ◌∷◌, ◌++◌, All, length, replicate, take, refl, sym, ap, ◌∙◌, arith, append-nil, append_assoc}
use Rattle.std.specs.Prelude.{IfSome, option_to_list, ◌&&◌, ◌||◌, ◌==◌}
use Rattle.std.proofs.lemmas.List.{length-append}
use Rattle.std.proofs.lemmas.Bool.Decides.{nat_tests}
use Rattle.std.proofs.lemmas.List.Concat.{flat_map-append}
use Rattle.std.proofs.lemmas.List.Elements.{All-append, All-cons, All-head, All-nil, All-tail, filter-append}
use Rattle.cc_base.specs.Rate.{triplets_in_frame}
use Rattle.cc_base.specs.declared.rate.Rate.{Rate}
use Rattle.line21_codes.specs.declared.channels.FieldNumber.{FieldNumber}
use Rattle.line21_codes.specs.declared.channels.FieldNumber.TheVariants.{One, Two}
use Rattle.line21_codes.specs.declared.pairs.Pair.{Pair}
use Rattle.cc_data.specs.declared.triplet.Triplet.{Triplet}
use Rattle.cc_data.specs.Triplets.{filler}
use Rattle.cdp_packets.specs.PacketTriplets.{packet_triplets}
use Rattle.cdp_packets.proofs.SectionLemmas.{cc_data_section-triplets}
use Rattle.anc_words.proofs.ByteLemmas.{IsByte}
use Rattle.anc_words.proofs.WordsFileLemmas.{IsWordsFile-nil}
use Rattle.words_files.specs.Frames.{IsFileOf, none}
use Rattle.words_files.specs.Received.{field_kind, field_pair, field_pairs, received_pairs}
use Rattle.words_files.proofs.CarriedWordsLemmas.{IsByteTriplet, triplets_file}
use Rattle.words_files.proofs.FrameLemmas.{joined}
use Rattle.frame_scheduler.specs.Columns.{Columns, first_pairs, pair_in}
use Rattle.frame_scheduler.specs.declared.frames.FrameBytes.{FrameBytes}
use Rattle.channel_packets.specs.ChannelPackets.{channel_triplets, continues_packet, starts}
use Rattle.channel_packets.specs.Written.{bytes_written, continuing, header_for, starting}
use Rattle.frame_carrier.specs.Carried.{AreByteBlocks, AreBytePairs, AreRoomy, FramesAreCarried, IsBytePair, IsCarriedInRoom}
use Rattle.frame_carrier.specs.Carrying.{channel_packet_of, channel_packet, packets_before, column_bytes, column_packets, frame_bytes, frame_packet}
use Rattle.frame_carrier.specs.FrameTriplets.{field_triplets, frame_triplets, front_triplets, pair_triplet}
use Rattle.frame_carrier.proofs.CarryingLemmas.{IsKind, frame_kinds, frame_number, packet_kinds, packet_many, triplets_many}

-- the triplets of a frame are of bytes
fillers_bytes : (n : ℕ) → All IsByteTriplet (replicate n filler)
fillers_bytes zero = All-nil IsByteTriplet
fillers_bytes (suc n) = All-cons IsByteTriplet filler (replicate n filler) (record { kind = omega arith; a = omega arith; b = omega arith }) (fillers_bytes n)

field_bytes : (kind : ℕ) (pair : Option Pair) → kind < 4 → IfSome pair IsBytePair → All IsByteTriplet (field_triplets kind pair)
field_bytes kind None low bytes = All-nil IsByteTriplet
field_bytes kind (Some pair) low bytes = All-cons IsByteTriplet (pair_triplet kind pair) [] (record { kind = low; a = bytes.a; b = bytes.b }) (All-nil IsByteTriplet)

frame_triplets_bytes : (rate : Rate) (frame : FrameBytes) (packet : List Triplet) → IfSome frame.one IsBytePair → IfSome frame.two IsBytePair
    → All IsByteTriplet packet → All IsByteTriplet (frame_triplets rate frame packet)
frame_triplets_bytes rate frame packet one two bytes =
    All-append IsByteTriplet (front_triplets frame packet) (replicate (triplets_in_frame rate - length (front_triplets frame packet)) filler)
    (All-append IsByteTriplet (field_triplets 0 frame.one) (field_triplets 1 frame.two ++ packet) (field_bytes 0 frame.one (omega arith) one)
    (All-append IsByteTriplet (field_triplets 1 frame.two) packet (field_bytes 1 frame.two (omega arith) two) bytes))
    (fillers_bytes (triplets_in_frame rate - length (front_triplets frame packet)))

-- so are a channel packet's
further_bytes : (bytes : List ℕ) → All IsByte bytes → All IsByteTriplet (bytes_written bytes)
further_bytes [] all = All-nil IsByteTriplet
further_bytes (a ∷ []) all =
    All-cons IsByteTriplet (continuing a 0x00) [] (record { kind = omega arith; a = All-head IsByte a [] all; b = omega arith }) (All-nil IsByteTriplet)
further_bytes (a ∷ (b ∷ bytes)) all =
    let rest = All-tail IsByte a (b ∷ bytes) all in
    All-cons IsByteTriplet (continuing a b) (bytes_written bytes)
    (record { kind = omega arith; a = All-head IsByte a (b ∷ bytes) all; b = All-head IsByte b bytes rest })
    (further_bytes bytes (All-tail IsByte b bytes rest))

packet_bytes_are : (count : ℕ) (blocks : List ℕ) → length blocks ≤ 125 → All IsByte blocks → All IsByteTriplet (channel_packet count blocks)
packet_bytes_are count [] few all = All-nil IsByteTriplet
packet_bytes_are count (byte ∷ blocks) few all =
    All-cons IsByteTriplet (starting (header_for (count % 4) (length (byte ∷ blocks))) byte) (bytes_written blocks)
    (record { kind = omega arith; a = omega (arith, few); b = All-head IsByte byte blocks all })
    (further_bytes blocks (All-tail IsByte byte blocks all))

-- the bytes of a frame's ancillary packet are a file of its packet alone
frame_file : (rate : Rate) (frame : ℕ) (carried : FrameBytes) (packet : List Triplet) → IfSome carried.one IsBytePair → IfSome carried.two IsBytePair
    → All IsByteTriplet packet → length (front_triplets carried packet) ≤ triplets_in_frame rate
    → IsFileOf (frame_packet rate frame carried packet ∷ []) (frame_bytes rate frame carried packet)
frame_file rate frame carried packet one two channel roomy =
    let triplets = frame_triplets rate carried packet in
    let number = frame_number rate carried packet roomy in
    let many = (triplets_many rate).1 in
    triplets_file rate frame triplets (omega (arith, number, many)) (frame_triplets_bytes rate carried packet one two channel)

-- the triplets of a frame's packet are the frame's
packet_triplets_are : (rate : Rate) (frame : ℕ) (carried : FrameBytes) (packet : List Triplet) → All IsKind packet
    → packet_triplets (frame_packet rate frame carried packet) ≡ frame_triplets rate carried packet
packet_triplets_are rate frame carried packet kinds =
    append-nil _ ∙ cc_data_section-triplets (frame_triplets rate carried packet) (frame_kinds rate carried packet kinds)

-- a triplet of a channel packet counts, and has its kind
record IsChannelTriplet (t : Triplet) : Type 0 where
  valid : t.valid ≡ true
  kind : 2 ≤ t.kind

further_channel : (bytes : List ℕ) → All IsChannelTriplet (bytes_written bytes)
further_channel [] = All-nil IsChannelTriplet
further_channel (a ∷ []) = All-cons IsChannelTriplet (continuing a 0x00) [] (record { valid = refl; kind = omega arith }) (All-nil IsChannelTriplet)
further_channel (a ∷ (b ∷ bytes)) =
    All-cons IsChannelTriplet (continuing a b) (bytes_written bytes) (record { valid = refl; kind = omega arith }) (further_channel bytes)

packet_channel : (count : ℕ) (blocks : List ℕ) → All IsChannelTriplet (channel_packet count blocks)
packet_channel count [] = All-nil IsChannelTriplet
packet_channel count (byte ∷ blocks) =
    All-cons IsChannelTriplet (starting (header_for (count % 4) (length (byte ∷ blocks))) byte) (bytes_written blocks)
    (record { valid = refl; kind = omega arith }) (further_channel blocks)

-- no filler has a pair
fillers_empty : (in_field : FieldNumber) (n : ℕ) → field_pairs in_field (replicate n filler) ≡ []
fillers_empty in_field zero = refl
fillers_empty in_field (suc n) = fillers_empty in_field n

-- nor has a triplet of a channel packet
of_no_field : (t : Triplet) (in_field : FieldNumber) → 2 ≤ t.kind → (t.valid && (t.kind == field_kind in_field)) ≡ false
of_no_field t in_field high = at t.valid
  where
    other : (each : FieldNumber) → (t.kind == field_kind each) ≡ false
    other One = grind (arith, nat_tests)
    other Two = grind (arith, nat_tests)

    at : (valid : Bool) → (valid && (t.kind == field_kind in_field)) ≡ false
    at true = other in_field
    at false = refl

channel_empty : (in_field : FieldNumber) (ts : List Triplet) → All IsChannelTriplet ts → field_pairs in_field ts ≡ []
channel_empty in_field [] all = refl
channel_empty in_field (t ∷ ts) all =
    let here = All-head IsChannelTriplet t ts all in
    let none = of_no_field t in_field here.kind in
    rw none (channel_empty in_field ts (All-tail IsChannelTriplet t ts all))

-- what is in field 1, and in the other field nothing
abbrev in_one : FieldNumber → List Pair → List Pair
in_one One pairs = pairs
in_one Two pairs = []

-- and in field 2
abbrev in_two : FieldNumber → List Pair → List Pair
in_two One pairs = []
in_two Two pairs = pairs

-- each field has its pair
one_is : (in_field : FieldNumber) (one : Option Pair) → field_pairs in_field (field_triplets 0 one) ≡ in_one in_field (option_to_list one)
one_is One None = refl
one_is One (Some one) = refl
one_is Two None = refl
one_is Two (Some one) = refl

two_is : (in_field : FieldNumber) (two : Option Pair) → field_pairs in_field (field_triplets 1 two) ≡ in_two in_field (option_to_list two)
two_is One None = refl
two_is One (Some two) = refl
two_is Two None = refl
two_is Two (Some two) = refl

both_is : (in_field : FieldNumber) (carried : FrameBytes)
    → in_one in_field (option_to_list carried.one) ++ in_two in_field (option_to_list carried.two) ≡ option_to_list (pair_in in_field carried)
both_is One carried = append-nil (option_to_list carried.one)
both_is Two carried = refl

field_is : (rate : Rate) (carried : FrameBytes) (packet : List Triplet) (in_field : FieldNumber) → All IsChannelTriplet packet
    → field_pairs in_field (frame_triplets rate carried packet) ≡ option_to_list (pair_in in_field carried)
field_is rate carried packet in_field channel =
    let fill = replicate (triplets_in_frame rate - length (front_triplets carried packet)) filler in
    let all = flat_map-append (field_pair in_field) (front_triplets carried packet) fill in
    let front = flat_map-append (field_pair in_field) (field_triplets 0 carried.one) (field_triplets 1 carried.two ++ packet) in
    let back = flat_map-append (field_pair in_field) (field_triplets 1 carried.two) packet in
    let none = fillers_empty in_field (triplets_in_frame rate - length (front_triplets carried packet)) in
    let service = channel_empty in_field packet channel in
    let one = one_is in_field carried.one in
    let two = two_is in_field carried.two in
    all ∙ ap (λ l. field_pairs in_field (front_triplets carried packet) ++ l) none ∙ append-nil (field_pairs in_field (front_triplets carried packet))
    ∙ front ∙ ap (λ l. field_pairs in_field (field_triplets 0 carried.one) ++ l)
    (back ∙ ap (λ l. field_pairs in_field (field_triplets 1 carried.two) ++ l) service ∙ append-nil (field_pairs in_field (field_triplets 1 carried.two)))
    ∙ ap (λ l. l ++ field_pairs in_field (field_triplets 1 carried.two)) one
    ∙ ap (λ l. in_one in_field (option_to_list carried.one) ++ l) two
    ∙ both_is in_field carried

-- the triplets of channel packets are the frame's packet's
first_none : (pair : Option Pair) → channel_triplets (field_triplets 0 pair) ≡ []
first_none None = refl
first_none (Some pair) = refl

second_none : (pair : Option Pair) → channel_triplets (field_triplets 1 pair) ≡ []
second_none None = refl
second_none (Some pair) = refl

fillers_none : (n : ℕ) → channel_triplets (replicate n filler) ≡ []
fillers_none zero = refl
fillers_none (suc n) = fillers_none n

further_all : (bytes : List ℕ) → channel_triplets (bytes_written bytes) ≡ bytes_written bytes
further_all [] = refl
further_all (a ∷ []) = refl
further_all (a ∷ (b ∷ bytes)) = ap (λ l. continuing a b ∷ l) (further_all bytes)

channel_all : (count : ℕ) (blocks : List ℕ) → channel_triplets (channel_packet count blocks) ≡ channel_packet count blocks
channel_all count [] = refl
channel_all count (byte ∷ blocks) = ap (λ l. starting (header_for (count % 4) (length (byte ∷ blocks))) byte ∷ l) (further_all blocks)

service_is : (rate : Rate) (carried : FrameBytes) (count : ℕ) (blocks : List ℕ)
    → channel_triplets (frame_triplets rate carried (channel_packet count blocks)) ≡ channel_packet count blocks
service_is rate carried count blocks =
    let packet = channel_packet count blocks in
    filter-append (λ t. starts t || continues_packet t) (front_triplets carried packet) (replicate (triplets_in_frame rate - length (front_triplets carried packet)) filler)
    ∙ ap (λ l. channel_triplets (front_triplets carried packet) ++ l) (fillers_none (triplets_in_frame rate - length (front_triplets carried packet)))
    ∙ append-nil (channel_triplets (front_triplets carried packet))
    ∙ filter-append (λ t. starts t || continues_packet t) (field_triplets 0 carried.one) (field_triplets 1 carried.two ++ packet)
    ∙ ap (λ l. l ++ channel_triplets (field_triplets 1 carried.two ++ packet)) (first_none carried.one)
    ∙ filter-append (λ t. starts t || continues_packet t) (field_triplets 1 carried.two) packet
    ∙ ap (λ l. l ++ channel_triplets packet) (second_none carried.two)
    ∙ channel_all count blocks

-- so are its packet's
pub packet_channel_is : (rate : Rate) (frame : ℕ) (carried : FrameBytes) (count : ℕ)
    → channel_triplets (packet_triplets (frame_packet rate frame carried (channel_packet count carried.blocks.items))) ≡ channel_packet count carried.blocks.items
packet_channel_is rate frame carried count =
    ap channel_triplets (packet_triplets_are rate frame carried (channel_packet count carried.blocks.items) (packet_kinds count carried.blocks.items))
    ∙ service_is rate carried count carried.blocks.items

-- a frame keeps to its room
within_room : (rate : Rate) (frame : ℕ) (carried : FrameBytes) (count : ℕ) → length (front_triplets carried (channel_packet count carried.blocks.items)) ≤ triplets_in_frame rate
    → IsCarriedInRoom rate carried (channel_packet count carried.blocks.items) (frame_packet rate frame carried (channel_packet count carried.blocks.items))
within_room rate frame carried count roomy =
    let packet = channel_packet count carried.blocks.items in
    let same = packet_triplets_are rate frame carried packet (packet_kinds count carried.blocks.items) in
    let channel = packet_channel count carried.blocks.items in
    record {
      number = ap length same ∙ frame_number rate carried packet roomy;
      pairs = λ in_field. ap (field_pairs in_field) same ∙ field_is rate carried packet in_field channel;
      service = packet_channel_is rate frame carried count;
    }

-- the blocks of a frame are few
blocks_few : (rate : Rate) (carried : FrameBytes) (count : ℕ) → length (front_triplets carried (channel_packet count carried.blocks.items)) ≤ triplets_in_frame rate
    → length carried.blocks.items ≤ 125
blocks_few rate carried count roomy =
    let many = (triplets_many rate).1 in
    let rest = length-append (field_triplets 1 carried.two) (channel_packet count carried.blocks.items) in
    let all = length-append (field_triplets 0 carried.one) (field_triplets 1 carried.two ++ channel_packet count carried.blocks.items) in
    let most = packet_many count carried.blocks.items in
    omega (arith, roomy, many, rest, all, most)

module _ (rate : Rate) (columns : Columns) (are : AreBytePairs columns) (bytes : AreByteBlocks columns) (roomy : AreRoomy rate columns) where
  -- the bytes of frames are a file of their packets
  pub columns_file : (frame n : ℕ) → IsFileOf (column_packets rate columns frame n) (column_bytes rate columns frame n)
  columns_file frame zero = record { packets = []; file = IsWordsFile-nil; carried = none }
  columns_file frame (suc n) =
      joined (frame_packet rate frame (columns frame) (channel_packet_of columns frame) ∷ []) (column_packets rate columns (suc frame) n)
      (frame_bytes rate frame (columns frame) (channel_packet_of columns frame)) (column_bytes rate columns (suc frame) n)
      (frame_file rate frame (columns frame) (channel_packet_of columns frame) (are One frame) (are Two frame)
      (packet_bytes_are (packets_before columns frame) (columns frame).blocks.items (blocks_few rate (columns frame) (packets_before columns frame) (roomy frame)) (bytes frame))
      (roomy frame))
      (columns_file (suc frame) n)

-- a field's pairs from a frame on
pairs_from : FieldNumber → Columns → ℕ → ℕ → List Pair
pairs_from in_field columns frame zero = []
pairs_from in_field columns frame (suc k) = option_to_list (pair_in in_field (columns frame)) ++ pairs_from in_field columns (suc frame) k

-- the pairs of one more frame at the end
pairs_from-more : (in_field : FieldNumber) (columns : Columns) (frame k : ℕ)
    → pairs_from in_field columns frame (suc k) ≡ pairs_from in_field columns frame k ++ option_to_list (pair_in in_field (columns (frame + k)))
unfolding pairs_from
pairs_from-more in_field columns frame zero =
    let e : frame ≡ frame + 0 = omega arith in
    append-nil (option_to_list (pair_in in_field (columns frame))) ∙ ap (λ m. option_to_list (pair_in in_field (columns m))) e
pairs_from-more in_field columns frame (suc k) =
    let e : suc frame + k ≡ frame + suc k = omega arith in
    let here = option_to_list (pair_in in_field (columns frame)) in
    ap (λ rest. here ++ rest) (pairs_from-more in_field columns (suc frame) k)
    ∙ ap (λ m. here ++ (pairs_from in_field columns (suc frame) k ++ option_to_list (pair_in in_field (columns m)))) e
    ∙ sym (append_assoc here (pairs_from in_field columns (suc frame) k) (option_to_list (pair_in in_field (columns (frame + suc k)))))

-- from frame 0 on they are the first ones
pairs_from-first : (in_field : FieldNumber) (columns : Columns) (k : ℕ) → pairs_from in_field columns 0 k ≡ first_pairs in_field columns k
unfolding pairs_from
pairs_from-first in_field columns zero = refl
pairs_from-first in_field columns (suc k) =
    let e : 0 + k ≡ k = omega arith in
    pairs_from-more in_field columns 0 k
    ∙ ap (λ front. front ++ option_to_list (pair_in in_field (columns (0 + k)))) (pairs_from-first in_field columns k)
    ∙ ap (λ m. first_pairs in_field columns k ++ option_to_list (pair_in in_field (columns m))) e

-- a receiver gets the pairs of each field
received_are : (in_field : FieldNumber) (rate : Rate) (columns : Columns) (frame n k : ℕ) → k ≤ n
    → received_pairs in_field (take k (column_packets rate columns frame n)) ≡ pairs_from in_field columns frame k
unfolding pairs_from
received_are in_field rate columns frame n zero below = refl
received_are in_field rate columns frame zero (suc k) below = absurd (omega arith)
received_are in_field rate columns frame (suc n) (suc k) below =
    ap (λ pairs. pairs ++ received_pairs in_field (take k (column_packets rate columns (suc frame) n)))
    (ap (field_pairs in_field)
    (packet_triplets_are rate frame (columns frame) (channel_packet_of columns frame) (packet_kinds (packets_before columns frame) (columns frame).blocks.items))
    ∙ field_is rate (columns frame) (channel_packet_of columns frame) in_field (packet_channel (packets_before columns frame) (columns frame).blocks.items))
    ∙ ap (λ rest. option_to_list (pair_in in_field (columns frame)) ++ rest) (received_are in_field rate columns (suc frame) n k (omega arith))

-- the frames of a programme are carried
pub frames_carried : FramesAreCarried
frames_carried rate columns n are bytes roomy = record {
  file = columns_file rate columns are bytes roomy 0 n;
  room = λ frame. within_room rate frame (columns frame) (packets_before columns frame) (roomy frame);
  received = λ in_field k below. received_are in_field rate columns 0 n k below ∙ pairs_from-first in_field columns k;
}
