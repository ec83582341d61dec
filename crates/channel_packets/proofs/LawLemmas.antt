-- Laws of channel packets: of packets after others, and of what is written.
use Rattle.std.proofs.Common.{◌≡◌, ℕ, ◌+◌, ◌-◌, ◌*◌, ◌/◌, ◌%◌, ◌<◌, ◌≤◌, ◌==◌, ◌&&◌, ◌||◌, not, if◌then◌else◌, Bool, true, false, List, [], ◌∷◌, ◌++◌, length, map, take, refl, ap, sym, ◌∙◌, arith, append_assoc, length-append}
use Rattle.std.proofs.Math.Seq.{take-append_seam}
use Rattle.std.proofs.lemmas.Bool.Decides.{nat_tests}
use Rattle.std.proofs.lemmas.List.{map-append}
use Rattle.std.proofs.lemmas.List.Elements.{filter-append}
use Rattle.std.proofs.lemmas.List.Concat.{flat_map-append}
use Rattle.std.proofs.lemmas.List.Folds.{list_all-append}
use Rattle.std.specs.List.{flat_map, list_all}
use Rattle.cc_data.specs.declared.triplet.Triplet.{Triplet}
use Rattle.channel_packets.specs.ChannelPackets.{AreChannelPackets, ChannelPacket, TripletStretch, begins_anew, bytes_of, channel_triplets, continues_packet, is_stretch, number_of, size_of, starts, stretch_packet, stretch_triplets}
use Rattle.channel_packets.specs.Written.{bytes_written, completed_bytes, continuing, header_for, packet_for, packet_written, starting}
use Rattle.channel_packets.proofs.CutLemmas.{and_true, packets-unique, packets_of, packets_of-are, starts-continuing, true_and}

-- the sizes of packets are odd, and from 1 to 127
odd_size : (low : ℕ) → low < 64 → let size = if low == 0 then 127 else 2 * low - 1 in (size % 2 ≡ 1) × (size ≤ 127)
odd_size low below = let cases : (b : Bool) → (low == 0) ≡ b → let size = if b then 127 else 2 * low - 1 in (size % 2 ≡ 1) × (size ≤ 127) = elim [
  | true ↦ λ is. (refl, omega arith)
  | false ↦ λ is. let some : 0 < low = grind (arith, nat_tests) in (omega arith, omega arith)
] in cases (low == 0) refl

pub sizes_are_odd : (header : ℕ) → (size_of header % 2 ≡ 1) × (size_of header ≤ 127)
sizes_are_odd header = odd_size (header % 64) (omega arith)

-- the first triplet of a channel, if it starts a packet
no_strays : (triplets strays : List Triplet) (stretches : List TripletStretch) → begins_anew triplets ≡ true
    → channel_triplets triplets ≡ strays ++ flat_map stretch_triplets stretches → list_all continues_packet strays ≡ true → strays ≡ []
no_strays triplets [] stretches anew spelled all = refl
no_strays [] (stray ∷ strays) stretches anew spelled all = absurd cc
no_strays (triplet ∷ triplets) (stray ∷ strays) stretches anew spelled all =
    let (one, others) = true_and (continues_packet stray) (list_all continues_packet strays) all in
    let cases : (b c : Bool) → starts triplet ≡ b → continues_packet triplet ≡ c → (b || (not c && begins_anew triplets)) ≡ true
    → (if b || c then triplet ∷ channel_triplets triplets else channel_triplets triplets) ≡ stray ∷ (strays ++ flat_map stretch_triplets stretches)
    → stray ∷ strays ≡ [] = λ b c. elim b as (λ b. starts triplet ≡ b → continues_packet triplet ≡ c → (b || (not c && begins_anew triplets)) ≡ true
    → (if b || c then triplet ∷ channel_triplets triplets else channel_triplets triplets) ≡ stray ∷ (strays ++ flat_map stretch_triplets stretches)
    → stray ∷ strays ≡ []) [
      | true ↦ λ is goes either same.
          let first : triplet ≡ stray = cc in
          let not_start = starts-continuing stray one in
          absurd (let wrong : true ≡ false = sym is ∙ ap starts first ∙ not_start in cc)
      | false ↦ elim c as (λ c. starts triplet ≡ false → continues_packet triplet ≡ c → (not c && begins_anew triplets) ≡ true
          → (if c then triplet ∷ channel_triplets triplets else channel_triplets triplets) ≡ stray ∷ (strays ++ flat_map stretch_triplets stretches)
          → stray ∷ strays ≡ []) [
            | true ↦ λ is goes either same. absurd cc
            | false ↦ λ is goes either same. no_strays triplets (stray ∷ strays) stretches either same all
          ]
    ] in cases (starts triplet) (continues_packet triplet) refl refl anew spelled

-- packets after packets
pub packets-append : (packets others : List ChannelPacket) (triplets more : List Triplet) → AreChannelPackets packets triplets
    → AreChannelPackets others more → begins_anew more ≡ true → AreChannelPackets (packets ++ others) (triplets ++ more)
packets-append packets others triplets more are other anew =
    let none = no_strays more other.strays other.stretches anew other.spelled other.strays_are in
    record {
      strays = are.strays;
      stretches = are.stretches ++ other.stretches;
      spelled = filter-append (λ t. starts t || continues_packet t) triplets more
          ∙ ap (λ ts. ts ++ channel_triplets more) are.spelled
          ∙ ap (λ ts. (are.strays ++ flat_map stretch_triplets are.stretches) ++ ts)
          (other.spelled ∙ ap (λ strays. strays ++ flat_map stretch_triplets other.stretches) none)
          ∙ append_assoc are.strays (flat_map stretch_triplets are.stretches) (flat_map stretch_triplets other.stretches)
          ∙ ap (λ ts. are.strays ++ ts) (sym (flat_map-append stretch_triplets are.stretches other.stretches));
      strays_are = are.strays_are;
      stretches_are = list_all-append is_stretch are.stretches other.stretches
          ∙ and_true (list_all is_stretch are.stretches) (list_all is_stretch other.stretches) are.stretches_are other.stretches_are;
      packets_are = ap (λ ps. ps ++ others) are.packets_are ∙ ap (λ ps. map stretch_packet are.stretches ++ ps) other.packets_are
          ∙ sym (map-append stretch_packet are.stretches other.stretches);
    }

-- the same triplets of channel packets have the same packets
pub packets-same : (packets : List ChannelPacket) (triplets others : List Triplet) → channel_triplets triplets ≡ channel_triplets others
    → AreChannelPackets packets triplets → AreChannelPackets packets others
packets-same packets triplets others same are = record {
  strays = are.strays;
  stretches = are.stretches;
  spelled = sym same ∙ are.spelled;
  strays_are = are.strays_are;
  stretches_are = are.stretches_are;
  packets_are = are.packets_are;
}

-- what is written of further bytes continues with a packet
written_continues : (bytes : List ℕ) → list_all continues_packet (bytes_written bytes) ≡ true
written_continues [] = refl
written_continues (first ∷ []) = refl
written_continues (first ∷ second ∷ bytes) = written_continues bytes

written_channel : (bytes : List ℕ) (rest : List Triplet) → channel_triplets (bytes_written bytes ++ rest) ≡ bytes_written bytes ++ channel_triplets rest
written_channel [] rest = refl
written_channel (first ∷ []) rest = refl
written_channel (first ∷ second ∷ bytes) rest = ap (λ ts. continuing first second ∷ ts) (written_channel bytes rest)

-- the bytes of what is written: the further ones, and a byte 00 where their number is odd
written_even : (bytes : List ℕ) → length bytes % 2 ≡ 0 → bytes_of (bytes_written bytes) ≡ bytes
written_even [] even = refl
written_even (first ∷ []) even = absurd (omega arith)
written_even (first ∷ second ∷ bytes) even =
    ap (λ bs. first ∷ second ∷ bs) (written_even bytes (omega arith))

written_odd : (bytes : List ℕ) → length bytes % 2 ≡ 1 → bytes_of (bytes_written bytes) ≡ bytes ++ 0 ∷ []
written_odd [] odd = absurd (omega arith)
written_odd (first ∷ []) odd = refl
written_odd (first ∷ second ∷ bytes) odd =
    ap (λ bs. first ∷ second ∷ bs) (written_odd bytes (omega arith))

written_bytes : (first : ℕ) (bytes : List ℕ) → completed_bytes (first ∷ bytes) ≡ first ∷ bytes_of (bytes_written bytes)
written_bytes first bytes =
    let cases : (b : Bool) → (length (first ∷ bytes) % 2 == 0) ≡ b
    → (if b then first ∷ (bytes ++ 0 ∷ []) else first ∷ bytes) ≡ first ∷ bytes_of (bytes_written bytes) = elim [
      | true ↦ λ is.
          let even : length (first ∷ bytes) % 2 ≡ 0 = grind (arith, nat_tests) in
          ap (λ bs. first ∷ bs) (sym (written_odd bytes (omega arith)))
      | false ↦ λ is.
          let odd : length (first ∷ bytes) % 2 ≡ 1 = grind (arith, nat_tests) in
          ap (λ bs. first ∷ bs) (sym (written_even bytes (omega arith)))
    ] in cases _ refl

-- as many as the header says
completed-length : (bytes : List ℕ) → length (completed_bytes bytes) ≡ 2 * (length bytes / 2) + 1
completed-length bytes =
    let cases : (b : Bool) → (length bytes % 2 == 0) ≡ b → length (if b then bytes ++ 0 ∷ [] else bytes) ≡ 2 * (length bytes / 2) + 1 = elim [
      | true ↦ λ is. let even : length bytes % 2 ≡ 0 = grind (arith, nat_tests) in omega (arith, length-append bytes (0 ∷ []))
      | false ↦ λ is. let odd : length bytes % 2 ≡ 1 = grind (arith, nat_tests) in omega arith
    ] in cases _ refl

size-low : (number half : ℕ) → half < 64 → size_of (64 * number + (half + 1) % 64) ≡ 2 * half + 1
size-low number half below =
    let cases : (b : Bool) → ((64 * number + (half + 1) % 64) % 64 == 0) ≡ b
    → (if b then 127 else 2 * ((64 * number + (half + 1) % 64) % 64) - 1) ≡ 2 * half + 1 = elim [
      | true ↦ λ is. let zero_is : (64 * number + (half + 1) % 64) % 64 ≡ 0 = grind (arith, nat_tests) in omega arith
      | false ↦ λ is. let some : 0 < (64 * number + (half + 1) % 64) % 64 = grind (arith, nat_tests) in omega arith
    ] in cases _ refl

pub header_for-size : (number : ℕ) (bytes : List ℕ) → length bytes ≤ 127 → size_of (header_for number (length bytes)) ≡ length (completed_bytes bytes)
header_for-size number bytes few = size-low number (length bytes / 2) (omega arith) ∙ sym (completed-length bytes)

pub header_for-number : (number size : ℕ) → number_of (header_for number size) ≡ number
header_for-number number size = omega arith

-- a packet that is written, before any triplets
written_before : (number first : ℕ) (bytes : List ℕ) (rest : List Triplet) (others : List ChannelPacket) → length (first ∷ bytes) ≤ 127
    → AreChannelPackets others rest
    → AreChannelPackets (packet_for number (first ∷ bytes) ∷ others) (packet_written number (first ∷ bytes) ++ rest)
written_before number first bytes rest others few are =
    let header = header_for number (length (first ∷ bytes)) in
    let whole = completed_bytes (first ∷ bytes) in
    let stretch : TripletStretch = record { first = starting header first; more = bytes_written bytes ++ are.strays } in
    let same : take (size_of header) (first ∷ bytes_of (bytes_written bytes ++ are.strays)) ≡ whole =
    ap (λ n. take n (first ∷ bytes_of (bytes_written bytes ++ are.strays))) (header_for-size number (first ∷ bytes) few)
    ∙ ap (λ bs. take (length whole) (first ∷ bs)) (flat_map-append (λ (t : Triplet). t.a ∷ t.b ∷ []) (bytes_written bytes) are.strays)
    ∙ ap (λ bs. take (length whole) (bs ++ bytes_of are.strays)) (sym (written_bytes first bytes))
    ∙ take-append_seam whole (bytes_of are.strays) in
    record {
      strays = [];
      stretches = stretch ∷ are.stretches;
      spelled = ap (λ ts. starting header first ∷ ts) (written_channel bytes rest ∙ ap (λ ts. bytes_written bytes ++ ts) are.spelled
          ∙ sym (append_assoc (bytes_written bytes) are.strays (flat_map stretch_triplets are.stretches)));
      strays_are = refl;
      stretches_are = and_true (list_all continues_packet (bytes_written bytes ++ are.strays)) (list_all is_stretch are.stretches)
          (list_all-append continues_packet (bytes_written bytes) are.strays
          ∙ and_true (list_all continues_packet (bytes_written bytes)) (list_all continues_packet are.strays) (written_continues bytes) are.strays_are) are.stretches_are;
      packets_are = ap (λ (bs : List ℕ). let p : ChannelPacket = record { header = header; bytes = bs } in p ∷ others) (sym same)
          ∙ ap (λ ps. stretch_packet stretch ∷ ps) are.packets_are;
    }

-- what is written is read back, whatever follows it
pub record ReadsBack (number : ℕ) (bytes : List ℕ) (packets : List ChannelPacket) (rest : List Triplet) : Type 0 where
  pub others : List ChannelPacket
  pub first : packets ≡ packet_for number bytes ∷ others
  pub behind : AreChannelPackets others rest

pub written-reads_back : (number : ℕ) (bytes : List ℕ) (packets : List ChannelPacket) (rest : List Triplet) → 1 ≤ length bytes → length bytes ≤ 127
    → AreChannelPackets packets (packet_written number bytes ++ rest) → ReadsBack number bytes packets rest
written-reads_back number [] packets rest some few are = absurd (omega arith)
written-reads_back number (first ∷ bytes) packets rest some few are =
    let behind = packets_of-are rest in record {
      others = packets_of rest;
      first = packets-unique packets (packet_for number (first ∷ bytes) ∷ packets_of rest) _ are (written_before number first bytes rest (packets_of rest) few behind);
      behind = behind;
    }

pub written-are : (number : ℕ) (bytes : List ℕ) (rest : List Triplet) (others : List ChannelPacket) → 1 ≤ length bytes → length bytes ≤ 127
    → AreChannelPackets others rest → AreChannelPackets (packet_for number bytes ∷ others) (packet_written number bytes ++ rest)
written-are number [] rest others some few are = absurd (omega arith)
written-are number (first ∷ bytes) rest others some few are = written_before number first bytes rest others few are
