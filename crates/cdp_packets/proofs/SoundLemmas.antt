-- Bytes that are read to the packet's end are a packet.
use Rattle.std.proofs.Common.{◌≡◌, ℕ, ◌+◌, ◌-◌, ◌*◌, ◌/◌, ◌%◌, ◌<◌, ◌≤◌, ◌==◌, inl, inr, nat_lt, if◌then◌else◌, Bool, true, false, Some, List, [], ◌∷◌, ◌++◌, length, sum, refl, sym, ap, subst, ◌∙◌, append_assoc, append-nil, length-append, arith}
use Rattle.std.proofs.lemmas.Bool.Decides.{nat_tests}
use Rattle.std.proofs.lemmas.Grind.{common_steps}
use Rattle.std.specs.List.{concat}
use Rattle.cc_base.specs.declared.rate.Rate.{Rate}
use Rattle.cc_base.specs.declared.step.Step.TheVariants.{One}
use Rattle.cc_base.specs.declared.why.Why.TheVariants as why
use Rattle.cc_base.specs.Rate.{rate_code, rate_of}
use Rattle.cc_base.specs.Steps.{IsTaken, front_from}
use Rattle.cc_base.specs.Syntax.{AllRead, AllTaken, open_behind}
use Rattle.cdp_packets.specs.declared.parts.CdpPart.TheVariants as part
use Rattle.cdp_packets.specs.Packets.{Frame, IsCdp}
use Rattle.cdp_packets.specs.Reading.{cdp_syntax, IsPacketLength, Open, is_in_sections, judge_behind, judge_cdp, judge_footer, judge_section, nothing_open, open_after, section_behind, triplet_behind}
use Rattle.cdp_packets.specs.Sections.{AreSections}
use Rattle.cdp_packets.proofs.BegunLemmas.{IsBegun, IsFoot, IsHead, grows, taken-if, test-same}

-- one more byte in a sum
pub sum-push : (bytes : List ℕ) (byte : ℕ) → sum (bytes ++ byte ∷ []) ≡ sum bytes + byte
sum-push bytes byte = grind (arith, common_steps)

-- the last byte makes the sum 0
last_sum : (size : ℕ) (bytes : List ℕ) (total : ℕ) (section triplet : List ℕ) (byte : ℕ) → IsPacketLength size → total ≡ sum bytes → length bytes + 1 ≡ size
    → IsTaken (judge_behind size bytes total section triplet byte) → sum (bytes ++ byte ∷ []) % 256 ≡ 0
last_sum size [] total section triplet byte can is last taken = absurd (omega (arith, can.0))
last_sum size (_ ∷ []) total section triplet byte can is last taken = absurd (omega (arith, can.0))
last_sum size (_ ∷ _ ∷ []) total section triplet byte can is last taken = absurd (omega (arith, can.0))
last_sum size (_ ∷ _ ∷ _ ∷ []) total section triplet byte can is last taken = absurd (omega (arith, can.0))
last_sum size (_ ∷ _ ∷ _ ∷ _ ∷ []) total section triplet byte can is last taken = absurd (omega (arith, can.0))
last_sum size (_ ∷ _ ∷ _ ∷ _ ∷ _ ∷ []) total section triplet byte can is last taken = absurd (omega (arith, can.0))
last_sum size (_ ∷ _ ∷ _ ∷ _ ∷ _ ∷ _ ∷ []) total section triplet byte can is last taken = absurd (omega (arith, can.0))
last_sum size (mark ∷ second ∷ long ∷ rate ∷ flags ∷ high ∷ low ∷ body) total section triplet byte can is last taken =
    let none : nat_lt (length body + 11) size ≡ false = grind (arith, nat_tests) in
    let one : size - 7 - length body ≡ 1 = omega arith in
    let in_sections = judge_section (size - 11 - length body) section triplet byte in
    let in_footer = judge_footer (size - 7 - length body) high low total byte in
    let here = subst (λ (t : Bool). IsTaken (if t then in_sections else in_footer)) none taken in
    let there = subst (λ n. IsTaken (judge_footer n high low total byte)) one here in
    let zero = test-same ((total + byte) % 256) 0 (taken-if ((total + byte) % 256 == 0) (One part.End) why.Sum there) in
    let bytes = mark ∷ second ∷ long ∷ rate ∷ flags ∷ high ∷ low ∷ body in
    ap (λ n. n % 256) (sum-push bytes byte ∙ ap (λ n. n + byte) (sym is)) ∙ zero

-- what is open begins a packet of this length, and keeps its sum
pub record IsOpen (size : ℕ) (front : Open) : Type 0 where
  pub below : length front.bytes ≤ size
  pub begun : IsBegun size front.bytes front.section
  pub total_is : front.total ≡ sum front.bytes
  pub ended : length front.bytes ≡ size → sum front.bytes % 256 ≡ 0

-- after one more byte, where the packet hasn't ended
pub open_after-more : (size : ℕ) (front : Open) (byte : ℕ) → length front.bytes < size
    → open_after size front byte ≡ record {
      bytes = front.bytes ++ byte ∷ [];
      total = front.total + byte;
      section = if is_in_sections size front.bytes then section_behind front.section byte else [];
      triplet = if is_in_sections size front.bytes then triplet_behind front.section front.triplet byte else [];
    }
open_after-more size front byte below =
    let more : nat_lt (length front.bytes) size ≡ true = grind (arith, nat_tests) in
    let next : Open = record {
      bytes = front.bytes ++ byte ∷ [];
      total = front.total + byte;
      section = if is_in_sections size front.bytes then section_behind front.section byte else [];
      triplet = if is_in_sections size front.bytes then triplet_behind front.section front.triplet byte else [];
    } in
    ap (λ (t : Bool). if t then next else front) more

-- and where it has ended
pub open_after-ended : (size : ℕ) (front : Open) (byte : ℕ) → length front.bytes ≡ size → open_after size front byte ≡ front
open_after-ended size front byte ended =
    let more : nat_lt (length front.bytes) size ≡ false = grind (arith, nat_tests) in
    let next : Open = record {
      bytes = front.bytes ++ byte ∷ [];
      total = front.total + byte;
      section = if is_in_sections size front.bytes then section_behind front.section byte else [];
      triplet = if is_in_sections size front.bytes then triplet_behind front.section front.triplet byte else [];
    } in
    ap (λ (t : Bool). if t then next else front) more

-- a byte that is taken
open_grows : (size : ℕ) (front : Open) (byte : ℕ) → IsPacketLength size → IsOpen size front → IsTaken (judge_cdp size front byte) → IsOpen size (open_after size front byte)
open_grows size front byte can is taken =
    let below = is.below in
    let long = length-append front.bytes (byte ∷ []) in
    let cases : (t : Bool) → nat_lt (length front.bytes) size ≡ t → IsOpen size (open_after size front byte) = elim [
      | true ↦ λ more.
          let left : length front.bytes < size = grind (arith, nat_tests) in
          subst (IsOpen size) (sym (open_after-more size front byte left)) (record {
            below = omega (arith, long);
            begun = grows size front.bytes front.total front.section front.triplet byte can left is.begun taken;
            total_is = ap (λ n. n + byte) is.total_is ∙ sym (sum-push front.bytes byte);
            ended = λ all. last_sum size front.bytes front.total front.section front.triplet byte can is.total_is (omega (arith, long, all)) taken;
          })
      | false ↦ λ none.
          let ended : length front.bytes ≡ size = grind (arith, nat_tests) in
          subst (IsOpen size) (sym (open_after-ended size front byte ended)) is
    ] in cases _ refl

-- bytes that are taken
pub all_open : (size : ℕ) (items : List ℕ) (front : Open) → IsPacketLength size → IsOpen size front → AllTaken (cdp_syntax size) front items
    → IsOpen size (front_from (cdp_syntax size).after front items)
all_open size [] front can is taken = is
all_open size (byte ∷ items) front can is (first, taken) = all_open size items (open_after size front byte) can (open_grows size front byte can is first) taken

-- nothing is open at first
pub nothing_open-is : (size : ℕ) → IsPacketLength size → IsOpen size nothing_open
nothing_open-is size can = record { below = omega arith; begun = tt; total_is = refl; ended = λ all. absurd (omega (arith, can.0, all)) }

-- what is open after bytes keeps them, up to the packet's end
pub bytes_behind-is : (size : ℕ) (items : List ℕ) (front : Open) → length front.bytes + length items ≤ size
    → (front_from (cdp_syntax size).after front items).bytes ≡ front.bytes ++ items
bytes_behind-is size [] front room = sym (append-nil front.bytes)
bytes_behind-is size (byte ∷ items) front room =
    let after = open_after-more size front byte (omega arith) in
    let long = length-append front.bytes (byte ∷ []) in
    let kept : (open_after size front byte).bytes ≡ front.bytes ++ byte ∷ [] = ap (λ (o : Open). o.bytes) after in
    bytes_behind-is size items (open_after size front byte) (omega (arith, ap length kept, long))
    ∙ ap (λ bs. bs ++ items) kept ∙ append_assoc front.bytes (byte ∷ []) items

-- a rate's code
code_of-rate : (n : ℕ) (r : Rate) → rate_of n ≡ Some r → rate_code r ≡ n
code_of-rate n r is = grind (arith, nat_tests)

-- bytes with the head, the sections and the footer of a packet are this packet
pub is_packet : (size : ℕ) (mark second long rate flags high low : ℕ) (cut : List (List ℕ)) (last : ℕ) (head : IsHead size mark second long rate) → AreSections cut
    → length (concat cut) + 11 ≡ size
    → sum (mark ∷ second ∷ long ∷ rate ∷ flags ∷ high ∷ low ∷ (concat cut ++ 0x74 ∷ high ∷ low ∷ last ∷ [])) % 256 ≡ 0
    → IsCdp (record { rate = head.code; flags = flags; counter = 256 * high + low; sections = cut })
    (mark ∷ second ∷ long ∷ rate ∷ flags ∷ high ∷ low ∷ (concat cut ++ 0x74 ∷ high ∷ low ∷ last ∷ []))
is_packet size mark second long rate flags high low cut last head are whole zero =
    let code = code_of-rate (rate / 16) head.code head.rate_is in
    let spelled_rate : rate ≡ 16 * rate_code head.code + rate % 16 = omega arith in
    let rest = concat cut ++ 0x74 ∷ high ∷ low ∷ last ∷ [] in
    let size_is : long ≡ length (mark ∷ second ∷ long ∷ rate ∷ flags ∷ high ∷ low ∷ rest) = omega (arith, head.long_is, length-append (concat cut) (0x74 ∷ high ∷ low ∷ last ∷ [])) in
    record {
      marker = rate % 16;
      high = high;
      low = low;
      last = last;
      four_bits = omega arith;
      counter = refl;
      sections = are;
      spelled = ap (λ n. n ∷ second ∷ long ∷ rate ∷ flags ∷ high ∷ low ∷ rest) head.mark_is
          ∙ ap (λ n. 0x96 ∷ n ∷ long ∷ rate ∷ flags ∷ high ∷ low ∷ rest) head.second_is
          ∙ ap (λ n. 0x96 ∷ 0x69 ∷ n ∷ rate ∷ flags ∷ high ∷ low ∷ rest) size_is
          ∙ ap (λ n. 0x96 ∷ 0x69 ∷ length (mark ∷ second ∷ long ∷ rate ∷ flags ∷ high ∷ low ∷ rest) ∷ n ∷ flags ∷ high ∷ low ∷ rest) spelled_rate;
      total = zero;
    }

-- a packet, where the footer's bytes are known
packet_by_foot : (size : ℕ) (mark second long rate flags high low : ℕ) (cut : List (List ℕ)) (foot body : List ℕ) → IsHead size mark second long rate → AreSections cut
    → body ≡ concat cut ++ foot → IsFoot high low foot → length foot ≡ 4 → length (concat cut) + 11 ≡ size
    → sum (mark ∷ second ∷ long ∷ rate ∷ flags ∷ high ∷ low ∷ body) % 256 ≡ 0
    → (packet : Frame) × IsCdp packet (mark ∷ second ∷ long ∷ rate ∷ flags ∷ high ∷ low ∷ body)
packet_by_foot size mark second long rate flags high low cut [] body head are spelled begun four whole zero = absurd begun
packet_by_foot size mark second long rate flags high low cut (_ ∷ []) body head are spelled begun four whole zero = absurd (omega arith)
packet_by_foot size mark second long rate flags high low cut (_ ∷ _ ∷ []) body head are spelled begun four whole zero = absurd (omega arith)
packet_by_foot size mark second long rate flags high low cut (_ ∷ _ ∷ _ ∷ []) body head are spelled begun four whole zero = absurd (omega arith)
packet_by_foot size mark second long rate flags high low cut (id ∷ one ∷ two ∷ last ∷ []) body head are spelled begun four whole zero =
    let foot_is : id ∷ one ∷ two ∷ last ∷ [] ≡ 0x74 ∷ high ∷ low ∷ last ∷ [] = cc in
    let is : body ≡ concat cut ++ 0x74 ∷ high ∷ low ∷ last ∷ [] = spelled ∙ ap (λ foot. concat cut ++ foot) foot_is in
    let here = subst (λ bs. sum (mark ∷ second ∷ long ∷ rate ∷ flags ∷ high ∷ low ∷ bs) % 256 ≡ 0) is zero in
    subst (λ bs. (packet : Frame) × IsCdp packet (mark ∷ second ∷ long ∷ rate ∷ flags ∷ high ∷ low ∷ bs)) (sym is)
    (record { rate = head.code; flags = flags; counter = 256 * high + low; sections = cut }, is_packet size mark second long rate flags high low cut last head are whole here)
packet_by_foot size mark second long rate flags high low cut (_ ∷ _ ∷ _ ∷ _ ∷ _ ∷ more) body head are spelled begun four whole zero = absurd begun

-- bytes that begin a packet of their length, and whose sum is 0, are one
whole_packet : (size : ℕ) (bytes section : List ℕ) → IsPacketLength size → IsBegun size bytes section → length bytes ≡ size → sum bytes % 256 ≡ 0
    → (packet : Frame) × IsCdp packet bytes
whole_packet size [] section can begun all zero = absurd (omega (arith, can.0))
whole_packet size (_ ∷ []) section can begun all zero = absurd (omega (arith, can.0))
whole_packet size (_ ∷ _ ∷ []) section can begun all zero = absurd (omega (arith, can.0))
whole_packet size (_ ∷ _ ∷ _ ∷ []) section can begun all zero = absurd (omega (arith, can.0))
whole_packet size (_ ∷ _ ∷ _ ∷ _ ∷ []) section can begun all zero = absurd (omega (arith, can.0))
whole_packet size (_ ∷ _ ∷ _ ∷ _ ∷ _ ∷ []) section can begun all zero = absurd (omega (arith, can.0))
whole_packet size (_ ∷ _ ∷ _ ∷ _ ∷ _ ∷ _ ∷ []) section can begun all zero = absurd (omega (arith, can.0))
whole_packet size (mark ∷ second ∷ long ∷ rate ∷ flags ∷ high ∷ low ∷ body) section can begun all zero =
    elim (begun.1) [
      | inl sections ↦ absurd (omega (arith, sections.long, all))
      | inr footer ↦ packet_by_foot size mark second long rate flags high low footer.cut footer.foot body begun.0 footer.are footer.spelled footer.begun
          (omega (arith, footer.long, all, ap length footer.spelled, length-append (concat footer.cut) footer.foot)) footer.long zero
    ]

-- bytes that are read begin a packet
pub read_open : (size : ℕ) (bytes : List ℕ) → IsPacketLength size → AllRead (cdp_syntax size) bytes → IsOpen size (open_behind (cdp_syntax size) bytes)
read_open size bytes can taken = all_open size bytes nothing_open can (nothing_open-is size can) taken

pub sound : (size : ℕ) (bytes : List ℕ) → IsPacketLength size → length bytes ≡ size → AllRead (cdp_syntax size) bytes → (packet : Frame) × IsCdp packet bytes
sound size bytes can all taken =
    let behind = open_behind (cdp_syntax size) bytes in
    let is = read_open size bytes can taken in
    let kept : behind.bytes ≡ bytes = bytes_behind-is size bytes nothing_open (omega (arith, all)) in
    whole_packet size bytes behind.section can (subst (λ bs. IsBegun size bs behind.section) kept is.begun) all
    (ap (λ bs. sum bs % 256) (sym kept) ∙ is.ended (ap length kept ∙ all))
