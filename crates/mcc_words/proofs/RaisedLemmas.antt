-- A distribution packet whose counter was raised is a distribution packet, which says the same but for the counter.
use Rattle.std.proofs.Common.{◌≡◌, ℕ, ◌+◌, ◌*◌, ◌<◌, List, [], ◌∷◌, ◌++◌, length, length-append, refl, ap, sym, ◌∙◌, subst, arith}
use Rattle.std.specs.List.{concat}
use Rattle.std.proofs.lemmas.List.{drop_at, take_at}
use Rattle.std.proofs.lemmas.List.Elements.{All-append, All-cons, All-nil}
use Rattle.std.specs.Prelude.{drop, take}
use Rattle.cc_base.specs.Rate.{rate_code}
use Rattle.cdp_packets.specs.Packets.{Frame, IsCdp}
use Rattle.mcc_files.proofs.WordLemmas.{front_bytes}
use Rattle.mcc_files.proofs.WrittenLemmas.{AreBytes, back_bytes, tail_bytes}
use Rattle.mcc_words.specs.Raised.{IsRaised}

-- equal lists with fronts of one length
same_fronts : (front back other rest : List ℕ) → length front ≡ length other → front ++ back ≡ other ++ rest → (front ≡ other) × (back ≡ rest)
same_fronts front back other rest long same = (
  sym (take_at front back (length front) refl) ∙ ap (take (length front)) same ∙ take_at other rest (length front) (sym long),
  sym (drop_at front back (length front) refl) ∙ ap (drop (length front)) same ∙ drop_at other rest (length front) (sym long),
)

-- the parts of a raised packet
abbrev packet_with : List ℕ → ℕ → ℕ → List ℕ → ℕ → List ℕ
packet_with head high low middle last = head ++ (high ∷ low ∷ (middle ++ 0x74 ∷ high ∷ low ∷ last ∷ []))

length_with : (head middle : List ℕ) (high low last : ℕ) → length (packet_with head high low middle last) ≡ length head + length middle + 6
length_with head middle high low last =
    let all = length-append head (high ∷ low ∷ (middle ++ 0x74 ∷ high ∷ low ∷ last ∷ [])) in
    let rest = length-append middle (0x74 ∷ high ∷ low ∷ last ∷ []) in
    omega (arith, all, rest)

pub raised_length : (by : ℕ) (user raised : List ℕ) → IsRaised by user raised → length raised ≡ length user
raised_length by user raised r =
    ap length r.raised_is ∙ length_with r.head r.middle r.high_again r.low_again r.last_again
    ∙ sym (ap length r.user_is ∙ length_with r.head r.middle r.high r.low r.last)

pub raised_bytes : (by : ℕ) (user raised : List ℕ) → IsRaised by user raised → AreBytes user → AreBytes raised
raised_bytes by user raised r bytes =
    let foot = 0x74 ∷ r.high ∷ r.low ∷ r.last ∷ [] in
    let tail = r.high ∷ r.low ∷ (r.middle ++ foot) in
    let all : AreBytes (r.head ++ tail) = subst AreBytes r.user_is bytes in
    let head = front_bytes r.head tail all in
    let middle = front_bytes r.middle foot (tail_bytes r.low (r.middle ++ foot) (tail_bytes r.high (r.low ∷ (r.middle ++ foot)) (back_bytes r.head tail all))) in
    let Byte : ℕ → Type 0 = λ byte. byte < 256 in
    let foot_again = r.high_again ∷ r.low_again ∷ r.last_again ∷ [] in
    let feet : AreBytes foot_again =
    All-cons Byte r.high_again (r.low_again ∷ r.last_again ∷ []) r.bytes.0
    (All-cons Byte r.low_again (r.last_again ∷ []) r.bytes.1 (All-cons Byte r.last_again [] r.bytes.2 (All-nil Byte))) in
    let back : AreBytes (r.middle ++ 0x74 ∷ foot_again) = All-append Byte r.middle (0x74 ∷ foot_again) middle (All-cons Byte 0x74 foot_again (omega arith) feet) in
    let behind = All-cons Byte r.high_again (r.low_again ∷ (r.middle ++ 0x74 ∷ foot_again)) r.bytes.0
    (All-cons Byte r.low_again (r.middle ++ 0x74 ∷ foot_again) r.bytes.1 back) in
    subst AreBytes (sym r.raised_is) (All-append Byte r.head (r.high_again ∷ r.low_again ∷ (r.middle ++ 0x74 ∷ foot_again)) head behind)

-- its counter
abbrev pub raised_counter : (by : ℕ) (user raised : List ℕ) → IsRaised by user raised → ℕ
raised_counter by user raised r = 256 * r.high_again + r.low_again

pub raised_packet : (packet : Frame) (by : ℕ) (user raised : List ℕ) → IsCdp packet user → (r : IsRaised by user raised)
    → IsCdp (record packet { counter = raised_counter by user raised r }) raised
raised_packet packet by user raised is r =
    let head = 0x96 ∷ 0x69 ∷ length user ∷ (16 * rate_code packet.rate + is.marker) ∷ packet.flags ∷ [] in
    let sections = concat packet.sections in
    let five : length head ≡ length r.head = sym r.five in
    let (heads, tails) = same_fronts head (is.high ∷ is.low ∷ (sections ++ 0x74 ∷ is.high ∷ is.low ∷ is.last ∷ [])) r.head
    (r.high ∷ r.low ∷ (r.middle ++ 0x74 ∷ r.high ∷ r.low ∷ r.last ∷ [])) five (sym is.spelled ∙ r.user_is) in
    let backs : sections ++ 0x74 ∷ is.high ∷ is.low ∷ is.last ∷ [] ≡ r.middle ++ 0x74 ∷ r.high ∷ r.low ∷ r.last ∷ [] = cc in
    let long : length sections ≡ length r.middle =
    let one = length-append sections (0x74 ∷ is.high ∷ is.low ∷ is.last ∷ []) in
    let other = length-append r.middle (0x74 ∷ r.high ∷ r.low ∷ r.last ∷ []) in
    omega (arith, one, other, ap length backs) in
    let (middles, feet) = same_fronts sections (0x74 ∷ is.high ∷ is.low ∷ is.last ∷ []) r.middle (0x74 ∷ r.high ∷ r.low ∷ r.last ∷ []) long backs in
    let size = raised_length by user raised r in
    let foot = r.high_again ∷ r.low_again ∷ r.last_again ∷ [] in
    record {
      marker = is.marker;
      high = r.high_again;
      low = r.low_again;
      last = r.last_again;
      four_bits = is.four_bits;
      counter = refl;
      sections = is.sections;
      spelled = r.raised_is
          ∙ ap (λ (h : List ℕ). h ++ (r.high_again ∷ r.low_again ∷ (r.middle ++ 0x74 ∷ foot))) (sym heads)
          ∙ ap (λ (m : List ℕ). head ++ (r.high_again ∷ r.low_again ∷ (m ++ 0x74 ∷ foot))) (sym middles)
          ∙ ap (λ (n : ℕ). 0x96 ∷ 0x69 ∷ n ∷ (16 * rate_code packet.rate + is.marker) ∷ packet.flags ∷ r.high_again ∷ r.low_again ∷ (sections ++ 0x74 ∷ foot)) (sym size);
      total = r.total;
    }
