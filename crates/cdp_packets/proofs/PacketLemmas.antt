-- What is written is a packet, and bytes begin with one packet at most.
use Rattle.std.proofs.Common.{◌≡◌, ℕ, ◌+◌, ◌*◌, ◌/◌, ◌%◌, ◌++◌, Some, List, [], ◌∷◌, length, get_or, sum, refl, sym, ap, ◌∙◌, append_assoc, length-append, lit<, arith}
use Rattle.std.proofs.lemmas.Grind.{common_steps}
use Rattle.std.specs.List.{concat}
use Rattle.cc_base.specs.declared.rate.Rate.{Rate}
use Rattle.cc_base.specs.declared.rate.Rate.TheVariants as rate
use Rattle.cc_base.specs.Rate.{rate_code, rate_of}
use Rattle.cdp_packets.specs.Sections.{AreSections}
use Rattle.cdp_packets.specs.Packets.{Frame, IsCdp}
use Rattle.cdp_packets.specs.Written.{checksum_of, unsummed_packet, written_packet}
use Rattle.cdp_packets.proofs.SectionLemmas.{split_same, sections_cut_once}

-- the byte after a list that makes the sum 0
checksum-sum : (bytes : List ℕ) → sum (bytes ++ checksum_of bytes ∷ []) % 256 ≡ 0
checksum-sum bytes =
    let whole : sum (bytes ++ checksum_of bytes ∷ []) ≡ sum bytes + checksum_of bytes = grind (arith, common_steps) in
    omega (arith, whole)

-- what is written is the packet
pub written-is_packet : (rate : Rate) (flags counter : ℕ) (cut : List (List ℕ)) → AreSections cut → IsCdp (record { rate = rate; flags = flags; counter = counter; sections = cut }) (written_packet rate flags counter (concat cut))
written-is_packet rate flags counter cut are =
    let sections = concat cut in
    let high = counter / 256 in
    let low = counter % 256 in
    let unsummed = unsummed_packet rate flags counter sections in
    let last = checksum_of unsummed in
    let bytes = written_packet rate flags counter sections in
    let behind : (sections ++ 0x74 ∷ high ∷ low ∷ []) ++ last ∷ [] ≡ sections ++ 0x74 ∷ high ∷ low ∷ last ∷ [] = append_assoc sections _ _ in
    let long : length sections + 11 ≡ length bytes = omega (arith, ap length behind, length-append sections (0x74 ∷ high ∷ low ∷ last ∷ [])) in
    record {
      marker = 15;
      high = high;
      low = low;
      last = last;
      four_bits = lit< tt;
      counter = omega arith;
      sections = are;
      spelled = ap (λ n. 0x96 ∷ 0x69 ∷ n ∷ (16 * rate_code rate + 15) ∷ flags ∷ high ∷ low ∷ ((sections ++ 0x74 ∷ high ∷ low ∷ []) ++ last ∷ [])) long
          ∙ ap (λ rest. 0x96 ∷ 0x69 ∷ length bytes ∷ (16 * rate_code rate + 15) ∷ flags ∷ high ∷ low ∷ rest) behind;
      total = checksum-sum unsummed;
    }

-- the code of a rate is its alone
pub rate_of-code : (r : Rate) → rate_of (rate_code r) ≡ Some r
rate_of-code rate.F23976 = refl
rate_of-code rate.F24 = refl
rate_of-code rate.F25 = refl
rate_of-code rate.F2997 = refl
rate_of-code rate.F30 = refl
rate_of-code rate.F50 = refl
rate_of-code rate.F5994 = refl
rate_of-code rate.F60 = refl

same_rate : (r s : Rate) → rate_code r ≡ rate_code s → r ≡ s
same_rate r s same = cc (rate_of-code r, rate_of-code s, ap rate_of same)

-- a packet by its parts
abbrev packet_by : Rate → ℕ → ℕ → List (List ℕ) → Frame
packet_by rate flags counter sections = record { rate = rate; flags = flags; counter = counter; sections = sections }

same_packet : (p q : Frame) → p.rate ≡ q.rate → p.flags ≡ q.flags → p.counter ≡ q.counter → p.sections ≡ q.sections → p ≡ q
same_packet p q rates flags counters sections =
    ap (λ r. packet_by r p.flags p.counter p.sections) rates
    ∙ ap (λ f. packet_by q.rate f p.counter p.sections) flags
    ∙ ap (λ c. packet_by q.rate q.flags c p.sections) counters
    ∙ ap (packet_by q.rate q.flags q.counter) sections

-- the third bytes of lists that go on alike
third_same : (bs cs x y r s : List ℕ) (a b n m : ℕ) → bs ≡ a ∷ b ∷ n ∷ r → cs ≡ a ∷ b ∷ m ∷ s → bs ++ x ≡ cs ++ y → n ≡ m
third_same bs cs x y r s a b n m e f same =
    ap (λ l. get_or l 2 0) (sym (ap (λ l. l ++ x) e) ∙ same ∙ ap (λ l. l ++ y) f)

-- two packets at the head of one list
pub record Same (p q : Frame) (bs cs x y : List ℕ) : Type 0 where
  pub packet : p ≡ q
  pub bytes : bs ≡ cs
  pub rest : x ≡ y

-- the parts of two packets of the same bytes
parts_same : (p q : Frame) (bs cs : List ℕ) → bs ≡ cs → IsCdp p bs → IsCdp q cs → p ≡ q
parts_same p q bs cs same is are =
    let whole = sym is.spelled ∙ same ∙ are.spelled in
    let high : is.high ≡ are.high = cc in
    let low : is.low ≡ are.low = cc in
    let coded : 16 * rate_code p.rate + is.marker ≡ 16 * rate_code q.rate + are.marker = cc in
    let tails : concat p.sections ++ 0x74 ∷ is.high ∷ is.low ∷ is.last ∷ [] ≡ concat q.sections ++ 0x74 ∷ are.high ∷ are.low ∷ are.last ∷ [] = cc in
    let long : length (concat p.sections) ≡ length (concat q.sections) =
    omega (arith, ap length tails, length-append (concat p.sections) (0x74 ∷ is.high ∷ is.low ∷ is.last ∷ []), length-append (concat q.sections) (0x74 ∷ are.high ∷ are.low ∷ are.last ∷ [])) in
    let split = split_same (concat p.sections) (concat q.sections) _ _ long tails in
    same_packet p q
    (same_rate p.rate q.rate (omega (arith, coded, is.four_bits, are.four_bits)))
    (cc)
    (omega (arith, high, low, is.counter, are.counter))
    (sections_cut_once p.sections q.sections is.sections are.sections split.heads)

pub packet_once : (p q : Frame) (bs cs x y : List ℕ) → IsCdp p bs → IsCdp q cs → bs ++ x ≡ cs ++ y → Same p q bs cs x y
packet_once p q bs cs x y is are same =
    let long = third_same bs cs x y _ _ _ _ _ _ is.spelled are.spelled same in
    let split = split_same bs cs x y long same in
    record { packet = parts_same p q bs cs split.heads is are; bytes = split.heads; rest = split.tails }
