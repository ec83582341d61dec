-- Lists of sections are walked section by section, and what is compared of bytes says that they are a packet.
use Rattle.std.proofs.Common.{◌≡◌, ℕ, zero, suc, ◌+◌, ◌-◌, ◌*◌, ◌/◌, ◌%◌, ◌≤◌, ◌==◌, ◌++◌, Bool, true, false, MatchBool, Some, List, [], ◌∷◌, length, get_or, take, drop, sum, refl, sym, ap, subst, ◌∙◌, length-append, arith}
use Rattle.std.proofs.lemmas.List.{get_or-append-add}
use Rattle.std.proofs.Math.Seq.{take-append_seam}
use Rattle.std.specs.List.{concat}
use Rattle.cc_base.specs.declared.rate.Rate.{Rate}
use Rattle.cc_base.specs.Rate.{rate_code, rate_of}
use Rattle.cdp_packets.specs.Packets.{Frame, IsCdp}
use Rattle.cdp_packets.specs.Sections.{IsSection, IsSectionList}
use Rattle.cdp_packets.proofs.BegunLemmas.{IsHead, test-same}
use Rattle.cdp_packets.proofs.SoundLemmas.{is_packet}
use Rattle.cdp_packets.proofs.SectionLemmas.{first_section, length-section, no_sections, split_same, two_bytes}

-- bytes are a list of sections where others are, and the other way about
pub record SameList (bytes rest : List ℕ) : Type 0 where
  pub behind : IsSectionList bytes → IsSectionList rest
  pub before : IsSectionList rest → IsSectionList bytes

-- where bytes begin with a section, the bytes after it are the rest of the list
rest_list : (section behind bytes : List ℕ) → IsSection section → bytes ≡ section ++ behind → IsSectionList bytes → IsSectionList behind
rest_list section behind bytes is spelled list =
    let long = length-append section behind in
    let first = first_section bytes list (omega (arith, ap length spelled, long, two_bytes section is)) in
    let same : length first.section ≡ length section =
    sym (length-section bytes first.section first.rest first.is first.spelled) ∙ length-section bytes section behind is spelled in
    let split = split_same first.section section first.rest behind same (sym first.spelled ∙ spelled) in
    subst IsSectionList split.tails first.others

-- and a section before a list is a list
list_before : (section behind bytes : List ℕ) → IsSection section → bytes ≡ section ++ behind → IsSectionList behind → IsSectionList bytes
list_before section behind bytes is spelled list = record {
  cut = section ∷ list.cut;
  are = (is, list.are);
  joined = ap (λ b. section ++ b) list.joined ∙ sym spelled;
}

-- one section on
pub same_list-next : (bytes rest section behind : List ℕ) → SameList bytes rest → IsSection section → rest ≡ section ++ behind → SameList bytes behind
same_list-next bytes rest section behind same is spelled = record {
  behind = λ list. rest_list section behind rest is spelled (same.behind list);
  before = λ list. same.before (list_before section behind rest is spelled list);
}

-- where no section stands, the bytes are a list if none are left
pub are_list_where_ended : (ended : Bool) (bytes rest : List ℕ) → (length rest == 0) ≡ ended → SameList bytes rest
    → ((section behind : List ℕ) → IsSection section → rest ≡ section ++ behind → ⊥)
    → MatchBool ended (IsSectionList bytes) (IsSectionList bytes → ⊥)
are_list_where_ended true bytes [] is same none = same.before no_sections
are_list_where_ended true bytes (byte ∷ rest) is same none = absurd (omega (arith, test-same (length (byte ∷ rest)) 0 is))
are_list_where_ended false bytes [] is same none = absurd (cc)
are_list_where_ended false bytes (byte ∷ rest) is same none = λ list.
    let first = first_section (byte ∷ rest) (same.behind list) (omega arith) in
    none first.section first.rest first.is first.spelled

-- what is compared of bytes that are a packet
pub record IsFramed (bytes : List ℕ) : Type 0 where
  pub enough : 11 ≤ length bytes
  pub first : get_or bytes 0 0 ≡ 0x96
  pub second : get_or bytes 1 0 ≡ 0x69
  pub long : get_or bytes 2 0 ≡ length bytes
  pub id : get_or bytes (length bytes - 4) 0 ≡ 0x74
  pub high : get_or bytes (length bytes - 3) 0 ≡ get_or bytes 5 0
  pub low : get_or bytes (length bytes - 2) 0 ≡ get_or bytes 6 0
  pub list : IsSectionList (take (length bytes - 4 - 7) (drop 7 bytes))
  pub total : sum bytes % 256 ≡ 0

-- it is so of a packet
pub packet_framed : (packet : Frame) (bytes : List ℕ) → IsCdp packet bytes → IsFramed bytes
packet_framed packet bytes is =
    let sections = concat packet.sections in
    let foot = 0x74 ∷ is.high ∷ is.low ∷ is.last ∷ [] in
    let head = 0x96 ∷ 0x69 ∷ length bytes ∷ (16 * rate_code packet.rate + is.marker) ∷ packet.flags ∷ is.high ∷ is.low ∷ [] in
    let size : length bytes ≡ length head + (length sections + 4) = omega (arith, ap length is.spelled, length-append sections foot) in
    let at : (n : ℕ) → get_or bytes (length head + (length sections + n)) 0 ≡ get_or foot n 0 =
    λ n. ap (λ bs. get_or bs (length head + (length sections + n)) 0) is.spelled
    ∙ get_or-append-add head (sections ++ foot) (length sections + n) 0 ∙ get_or-append-add sections foot n 0 in
    let place : (n m : ℕ) → length bytes - n ≡ m → get_or bytes (length bytes - n) 0 ≡ get_or bytes m 0 = λ n m same. ap (λ i. get_or bytes i 0) same in
    let fifth : get_or bytes 5 0 ≡ is.high = ap (λ bs. get_or bs 5 0) is.spelled in
    let sixth : get_or bytes 6 0 ≡ is.low = ap (λ bs. get_or bs 6 0) is.spelled in
    let many : length bytes - 4 - 7 ≡ length sections = omega (arith, size) in
    let cut : take (length bytes - 4 - 7) (drop 7 bytes) ≡ sections =
    ap (λ n. take n (drop 7 bytes)) many ∙ ap (λ bs. take (length sections) (drop 7 bs)) is.spelled ∙ take-append_seam sections foot in
    record {
      enough = omega (arith, size);
      first = ap (λ bs. get_or bs 0 0) is.spelled;
      second = ap (λ bs. get_or bs 1 0) is.spelled;
      long = ap (λ bs. get_or bs 2 0) is.spelled;
      id = place 4 (length head + (length sections + 0)) (omega (arith, size)) ∙ at 0;
      high = place 3 (length head + (length sections + 1)) (omega (arith, size)) ∙ at 1 ∙ sym fifth;
      low = place 2 (length head + (length sections + 2)) (omega (arith, size)) ∙ at 2 ∙ sym sixth;
      list = record { cut = packet.sections; are = is.sections; joined = sym cut };
      total = is.total;
    }

-- the last four bytes follow the others
last_four : (bytes : List ℕ) (n : ℕ) → n + 4 ≡ length bytes
    → bytes ≡ take n bytes ++ get_or bytes n 0 ∷ get_or bytes (suc n) 0 ∷ get_or bytes (suc (suc n)) 0 ∷ get_or bytes (suc (suc (suc n))) 0 ∷ []
last_four (a ∷ b ∷ c ∷ d ∷ []) zero long = refl
last_four [] n long = absurd (omega arith)
last_four (byte ∷ bytes) (suc n) long = ap (λ bs. byte ∷ bs) (last_four bytes n (omega arith))
last_four (_ ∷ []) zero long = absurd (omega arith)
last_four (_ ∷ _ ∷ []) zero long = absurd (omega arith)
last_four (_ ∷ _ ∷ _ ∷ []) zero long = absurd (omega arith)
last_four (_ ∷ _ ∷ _ ∷ _ ∷ _ ∷ _) zero long = absurd (omega arith)

-- the packet that such bytes are, where the fourth has a rate's code
abbrev pub packet_of : (bytes : List ℕ) → Rate → IsFramed bytes → Frame
packet_of bytes rate framed = record {
  rate = rate;
  flags = get_or bytes 4 0;
  counter = 256 * get_or bytes 5 0 + get_or bytes 6 0;
  sections = framed.list.cut;
}

pub framed_packet : (bytes : List ℕ) (rate : Rate) (framed : IsFramed bytes) → rate_of (get_or bytes 3 0 / 16) ≡ Some rate → IsCdp (packet_of bytes rate framed) bytes
framed_packet [] rate framed code = absurd (omega (arith, framed.enough))
framed_packet (_ ∷ []) rate framed code = absurd (omega (arith, framed.enough))
framed_packet (_ ∷ _ ∷ []) rate framed code = absurd (omega (arith, framed.enough))
framed_packet (_ ∷ _ ∷ _ ∷ []) rate framed code = absurd (omega (arith, framed.enough))
framed_packet (_ ∷ _ ∷ _ ∷ _ ∷ []) rate framed code = absurd (omega (arith, framed.enough))
framed_packet (_ ∷ _ ∷ _ ∷ _ ∷ _ ∷ []) rate framed code = absurd (omega (arith, framed.enough))
framed_packet (_ ∷ _ ∷ _ ∷ _ ∷ _ ∷ _ ∷ []) rate framed code = absurd (omega (arith, framed.enough))
framed_packet (first ∷ second ∷ long ∷ coded ∷ flags ∷ high ∷ low ∷ rest) rate framed code =
    let bytes = first ∷ second ∷ long ∷ coded ∷ flags ∷ high ∷ low ∷ rest in
    let front = first ∷ second ∷ long ∷ coded ∷ flags ∷ high ∷ low ∷ [] in
    let n = length rest - 4 in
    let enough : n + 4 ≡ length rest = omega (arith, framed.enough) in
    let ends = last_four rest n enough in
    let last = get_or rest (suc (suc (suc n))) 0 in
    let place : (i m : ℕ) → length bytes - i ≡ length front + m → get_or bytes (length bytes - i) 0 ≡ get_or rest m 0 =
    λ i m same. ap (λ j. get_or bytes j 0) same ∙ get_or-append-add front rest m 0 in
    let id : get_or rest n 0 ≡ 0x74 = sym (place 4 n (omega (arith, enough))) ∙ framed.id in
    let high_again : get_or rest (suc n) 0 ≡ high = sym (place 3 (suc n) (omega (arith, enough))) ∙ framed.high in
    let low_again : get_or rest (suc (suc n)) 0 ≡ low = sym (place 2 (suc (suc n)) (omega (arith, enough))) ∙ framed.low in
    let cut : take n rest ≡ concat framed.list.cut = ap (λ j. take j rest) (omega (arith, enough)) ∙ sym framed.list.joined in
    let spelled : rest ≡ concat framed.list.cut ++ 0x74 ∷ high ∷ low ∷ last ∷ [] =
    ends ∙ ap (λ front. front ++ get_or rest n 0 ∷ get_or rest (suc n) 0 ∷ get_or rest (suc (suc n)) 0 ∷ last ∷ []) cut
    ∙ ap (λ b. concat framed.list.cut ++ b ∷ get_or rest (suc n) 0 ∷ get_or rest (suc (suc n)) 0 ∷ last ∷ []) id
    ∙ ap (λ b. concat framed.list.cut ++ 0x74 ∷ b ∷ get_or rest (suc (suc n)) 0 ∷ last ∷ []) high_again
    ∙ ap (λ b. concat framed.list.cut ++ 0x74 ∷ high ∷ b ∷ last ∷ []) low_again in
    let size : length (concat framed.list.cut) + 11 ≡ length bytes = omega (arith, ap length spelled, length-append (concat framed.list.cut) (0x74 ∷ high ∷ low ∷ last ∷ [])) in
    let head : IsHead (length bytes) first second long coded = record { mark_is = framed.first; second_is = framed.second; long_is = framed.long; code = rate; rate_is = code } in
    subst (λ bs. IsCdp (packet_of bytes rate framed) (first ∷ second ∷ long ∷ coded ∷ flags ∷ high ∷ low ∷ bs)) (sym spelled)
    (is_packet (length bytes) first second long coded flags high low framed.list.cut last head framed.list.are size
    (subst (λ bs. sum (first ∷ second ∷ long ∷ coded ∷ flags ∷ high ∷ low ∷ bs) % 256 ≡ 0) spelled framed.total))
