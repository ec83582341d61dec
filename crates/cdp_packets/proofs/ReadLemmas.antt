-- A packet is read: none of its bytes is refused, and they make its parts.
use Rattle.std.proofs.Common.{◌≡◌, ◌≢◌, ℕ, ◌+◌, ◌-◌, ◌*◌, ◌/◌, ◌%◌, ◌<◌, ◌≤◌, ◌==◌, nat_le, nat_lt, if◌then◌else◌, Bool, true, false, Some, None, List, [], ◌∷◌, ◌++◌, length, map, sum, refl, sym, ap, subst, ◌∙◌, append_assoc, append-nil, length-append, lit<, lit≤, arith}
use Rattle.std.proofs.lemmas.Bool.Decides.{nat_tests}
use Rattle.std.specs.List.{concat, flat_map}
use Rattle.cc_base.specs.declared.rate.Rate.{Rate}
use Rattle.cc_base.specs.declared.step.Step.{Step}
use Rattle.cc_base.specs.declared.step.Step.TheVariants.{Nothing, One, Refuse}
use Rattle.cc_base.specs.declared.why.Why.TheVariants as why
use Rattle.cc_base.specs.Rate.{rate_code, rate_of}
use Rattle.cc_base.specs.Feeding.{Verdict}
use Rattle.cc_base.specs.Steps.{AreAccepted, IsTaken, step_parts}
use Rattle.cc_base.specs.Syntax.{Reads, read_under}
use Rattle.cc_base.proofs.SyntaxLemmas.{Reads-append, Reads-is, Reads-nothing, Reads-one, read_under-reads}
use Rattle.cdp_packets.specs.declared.parts.CdpPart.{CdpPart}
use Rattle.cdp_packets.specs.declared.parts.CdpPart.TheVariants as part
use Rattle.cdp_packets.specs.Packets.{Frame, IsCdp}
use Rattle.cdp_packets.specs.PacketParts.{packet_parts, section_parts, triplet_parts}
use Rattle.cdp_packets.specs.Reading.{IsPacketLength, Open, bytes_behind, cdp_syntax, count_fits, is_in_sections, judge_behind, judge_cdp, judge_footer, judge_rate, judge_section, judge_triplet, nothing_open, open_after, section_behind, triplet_behind}
use Rattle.cdp_packets.specs.Sections.{AreSections, is_id, section_rest}
use Rattle.cdp_packets.proofs.BegunLemmas.{test-same}
use Rattle.cdp_packets.proofs.FitLemmas.{count_fits-section, id_fits-section, no_single_byte, or-second}
use Rattle.cdp_packets.proofs.PacketLemmas.{rate_of-code}
use Rattle.cdp_packets.proofs.SoundLemmas.{open_after-ended, open_after-more, sum-push}

-- the bytes before the sections
pub record Seven : Type 0 where
  pub mark : ℕ
  pub second : ℕ
  pub long : ℕ
  pub rate : ℕ
  pub flags : ℕ
  pub high : ℕ
  pub low : ℕ

abbrev pub seven : Seven → List ℕ → List ℕ
seven head body = head.mark ∷ head.second ∷ head.long ∷ head.rate ∷ head.flags ∷ head.high ∷ head.low ∷ body

-- these bytes have come, with this open section and triplet
abbrev pub front_of : List ℕ → List ℕ → List ℕ → Open
front_of bytes section triplet = record { bytes = bytes; total = sum bytes; section = section; triplet = triplet }

-- what is made of a byte of the sections, of which this many are left
pub judge_cdp-in : (size : ℕ) (head : Seven) (done section triplet : List ℕ) (left byte : ℕ) → length done + 11 + left ≡ size → 0 < left
    → judge_cdp size (front_of (seven head done) section triplet) byte ≡ judge_section left section triplet byte
judge_cdp-in size head done section triplet left byte long some =
    let more : nat_lt (length done + 11) size ≡ true = grind (arith, nat_tests) in
    let left_is : size - 11 - length done ≡ left = omega arith in
    let out = judge_footer (size - 7 - length done) head.high head.low (sum (seven head done)) byte in
    ap (λ (t : Bool). if t then judge_section (size - 11 - length done) section triplet byte else out) more
    ∙ ap (λ n. judge_section n section triplet byte) left_is

-- and of a byte of the footer
pub judge_cdp-out : (size : ℕ) (head : Seven) (done section triplet : List ℕ) (left byte : ℕ) → length done + 7 + left ≡ size → left ≤ 4
    → judge_cdp size (front_of (seven head done) section triplet) byte ≡ judge_footer left head.high head.low (sum (seven head done)) byte
judge_cdp-out size head done section triplet left byte long few =
    let none : nat_lt (length done + 11) size ≡ false = grind (arith, nat_tests) in
    let left_is : size - 7 - length done ≡ left = omega arith in
    let in_sections = judge_section (size - 11 - length done) section triplet byte in
    ap (λ (t : Bool). if t then in_sections else judge_footer (size - 7 - length done) head.high head.low (sum (seven head done)) byte) none
    ∙ ap (λ n. judge_footer n head.high head.low (sum (seven head done)) byte) left_is

-- what is open after a byte
abbrev next_open : List ℕ → List ℕ → List ℕ → Bool → ℕ → Open
next_open bytes section triplet inside byte = record {
  bytes = bytes ++ byte ∷ [];
  total = sum (bytes ++ byte ∷ []);
  section = if inside then section_behind section byte else [];
  triplet = if inside then triplet_behind section triplet byte else [];
}

open_after-next : (size : ℕ) (bytes section triplet : List ℕ) (byte : ℕ) → length bytes < size
    → open_after size (front_of bytes section triplet) byte ≡ next_open bytes section triplet (is_in_sections size bytes) byte
open_after-next size bytes section triplet byte below =
    open_after-more size (front_of bytes section triplet) byte below
    ∙ ap (λ n. let o : Open = record {
      bytes = bytes ++ byte ∷ [];
      total = n;
      section = if is_in_sections size bytes then section_behind section byte else [];
      triplet = if is_in_sections size bytes then triplet_behind section triplet byte else [];
    } in o) (sym (sum-push bytes byte))

pub open_after-in : (size : ℕ) (head : Seven) (done section triplet : List ℕ) (left byte : ℕ) → length done + 11 + left ≡ size → 0 < left
    → open_after size (front_of (seven head done) section triplet) byte
    ≡ front_of (seven head (done ++ byte ∷ [])) (section_behind section byte) (triplet_behind section triplet byte)
open_after-in size head done section triplet left byte long some =
    let more : nat_lt (length done + 11) size ≡ true = grind (arith, nat_tests) in
    open_after-next size (seven head done) section triplet byte (omega arith)
    ∙ ap (λ (t : Bool). next_open (seven head done) section triplet t byte) more

pub open_after-out : (size : ℕ) (head : Seven) (done section triplet : List ℕ) (left byte : ℕ) → length done + 7 + left ≡ size → left ≤ 4 → 0 < left
    → open_after size (front_of (seven head done) section triplet) byte ≡ front_of (seven head (done ++ byte ∷ [])) [] []
open_after-out size head done section triplet left byte long few some =
    let none : nat_lt (length done + 11) size ≡ false = grind (arith, nat_tests) in
    open_after-next size (seven head done) section triplet byte (omega arith)
    ∙ ap (λ (t : Bool). next_open (seven head done) section triplet t byte) none

-- a byte of the sections
pub section_byte : (size : ℕ) (head : Seven) (done section triplet : List ℕ) (left byte : ℕ) (step : Step CdpPart) → length done + 11 + left ≡ size → 0 < left
    → judge_section left section triplet byte ≡ step → IsTaken step
    → Reads (cdp_syntax size) (front_of (seven head done) section triplet) (byte ∷ []) (step_parts step) (front_of (seven head (done ++ byte ∷ [])) (section_behind section byte) (triplet_behind section triplet byte))
section_byte size head done section triplet left byte step long some is taken =
    Reads-one (cdp_syntax size) _ byte step _ (judge_cdp-in size head done section triplet left byte long some ∙ is) taken
    (open_after-in size head done section triplet left byte long some)

-- a byte of the footer
pub footer_byte : (size : ℕ) (head : Seven) (done section triplet : List ℕ) (left byte : ℕ) (step : Step CdpPart) → length done + 7 + left ≡ size → left ≤ 4 → 0 < left
    → judge_footer left head.high head.low (sum (seven head done)) byte ≡ step → IsTaken step
    → Reads (cdp_syntax size) (front_of (seven head done) section triplet) (byte ∷ []) (step_parts step) (front_of (seven head (done ++ byte ∷ [])) [] [])
footer_byte size head done section triplet left byte step long few some is taken =
    Reads-one (cdp_syntax size) _ byte step _ (judge_cdp-out size head done section triplet left byte long few ∙ is) taken
    (open_after-out size head done section triplet left byte long few some)

-- a byte before the sections
pub head_byte : (size : ℕ) (bytes section triplet : List ℕ) (byte : ℕ) (step : Step CdpPart) → length bytes < size → is_in_sections size bytes ≡ false
    → judge_cdp size (front_of bytes section triplet) byte ≡ step → IsTaken step
    → Reads (cdp_syntax size) (front_of bytes section triplet) (byte ∷ []) (step_parts step) (front_of (bytes ++ byte ∷ []) [] [])
head_byte size bytes section triplet byte step below outside is taken =
    Reads-one (cdp_syntax size) _ byte step _ is taken
    (open_after-next size bytes section triplet byte below ∙ ap (λ (t : Bool). next_open bytes section triplet t byte) outside)

-- the parts of the bytes after a section's first two: with triplets or without, and this open triplet
abbrev body_parts : Bool → List ℕ → List ℕ → List CdpPart
body_parts triplets triplet [] = []
body_parts triplets triplet (byte ∷ rest) =
    step_parts (if triplets then judge_triplet triplet byte else One (part.SectionByte byte))
    ++ body_parts triplets (if triplets then bytes_behind triplet byte else []) rest

-- the open triplet after them
abbrev triplet_from : Bool → List ℕ → List ℕ → List ℕ
triplet_from triplets triplet [] = triplet
triplet_from triplets triplet (byte ∷ rest) = triplet_from triplets (if triplets then bytes_behind triplet byte else []) rest

-- without triplets they are the bytes
body_parts-plain : (rest : List ℕ) → body_parts false [] rest ≡ map part.SectionByte rest
body_parts-plain [] = refl
body_parts-plain (byte ∷ rest) = ap (λ ps. part.SectionByte byte ∷ ps) (body_parts-plain rest)

-- and with them three bytes each
body_parts-triplets : (count : ℕ) (rest : List ℕ) → length rest ≡ 3 * count → body_parts true [] rest ≡ triplet_parts rest
body_parts-triplets count [] long = refl
body_parts-triplets count (_ ∷ []) long = absurd (omega arith)
body_parts-triplets count (_ ∷ _ ∷ []) long = absurd (omega arith)
body_parts-triplets count (first ∷ second ∷ third ∷ rest) long =
    ap (λ ps. step_parts (judge_triplet [] first) ++ (step_parts (judge_triplet (first ∷ []) second) ++ (step_parts (judge_triplet (first ∷ second ∷ []) third) ++ ps)))
    (body_parts-triplets (count - 1) rest (omega arith))

section_body_parts : (id second : ℕ) (rest : List ℕ) → length rest ≡ section_rest id second
    → body_parts (id == 0x72) [] rest ≡ (if id == 0x72 then triplet_parts rest else map part.SectionByte rest)
section_body_parts id second rest long =
    let cases : (t : Bool) → (id == 0x72) ≡ t → body_parts t [] rest ≡ (if t then triplet_parts rest else map part.SectionByte rest) = elim [
      | true ↦ λ is. body_parts-triplets (second % 32) rest (long ∙ ap (λ i. section_rest i second) (test-same id 0x72 is))
      | false ↦ λ other. body_parts-plain rest
    ] in cases _ refl

-- a byte after a section's first two is never refused
pub body_taken : (triplets : Bool) (triplet : List ℕ) (byte : ℕ) → IsTaken (if triplets then judge_triplet triplet byte else One (part.SectionByte byte))
body_taken false triplet byte = tt
body_taken true [] byte = tt
body_taken true (first ∷ []) byte = tt
body_taken true (first ∷ second ∷ more) byte = tt

-- the bytes after a section's first two, to its end
body_read : (size : ℕ) (head : Seven) (done : List ℕ) (id second : ℕ) (before triplet rest : List ℕ) (more : ℕ)
    → length before + length rest ≡ section_rest id second → 0 < length rest → length done + 11 + (length rest + more) ≡ size
    → Reads (cdp_syntax size) (front_of (seven head done) (id ∷ second ∷ before) triplet) rest (body_parts (id == 0x72) triplet rest) (front_of (seven head (done ++ rest)) [] (triplet_from (id == 0x72) triplet rest))
body_read size head done id second before triplet [] more whole some long = absurd (omega arith)
body_read size head done id second before triplet (byte ∷ []) more whole some long =
    let step : Step CdpPart = if id == 0x72 then judge_triplet triplet byte else One (part.SectionByte byte) in
    let ends : nat_le (section_rest id second) (length before + 1) ≡ true = grind (arith, nat_tests) in
    let one = section_byte size head done (id ∷ second ∷ before) triplet (1 + more) byte step (omega arith) (omega arith) refl (body_taken (id == 0x72) triplet byte) in
    Reads-is (cdp_syntax size) _ _ _ _ _ _ (sym (append-nil (step_parts step)))
    (ap (λ (t : Bool). front_of (seven head (done ++ byte ∷ [])) (if t then [] else id ∷ second ∷ (before ++ byte ∷ [])) (triplet_from (id == 0x72) triplet (byte ∷ []))) ends) one
body_read size head done id second before triplet (byte ∷ next ∷ rest) more whole some long =
    let step : Step CdpPart = if id == 0x72 then judge_triplet triplet byte else One (part.SectionByte byte) in
    let after : List ℕ = if id == 0x72 then bytes_behind triplet byte else [] in
    let lasts : nat_le (section_rest id second) (length before + 1) ≡ false = grind (arith, nat_tests) in
    let one = section_byte size head done (id ∷ second ∷ before) triplet (length (byte ∷ next ∷ rest) + more) byte step (omega arith) (omega arith) refl (body_taken (id == 0x72) triplet byte) in
    let first = Reads-is (cdp_syntax size) _ _ _ (step_parts step) _ (front_of (seven head (done ++ byte ∷ [])) (id ∷ second ∷ (before ++ byte ∷ [])) after) refl
    (ap (λ (t : Bool). front_of (seven head (done ++ byte ∷ [])) (if t then [] else id ∷ second ∷ (before ++ byte ∷ [])) after) lasts) one in
    let others = body_read size head (done ++ byte ∷ []) id second (before ++ byte ∷ []) after (next ∷ rest) more
    (omega (arith, length-append before (byte ∷ []))) (omega arith) (omega (arith, length-append done (byte ∷ []))) in
    Reads-is (cdp_syntax size) _ _ _ _ _ _ refl
    (ap (λ (bs : List ℕ). front_of (seven head bs) [] (triplet_from (id == 0x72) after (next ∷ rest))) (append_assoc done (byte ∷ []) (next ∷ rest)))
    (Reads-append (cdp_syntax size) _ _ _ _ _ _ _ first others)

-- a section's first two bytes
section_begins : (size : ℕ) (head : Seven) (done triplet : List ℕ) (id second more : ℕ) → is_id id ≡ true
    → length done + 11 + (2 + section_rest id second + more) ≡ size → more ≢ 1
    → Reads (cdp_syntax size) (front_of (seven head done) [] triplet) (id ∷ second ∷ []) (part.SectionByte id ∷ part.SectionByte second ∷ []) (front_of (seven head (done ++ id ∷ second ∷ [])) (section_behind (id ∷ []) second) [])
section_begins size head done triplet id second more is long none =
    let left = 2 + section_rest id second + more in
    let fits = id_fits-section left id second more is refl none in
    let one = section_byte size head done [] triplet left id (One (part.SectionByte id)) long (omega arith)
    (ap (λ (t : Bool). let s : Step CdpPart = if t then One (part.SectionByte id) else Refuse why.Section in s) fits) tt in
    let below = 1 + section_rest id second + more in
    let counts = or-second (id == 0x71) (count_fits below id second) (count_fits-section below id second more refl none) in
    let two = section_byte size head (done ++ id ∷ []) (id ∷ []) [] below second (One (part.SectionByte second))
    (omega (arith, length-append done (id ∷ []))) (omega arith)
    (ap (λ (t : Bool). let s : Step CdpPart = if t then One (part.SectionByte second) else Refuse why.Count in s) counts) tt in
    Reads-is (cdp_syntax size) _ _ _ _ _ _ refl
    (ap (λ (bs : List ℕ). front_of (seven head bs) (section_behind (id ∷ []) second) []) (append_assoc done (id ∷ []) (second ∷ [])))
    (Reads-append (cdp_syntax size) _ _ _ _ _ _ _ one two)

-- a section
section_read : (size : ℕ) (head : Seven) (done triplet : List ℕ) (id second : ℕ) (rest : List ℕ) (more : ℕ) → is_id id ≡ true → length rest ≡ section_rest id second
    → length done + 11 + (2 + length rest + more) ≡ size → more ≢ 1
    → Reads (cdp_syntax size) (front_of (seven head done) [] triplet) (id ∷ second ∷ rest) (section_parts (id ∷ second ∷ rest)) (front_of (seven head (done ++ id ∷ second ∷ rest)) [] (triplet_from (id == 0x72) [] rest))
section_read size head done triplet id second [] more is whole long none =
    let ends : (section_rest id second == 0) ≡ true = grind (arith, nat_tests) in
    let begins = section_begins size head done triplet id second more is (omega (arith, whole, long)) none in
    Reads-is (cdp_syntax size) _ _ _ _ _ _ (ap (λ ps. part.SectionByte id ∷ part.SectionByte second ∷ ps) (section_body_parts id second [] whole))
    (ap (λ (t : Bool). front_of (seven head (done ++ id ∷ second ∷ [])) (if t then [] else id ∷ second ∷ []) []) ends) begins
section_read size head done triplet id second (byte ∷ rest) more is whole long none =
    let lasts : (section_rest id second == 0) ≡ false = grind (arith, nat_tests) in
    let begins = section_begins size head done triplet id second more is (omega (arith, whole, long)) none in
    let first = Reads-is (cdp_syntax size) _ _ _ (part.SectionByte id ∷ part.SectionByte second ∷ []) _ (front_of (seven head (done ++ id ∷ second ∷ [])) (id ∷ second ∷ []) []) refl
    (ap (λ (t : Bool). front_of (seven head (done ++ id ∷ second ∷ [])) (if t then [] else id ∷ second ∷ []) []) lasts) begins in
    let body = body_read size head (done ++ id ∷ second ∷ []) id second [] [] (byte ∷ rest) more (omega (arith, whole)) (omega arith)
    (omega (arith, long, length-append done (id ∷ second ∷ []))) in
    Reads-is (cdp_syntax size) _ _ _ _ _ _ (ap (λ ps. part.SectionByte id ∷ part.SectionByte second ∷ ps) (section_body_parts id second (byte ∷ rest) whole))
    (ap (λ (bs : List ℕ). front_of (seven head bs) [] (triplet_from (id == 0x72) [] (byte ∷ rest))) (append_assoc done (id ∷ second ∷ []) (byte ∷ rest)))
    (Reads-append (cdp_syntax size) _ _ _ _ _ _ _ first body)

-- sections
pub record SectionsRead (size : ℕ) (head : Seven) (done triplet : List ℕ) (cut : List (List ℕ)) : Type 0 where
  pub last : List ℕ
  pub reads : Reads (cdp_syntax size) (front_of (seven head done) [] triplet) (concat cut) (flat_map section_parts cut) (front_of (seven head (done ++ concat cut)) [] last)

sections_read : (size : ℕ) (head : Seven) (done triplet : List ℕ) (cut : List (List ℕ)) → AreSections cut → length done + 11 + length (concat cut) ≡ size
    → SectionsRead size head done triplet cut
sections_read size head done triplet [] are long = record {
  last = triplet;
  reads = Reads-is (cdp_syntax size) _ _ _ _ _ _ refl
      (ap (λ (bs : List ℕ). front_of (seven head bs) [] triplet) (sym (append-nil done))) (Reads-nothing (cdp_syntax size) _);
}
sections_read size head done triplet ([] ∷ cut) are long = absurd are.0
sections_read size head done triplet ((_ ∷ []) ∷ cut) are long = absurd are.0
sections_read size head done triplet ((id ∷ second ∷ rest) ∷ cut) are long =
    let section = id ∷ second ∷ rest in
    let sizes = length-append rest (concat cut) in
    let one = section_read size head done triplet id second rest (length (concat cut)) are.0.0 are.0.1 (omega (arith, long, sizes)) (no_single_byte cut are.1) in
    let others = sections_read size head (done ++ section) (triplet_from (id == 0x72) [] rest) cut are.1 (omega (arith, long, sizes, length-append done section)) in
    record {
      last = others.last;
      reads = Reads-is (cdp_syntax size) _ _ _ _ _ _ refl
          (ap (λ (bs : List ℕ). front_of (seven head bs) [] others.last) (append_assoc done section (concat cut)))
          (Reads-append (cdp_syntax size) _ _ _ _ _ _ _ one others.reads);
    }

-- a number is itself
same-test : (n : ℕ) → (n == n) ≡ true
same-test n = grind (arith, nat_tests)

-- a byte that has to be this one
pub fixed : (byte : ℕ) (step : Step CdpPart) → (if byte == byte then Nothing else step) ≡ Nothing
fixed byte step = ap (λ (t : Bool). let s : Step CdpPart = if t then Nothing else step in s) (same-test byte)

-- the footer
footer_read : (size : ℕ) (head : Seven) (done triplet : List ℕ) (last : ℕ) → length done + 11 ≡ size
    → sum (seven head (done ++ 0x74 ∷ head.high ∷ head.low ∷ last ∷ [])) % 256 ≡ 0
    → Reads (cdp_syntax size) (front_of (seven head done) [] triplet) (0x74 ∷ head.high ∷ head.low ∷ last ∷ []) (part.End ∷ []) (front_of (seven head (done ++ 0x74 ∷ head.high ∷ head.low ∷ last ∷ [])) [] [])
footer_read size head done triplet last long zero =
    let one = done ++ 0x74 ∷ [] in
    let two = one ++ head.high ∷ [] in
    let three = two ++ head.low ∷ [] in
    let long_one : length one ≡ length done + 1 = length-append done (0x74 ∷ []) in
    let long_two : length two ≡ length one + 1 = length-append one (head.high ∷ []) in
    let long_three : length three ≡ length two + 1 = length-append two (head.low ∷ []) in
    let whole : three ++ last ∷ [] ≡ done ++ 0x74 ∷ head.high ∷ head.low ∷ last ∷ [] = simp append_assoc in
    let sum_is : (sum (seven head three) + last) % 256 ≡ 0 =
    ap (λ n. n % 256) (sym (sum-push (seven head three) last)) ∙ ap (λ (bs : List ℕ). sum (seven head bs) % 256) whole ∙ zero in
    let id = footer_byte size head done [] triplet 4 0x74 Nothing (omega arith) (lit≤ tt) (lit< tt) refl tt in
    let high = footer_byte size head one [] [] 3 head.high Nothing (omega arith) (lit≤ tt) (lit< tt) (fixed head.high (Refuse why.Counter)) tt in
    let low = footer_byte size head two [] [] 2 head.low Nothing (omega arith) (lit≤ tt) (lit< tt) (fixed head.low (Refuse why.Counter)) tt in
    let end = footer_byte size head three [] [] 1 last (One part.End) (omega arith) (lit≤ tt) (lit< tt)
    (ap (λ n. let s : Step CdpPart = if n == 0 then One part.End else Refuse why.Sum in s) sum_is) tt in
    Reads-is (cdp_syntax size) _ _ _ _ _ _ refl
    (ap (λ (bs : List ℕ). front_of (seven head bs) [] []) whole)
    (Reads-append (cdp_syntax size) _ _ _ _ _ _ _ id (Reads-append (cdp_syntax size) _ _ _ _ _ _ _ high (Reads-append (cdp_syntax size) _ _ _ _ _ _ _ low end)))

-- the bytes before the sections
head_read : (size rate flags high low : ℕ) (code : Rate) → 11 ≤ size → rate_of (rate / 16) ≡ Some code
    → Reads (cdp_syntax size) nothing_open (0x96 ∷ 0x69 ∷ size ∷ rate ∷ flags ∷ high ∷ low ∷ []) (part.Rate code ∷ part.Flags flags ∷ part.Counter (256 * high + low) ∷ []) (front_of (0x96 ∷ 0x69 ∷ size ∷ rate ∷ flags ∷ high ∷ low ∷ []) [] [])
head_read size rate flags high low code long is =
    let first = head_byte size [] [] [] 0x96 Nothing (omega arith) refl refl tt in
    let second = head_byte size (0x96 ∷ []) [] [] 0x69 Nothing (omega arith) refl refl tt in
    let third = head_byte size (0x96 ∷ 0x69 ∷ []) [] [] size Nothing (omega arith) refl (fixed size (Refuse why.Length)) tt in
    let fourth = head_byte size (0x96 ∷ 0x69 ∷ size ∷ []) [] [] rate (One (part.Rate code)) (omega arith) refl (ap judge_rate is) tt in
    let fifth = head_byte size (0x96 ∷ 0x69 ∷ size ∷ rate ∷ []) [] [] flags (One (part.Flags flags)) (omega arith) refl refl tt in
    let sixth = head_byte size (0x96 ∷ 0x69 ∷ size ∷ rate ∷ flags ∷ []) [] [] high Nothing (omega arith) refl refl tt in
    let seventh = head_byte size (0x96 ∷ 0x69 ∷ size ∷ rate ∷ flags ∷ high ∷ []) [] [] low (One (part.Counter (256 * high + low))) (omega arith) refl refl tt in
    Reads-append (cdp_syntax size) _ _ _ _ _ _ _ first (Reads-append (cdp_syntax size) _ _ _ _ _ _ _ second (Reads-append (cdp_syntax size) _ _ _ _ _ _ _ third
    (Reads-append (cdp_syntax size) _ _ _ _ _ _ _ fourth (Reads-append (cdp_syntax size) _ _ _ _ _ _ _ fifth (Reads-append (cdp_syntax size) _ _ _ _ _ _ _ sixth seventh)))))

-- a packet has a length that packets can have
pub packet_length : (packet : Frame) (bytes : List ℕ) → IsCdp packet bytes → IsPacketLength (length bytes)
packet_length packet bytes is =
    let whole = ap length is.spelled in
    let sizes = length-append (concat packet.sections) (0x74 ∷ is.high ∷ is.low ∷ is.last ∷ []) in
    (omega (arith, whole, sizes), λ e. no_single_byte packet.sections is.sections (omega (arith, whole, sizes, e)))

-- a packet is read to its end, with its parts
pub packet_read : (packet : Frame) (bytes : List ℕ) → IsCdp packet bytes → Reads (cdp_syntax (length bytes)) nothing_open bytes (packet_parts packet) (front_of bytes [] [])
packet_read packet bytes is =
    let size = length bytes in
    let rate = 16 * rate_code packet.rate + is.marker in
    let foot = 0x74 ∷ is.high ∷ is.low ∷ is.last ∷ [] in
    let head : Seven = record { mark = 0x96; second = 0x69; long = size; rate = rate; flags = packet.flags; high = is.high; low = is.low } in
    let whole = ap length is.spelled in
    let long : length (concat packet.sections) + 11 ≡ size = omega (arith, whole, length-append (concat packet.sections) foot) in
    let small = is.four_bits in
    let high_bits : rate / 16 ≡ rate_code packet.rate = omega arith in
    let code : rate_of (rate / 16) ≡ Some packet.rate = ap rate_of high_bits ∙ rate_of-code packet.rate in
    let zero = subst (λ bs. sum bs % 256 ≡ 0) is.spelled is.total in
    let begins = head_read size rate packet.flags is.high is.low packet.rate (packet_length packet bytes is).0 code in
    let sections = sections_read size head [] [] packet.sections is.sections (omega (arith, long)) in
    let ends = footer_read size head (concat packet.sections) sections.last is.last long zero in
    let all = Reads-append (cdp_syntax size) _ _ _ _ _ _ _ begins (Reads-append (cdp_syntax size) _ _ _ _ _ _ _ sections.reads ends) in
    subst (λ (bs : List ℕ). Reads (cdp_syntax size) nothing_open bs (packet_parts packet) (front_of bs [] [])) (sym is.spelled)
    (Reads-is (cdp_syntax size) _ _ _ _ _ _ (ap (λ n. part.Rate packet.rate ∷ part.Flags packet.flags ∷ part.Counter n ∷ (flat_map section_parts packet.sections ++ part.End ∷ [])) (sym is.counter))
    refl all)

-- and under a layer that takes its parts
pub packet_handed : (verdict : Verdict CdpPart) (packet : Frame) (bytes : List ℕ) → IsCdp packet bytes → AreAccepted verdict [] (packet_parts packet)
    → read_under (cdp_syntax (length bytes)) 1 verdict bytes ≡ record { parts = packet_parts packet; refusal = None }
packet_handed verdict packet bytes is accepted =
    read_under-reads (cdp_syntax (length bytes)) 1 verdict bytes (packet_parts packet) (front_of bytes [] []) (packet_read packet bytes is) accepted

-- bytes after the packet's end make nothing
nothing_behind : (size : ℕ) (bytes : List ℕ) (total : ℕ) (section triplet : List ℕ) (byte : ℕ) → IsPacketLength size → length bytes ≡ size
    → judge_behind size bytes total section triplet byte ≡ Nothing
nothing_behind size [] total section triplet byte can all = absurd (omega (arith, can.0))
nothing_behind size (_ ∷ []) total section triplet byte can all = absurd (omega (arith, can.0))
nothing_behind size (_ ∷ _ ∷ []) total section triplet byte can all = absurd (omega (arith, can.0))
nothing_behind size (_ ∷ _ ∷ _ ∷ []) total section triplet byte can all = absurd (omega (arith, can.0))
nothing_behind size (_ ∷ _ ∷ _ ∷ _ ∷ []) total section triplet byte can all = absurd (omega (arith, can.0))
nothing_behind size (_ ∷ _ ∷ _ ∷ _ ∷ _ ∷ []) total section triplet byte can all = absurd (omega (arith, can.0))
nothing_behind size (_ ∷ _ ∷ _ ∷ _ ∷ _ ∷ _ ∷ []) total section triplet byte can all = absurd (omega (arith, can.0))
nothing_behind size (mark ∷ second ∷ long ∷ rate ∷ flags ∷ high ∷ low ∷ body) total section triplet byte can all =
    let none : nat_lt (length body + 11) size ≡ false = grind (arith, nat_tests) in
    let zero : size - 7 - length body ≡ 0 = omega arith in
    let in_sections = judge_section (size - 11 - length body) section triplet byte in
    ap (λ (t : Bool). if t then in_sections else judge_footer (size - 7 - length body) high low total byte) none
    ∙ ap (λ n. judge_footer n high low total byte) zero

pub behind_read : (size : ℕ) (front : Open) (more : List ℕ) → IsPacketLength size → length front.bytes ≡ size → Reads (cdp_syntax size) front more [] front
behind_read size front [] can all = Reads-nothing (cdp_syntax size) front
behind_read size front (byte ∷ more) can all =
    Reads-append (cdp_syntax size) _ _ _ _ _ _ _
    (Reads-one (cdp_syntax size) front byte Nothing front (nothing_behind size front.bytes front.total front.section front.triplet byte can all) tt (open_after-ended size front byte all))
    (behind_read size front more can all)
