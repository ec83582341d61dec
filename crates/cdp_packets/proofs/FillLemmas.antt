-- Bytes that are read, short of the packet's length, go on to a packet: with sections of bytes 00, and the footer.
use Rattle.std.proofs.Common.{◌≡◌, ◌≢◌, ℕ, zero, suc, ◌+◌, ◌-◌, ◌*◌, ◌%◌, ◌<◌, ◌≤◌, ◌==◌, ◌||◌, ◌⊎◌, inl, inr, nat_le, if◌then◌else◌, Bool, true, false, List, [], ◌∷◌, ◌++◌, length, sum, refl, sym, ap, subst, ◌∙◌, append-nil, length-append, lit<, lit≤, arith}
use Rattle.std.proofs.lemmas.Bool.Decides.{nat_tests}
use Rattle.std.proofs.lemmas.List.Elements.{All-append, All-cons, All-head, All-nil, All-tail}
use Rattle.std.specs.List.{All, concat}
use Rattle.cc_base.specs.declared.rate.Rate.TheVariants as rate
use Rattle.cc_base.specs.declared.step.Step.{Step}
use Rattle.cc_base.specs.declared.step.Step.TheVariants.{Nothing, One, Refuse}
use Rattle.cc_base.specs.declared.why.Why.TheVariants as why
use Rattle.cc_base.specs.declared.why.Why.{Why}
use Rattle.cc_base.specs.Steps.{IsTaken, step_parts}
use Rattle.cc_base.specs.Syntax.{AllRead, AllTaken, Reads, open_behind, parts_from}
use Rattle.cc_base.proofs.SyntaxLemmas.{AllTaken-append, AllTaken-split}
use Rattle.cdp_packets.specs.Packets.{Frame, IsCdp}
use Rattle.cc_data.specs.Triplets.{triplet_of}
use Rattle.cdp_packets.specs.declared.parts.CdpPart.{CdpPart}
use Rattle.cdp_packets.specs.declared.parts.CdpPart.TheVariants as part
use Rattle.cdp_packets.specs.Reading.{cdp_syntax, GoesOnWithFilling, IsFilling, IsPacketLength, Open, count_fits, id_fits, is_in_sections, judge_cdp, judge_triplet, nothing_open, triplet_behind}
use Rattle.cdp_packets.specs.Sections.{section_rest}
use Rattle.cdp_packets.specs.Written.{checksum_of}
use Rattle.cdp_packets.proofs.BegunLemmas.{CanGoOn, InFooter, InSections, IsBegun, IsFoot}
use Rattle.cdp_packets.proofs.FitLemmas.{count_fits-section, id_fits-choice, or-second}
use Rattle.cdp_packets.proofs.ReadLemmas.{Seven, fixed, footer_byte, front_of, head_byte, packet_read, section_byte, seven}
use Rattle.cdp_packets.proofs.SoundLemmas.{bytes_behind-is, read_open, sound}

abbrev pub IsByte : ℕ → Type 0
IsByte byte = byte < 256

-- more bytes complete the packet
pub record Completes (size : ℕ) (front : Open) : Type 0 where
  pub more : List ℕ
  pub bytes_are : All IsByte more
  pub taken : AllTaken (cdp_syntax size) front more
  pub long : length front.bytes + length more ≡ size
  pub filling : All IsFilling (parts_from (cdp_syntax size) front more)

-- first one byte
Completes-with : (size : ℕ) (front behind : Open) (byte : ℕ) (parts : List CdpPart) → Reads (cdp_syntax size) front (byte ∷ []) parts behind → All IsFilling parts → byte < 256
    → length behind.bytes ≡ length front.bytes + 1 → Completes size behind → Completes size front
Completes-with size front behind byte parts reads filling small longer rest =
    let syntax = cdp_syntax size in
    let made = append-nil (step_parts (judge_cdp size front byte)) in
    let long = rest.long in record {
      more = byte ∷ rest.more;
      bytes_are = All-cons IsByte byte rest.more small rest.bytes_are;
      taken = (reads.taken.0, subst (λ f. AllTaken syntax f rest.more) (sym reads.leads) rest.taken);
      long = omega (arith, longer);
      filling = All-append IsFilling (step_parts (judge_cdp size front byte)) _ (subst (All IsFilling) (sym (sym made ∙ reads.made)) filling)
          (subst (λ f. All IsFilling (parts_from syntax f rest.more)) (sym reads.leads) rest.filling);
    }

-- parts without captions
no_filling : All IsFilling []
no_filling = All-nil IsFilling

one_filling : (p : CdpPart) → IsFilling p → All IsFilling (p ∷ [])
one_filling p is = All-cons IsFilling p [] is no_filling

-- the footer's last byte
sum_completes : (size : ℕ) (head : Seven) (done section triplet : List ℕ) → length done + 7 + 1 ≡ size → Completes size (front_of (seven head done) section triplet)
sum_completes size head done section triplet long =
    let total = sum (seven head done) in
    let last = checksum_of (seven head done) in
    let sum_is : (total + last) % 256 ≡ 0 = omega arith in
    let reads = footer_byte size head done section triplet 1 last (One part.End) long (lit≤ tt) (lit< tt)
    (ap (λ n. let s : Step CdpPart = if n == 0 then One part.End else Refuse why.Sum in s) sum_is) tt in
    let longer = length-append done (last ∷ []) in
    Completes-with size _ _ last _ reads (one_filling part.End tt) (omega arith) (omega (arith, longer)) (record {
      more = [];
      bytes_are = All-nil IsByte;
      taken = tt;
      long = omega (arith, longer, long);
      filling = no_filling;
    })

low_completes : (size : ℕ) (head : Seven) (done section triplet : List ℕ) → length done + 7 + 2 ≡ size → head.low < 256 → Completes size (front_of (seven head done) section triplet)
low_completes size head done section triplet long small =
    let reads = footer_byte size head done section triplet 2 head.low Nothing long (lit≤ tt) (lit< tt) (fixed head.low (Refuse why.Counter)) tt in
    let longer = length-append done (head.low ∷ []) in
    Completes-with size _ _ head.low _ reads no_filling small (omega (arith, longer))
    (sum_completes size head (done ++ head.low ∷ []) [] [] (omega (arith, longer, long)))

high_completes : (size : ℕ) (head : Seven) (done section triplet : List ℕ) → length done + 7 + 3 ≡ size → head.high < 256 → head.low < 256
    → Completes size (front_of (seven head done) section triplet)
high_completes size head done section triplet long small also =
    let reads = footer_byte size head done section triplet 3 head.high Nothing long (lit≤ tt) (lit< tt) (fixed head.high (Refuse why.Counter)) tt in
    let longer = length-append done (head.high ∷ []) in
    Completes-with size _ _ head.high _ reads no_filling small (omega (arith, longer))
    (low_completes size head (done ++ head.high ∷ []) [] [] (omega (arith, longer, long)) also)

pub footer_completes : (size : ℕ) (head : Seven) (done section triplet : List ℕ) → length done + 11 ≡ size → head.high < 256 → head.low < 256
    → Completes size (front_of (seven head done) section triplet)
footer_completes size head done section triplet long small also =
    let reads = footer_byte size head done section triplet 4 0x74 Nothing (omega (arith, long)) (lit≤ tt) (lit< tt) refl tt in
    let longer = length-append done (0x74 ∷ []) in
    Completes-with size _ _ 0x74 _ reads no_filling (lit< tt) (omega (arith, longer))
    (high_completes size head (done ++ 0x74 ∷ []) [] [] (omega (arith, longer, long)) small also)

-- a byte 00 after a section's first two
abbrev zero_step : ℕ → List ℕ → Step CdpPart
zero_step id triplet = if id == 0x72 then judge_triplet triplet 0 else One (part.SectionByte 0)

zero_taken : (triplets : Bool) (triplet : List ℕ) → IsTaken (if triplets then judge_triplet triplet 0 else One (part.SectionByte 0))
zero_taken false triplet = tt
zero_taken true [] = tt
zero_taken true (first ∷ []) = tt
zero_taken true (first ∷ second ∷ more) = tt

zero_filling : (triplets : Bool) (triplet : List ℕ) → All IsFilling (step_parts (if triplets then judge_triplet triplet 0 else One (part.SectionByte 0)))
zero_filling false triplet = one_filling (part.SectionByte 0) tt
zero_filling true [] = one_filling (part.SectionByte 0) tt
zero_filling true (first ∷ []) =
    let half = part.Half (triplet_of first 0 0) in
    All-cons IsFilling (part.SectionByte 0) (half ∷ []) tt (one_filling half (refl, refl))
zero_filling true (first ∷ second ∷ more) =
    let triplet = part.Triplet (triplet_of first second 0) in
    All-cons IsFilling (part.SectionByte 0) (triplet ∷ []) tt (one_filling triplet refl)

-- what follows a section, where this many bytes are left
abbrev Follows : ℕ → Seven → ℕ → Type 0
Follows size head left = (done triplet : List ℕ) → length done + 11 + left ≡ size → Completes size (front_of (seven head done) [] triplet)

-- bytes 00 to a section's end, and what follows it
fill : (size : ℕ) (head : Seven) (count left : ℕ) (done : List ℕ) (id second : ℕ) (rest triplet : List ℕ) → section_rest id second ≡ length rest + suc count
    → length done + 11 + (suc count + left) ≡ size → Follows size head left → Completes size (front_of (seven head done) (id ∷ second ∷ rest) triplet)
fill size head zero left done id second rest triplet whole long follows =
    let ends : nat_le (section_rest id second) (length rest + 1) ≡ true = grind (arith, nat_tests) in
    let longer = length-append done (0 ∷ []) in
    let reads = section_byte size head done (id ∷ second ∷ rest) triplet (1 + left) 0 (zero_step id triplet) (omega (arith, long)) (omega arith) refl (zero_taken (id == 0x72) triplet) in
    let next = follows (done ++ 0 ∷ []) (triplet_behind (id ∷ second ∷ rest) triplet 0) (omega (arith, long, longer)) in
    Completes-with size _ _ 0 _ reads (zero_filling (id == 0x72) triplet) (lit< tt) (omega (arith, longer))
    (subst (λ s. Completes size (front_of (seven head (done ++ 0 ∷ [])) s (triplet_behind (id ∷ second ∷ rest) triplet 0)))
    (sym (ap (λ (t : Bool). if t then [] else id ∷ second ∷ (rest ++ 0 ∷ [])) ends)) next)
fill size head (suc count) left done id second rest triplet whole long follows =
    let lasts : nat_le (section_rest id second) (length rest + 1) ≡ false = grind (arith, nat_tests) in
    let longer = length-append done (0 ∷ []) in
    let reads = section_byte size head done (id ∷ second ∷ rest) triplet (suc (suc count) + left) 0 (zero_step id triplet) (omega (arith, long)) (omega arith) refl (zero_taken (id == 0x72) triplet) in
    let next = fill size head count left (done ++ 0 ∷ []) id second (rest ++ 0 ∷ []) (triplet_behind (id ∷ second ∷ rest) triplet 0)
    (omega (arith, whole, length-append rest (0 ∷ []))) (omega (arith, long, longer)) follows in
    Completes-with size _ _ 0 _ reads (zero_filling (id == 0x72) triplet) (lit< tt) (omega (arith, longer))
    (subst (λ s. Completes size (front_of (seven head (done ++ 0 ∷ [])) s (triplet_behind (id ∷ second ∷ rest) triplet 0)))
    (sym (ap (λ (t : Bool). if t then [] else id ∷ second ∷ (rest ++ 0 ∷ [])) lasts)) next)

-- a section after its first two bytes, and what follows it
body_completes : (size : ℕ) (head : Seven) (left : ℕ) (done : List ℕ) (id second : ℕ) (rest triplet : List ℕ) → length rest < section_rest id second
    → length done + 11 + (section_rest id second - length rest + left) ≡ size → Follows size head left → Completes size (front_of (seven head done) (id ∷ second ∷ rest) triplet)
body_completes size head left done id second rest triplet some long follows =
    fill size head (section_rest id second - length rest - 1) left done id second rest triplet (omega arith) (omega arith) follows

-- a section's second byte, and what follows the section
second_completes : (size : ℕ) (head : Seven) (left : ℕ) (done : List ℕ) (id second : ℕ) (triplet : List ℕ) → second < 256
    → (id == 0x71 || count_fits (1 + section_rest id second + left) id second) ≡ true → length done + 11 + (1 + section_rest id second + left) ≡ size → Follows size head left
    → Completes size (front_of (seven head done) (id ∷ []) triplet)
second_completes size head left done id second triplet small fits long follows =
    let longer = length-append done (second ∷ []) in
    let reads = section_byte size head done (id ∷ []) triplet (1 + section_rest id second + left) second (One (part.SectionByte second)) long (omega arith)
    (ap (λ (t : Bool). let s : Step CdpPart = if t then One (part.SectionByte second) else Refuse why.Count in s) fits) tt in
    let cases : (t : Bool) → (section_rest id second == 0) ≡ t → Completes size (front_of (seven head (done ++ second ∷ [])) (if t then [] else id ∷ second ∷ []) []) = elim [
      | true ↦ λ none.
          let nothing : section_rest id second ≡ 0 = grind (arith, nat_tests) in
          follows (done ++ second ∷ []) [] (omega (arith, nothing, long, longer))
      | false ↦ λ more.
          let some : 0 < section_rest id second = grind (arith, nat_tests) in
          body_completes size head left (done ++ second ∷ []) id second [] [] some (omega (arith, long, longer)) follows
    ] in
    Completes-with size _ _ second _ reads (one_filling (part.SectionByte second) tt) small (omega (arith, longer)) (cases _ refl)

-- no open section
pub sections_complete : (size : ℕ) (head : Seven) (left : ℕ) → left < 256 → left ≢ 1 → head.high < 256 → head.low < 256 → Follows size head left
sections_complete size head left small none high low done triplet long =
    let cases : (t : Bool) → (left == 0) ≡ t → Completes size (front_of (seven head done) [] triplet) = elim [
      | true ↦ λ is.
          let ended : left ≡ 0 = grind (arith, nat_tests) in
          footer_completes size head done [] triplet (omega (arith, long, ended)) high low
      | false ↦ λ more.
          let some : left ≢ 0 = grind (arith, nat_tests) in
          let two : 2 ≤ left = omega arith in
          let fits : id_fits left 0x75 ≡ true = grind (arith, nat_tests) in
          let one = length-append done (0x75 ∷ []) in
          let reads = section_byte size head done [] triplet left 0x75 (One (part.SectionByte 0x75)) long (omega arith)
          (ap (λ (t : Bool). let s : Step CdpPart = if t then One (part.SectionByte 0x75) else Refuse why.Section in s) fits) tt in
          let count = count_fits-section (1 + (left - 2) + 0) 0x75 (left - 2) 0 refl (λ e. omega (arith, e)) in
          Completes-with size _ _ 0x75 _ reads (one_filling (part.SectionByte 0x75) tt) (lit< tt) (omega (arith, one))
          (second_completes size head 0 (done ++ 0x75 ∷ []) 0x75 (left - 2) [] (omega arith) count (omega (arith, one, long))
          (λ done' triplet' long'. footer_completes size head done' [] triplet' (omega (arith, long')) high low))
    ] in cases _ refl

-- an id
id_completes : (size : ℕ) (head : Seven) (left : ℕ) (done : List ℕ) (id : ℕ) (triplet : List ℕ) → id_fits (left + 1) id ≡ true → left < 256
    → length done + 11 + left ≡ size → head.high < 256 → head.low < 256 → Completes size (front_of (seven head done) (id ∷ []) triplet)
id_completes size head left done id triplet fits small long high low =
    let chosen = id_fits-choice (left + 1) id fits (omega arith) in
    let left_is = chosen.long in
    second_completes size head chosen.more done id chosen.second triplet chosen.small
    (or-second (id == 0x71) _ (count_fits-section (1 + section_rest id chosen.second + chosen.more) id chosen.second chosen.more refl chosen.none))
    (omega arith) (sections_complete size head chosen.more (omega arith) chosen.none high low)

-- sections, or the footer
section_completes : (size : ℕ) (head : Seven) (left : ℕ) (done section triplet : List ℕ) → CanGoOn left section → left < 256 → length done + 11 + left ≡ size
    → head.high < 256 → head.low < 256 → Completes size (front_of (seven head done) section triplet)
section_completes size head left done [] triplet can small long high low = sections_complete size head left small can high low done triplet long
section_completes size head left done (id ∷ []) triplet can small long high low = id_completes size head left done id triplet can small long high low
section_completes size head left done (id ∷ second ∷ rest) triplet can small long high low =
    let some = can.some in
    let room = can.room in
    let behind = left + length rest - section_rest id second in
    body_completes size head behind done id second rest triplet some (omega (arith, some, room, long))
    (sections_complete size head behind (omega (arith, some, small)) (λ e. can.behind (omega (arith, room, e))) high low)

foot_completes : (size : ℕ) (head : Seven) (done foot section triplet : List ℕ) → IsFoot head.high head.low foot → length done + 11 ≡ size + length foot
    → head.high < 256 → head.low < 256 → Completes size (front_of (seven head done) section triplet)
foot_completes size head done [] section triplet begun long high low = absurd begun
foot_completes size head done (_ ∷ []) section triplet begun long high low = high_completes size head done section triplet (omega (arith, long)) high low
foot_completes size head done (_ ∷ _ ∷ []) section triplet begun long high low = low_completes size head done section triplet (omega (arith, long)) low
foot_completes size head done (_ ∷ _ ∷ _ ∷ []) section triplet begun long high low = sum_completes size head done section triplet (omega (arith, long))
foot_completes size head done (_ ∷ _ ∷ _ ∷ _ ∷ []) section triplet begun long high low =
    record { more = []; bytes_are = All-nil IsByte; taken = tt; long = omega (arith, long); filling = no_filling }
foot_completes size head done (_ ∷ _ ∷ _ ∷ _ ∷ _ ∷ more) section triplet begun long high low = absurd begun

seven_complete : (size : ℕ) (head : Seven) (body section triplet : List ℕ) → size < 256 → InSections size body section ⊎ InFooter size head.high head.low body
    → head.high < 256 → head.low < 256 → Completes size (front_of (seven head body) section triplet)
seven_complete size head body section triplet small begun high low =
    elim begun [
      | inl sections ↦ section_completes size head sections.left body section triplet sections.can (omega (arith, sections.long, small)) sections.long high low
      | inr footer ↦ foot_completes size head body footer.foot section triplet footer.begun
          (omega (arith, footer.long, ap length footer.spelled, length-append (concat footer.cut) footer.foot)) high low
    ]

-- one byte before the sections, and what follows it
head_completes : (size : ℕ) (bytes section triplet : List ℕ) (byte : ℕ) (step : Step CdpPart) → length bytes < size → is_in_sections size bytes ≡ false
    → judge_cdp size (front_of bytes section triplet) byte ≡ step → IsTaken step → All IsFilling (step_parts step) → byte < 256
    → Completes size (front_of (bytes ++ byte ∷ []) [] []) → Completes size (front_of bytes section triplet)
head_completes size bytes section triplet byte step below outside is taken filling small rest =
    Completes-with size _ _ byte _ (head_byte size bytes section triplet byte step below outside is taken) filling small (length-append bytes (byte ∷ [])) rest

six_complete : (size mark second long rate flags high : ℕ) (section triplet : List ℕ) → IsPacketLength size → size < 256 → high < 256
    → Completes size (front_of (mark ∷ second ∷ long ∷ rate ∷ flags ∷ high ∷ []) section triplet)
six_complete size mark second long rate flags high section triplet can small also =
    let head : Seven = record { mark = mark; second = second; long = long; rate = rate; flags = flags; high = high; low = 0 } in
    let left = size - 11 in
    head_completes size (mark ∷ second ∷ long ∷ rate ∷ flags ∷ high ∷ []) section triplet 0 (One (part.Counter (256 * high + 0))) (omega (arith, can.0)) refl refl tt
    (one_filling (part.Counter (256 * high + 0)) tt) (lit< tt)
    (sections_complete size head left (omega arith) (λ e. can.1 (omega (arith, can.0, e))) also (lit< tt) [] [] (omega (arith, can.0)))

five_complete : (size mark second long rate flags : ℕ) (section triplet : List ℕ) → IsPacketLength size → size < 256
    → Completes size (front_of (mark ∷ second ∷ long ∷ rate ∷ flags ∷ []) section triplet)
five_complete size mark second long rate flags section triplet can small =
    head_completes size (mark ∷ second ∷ long ∷ rate ∷ flags ∷ []) section triplet 0 Nothing (omega (arith, can.0)) refl refl tt no_filling (lit< tt)
    (six_complete size mark second long rate flags 0 [] [] can small (lit< tt))

four_complete : (size mark second long rate : ℕ) (section triplet : List ℕ) → IsPacketLength size → size < 256
    → Completes size (front_of (mark ∷ second ∷ long ∷ rate ∷ []) section triplet)
four_complete size mark second long rate section triplet can small =
    head_completes size (mark ∷ second ∷ long ∷ rate ∷ []) section triplet 0 (One (part.Flags 0)) (omega (arith, can.0)) refl refl tt
    (one_filling (part.Flags 0) tt) (lit< tt) (five_complete size mark second long rate 0 [] [] can small)

three_complete : (size mark second long : ℕ) (section triplet : List ℕ) → IsPacketLength size → size < 256
    → Completes size (front_of (mark ∷ second ∷ long ∷ []) section triplet)
three_complete size mark second long section triplet can small =
    head_completes size (mark ∷ second ∷ long ∷ []) section triplet 0x10 (One (part.Rate rate.F23976)) (omega (arith, can.0)) refl refl tt
    (one_filling (part.Rate rate.F23976) tt) (lit< tt) (four_complete size mark second long 0x10 [] [] can small)

two_complete : (size mark second : ℕ) (section triplet : List ℕ) → IsPacketLength size → size < 256 → Completes size (front_of (mark ∷ second ∷ []) section triplet)
two_complete size mark second section triplet can small =
    head_completes size (mark ∷ second ∷ []) section triplet size Nothing (omega (arith, can.0)) refl (fixed size (Refuse why.Length)) tt no_filling small
    (three_complete size mark second size [] [] can small)

one_complete : (size mark : ℕ) (section triplet : List ℕ) → IsPacketLength size → size < 256 → Completes size (front_of (mark ∷ []) section triplet)
one_complete size mark section triplet can small =
    head_completes size (mark ∷ []) section triplet 0x69 Nothing (omega (arith, can.0)) refl refl tt no_filling (lit< tt) (two_complete size mark 0x69 [] [] can small)

-- the counter's bytes
counter_small : (mark second long rate flags high : ℕ) (rest : List ℕ) → All IsByte (mark ∷ second ∷ long ∷ rate ∷ flags ∷ high ∷ rest) → All IsByte (high ∷ rest)
counter_small mark second long rate flags high rest are =
    let one = All-tail IsByte mark (second ∷ long ∷ rate ∷ flags ∷ high ∷ rest) are in
    let two = All-tail IsByte second (long ∷ rate ∷ flags ∷ high ∷ rest) one in
    let three = All-tail IsByte long (rate ∷ flags ∷ high ∷ rest) two in
    All-tail IsByte flags (high ∷ rest) (All-tail IsByte rate (flags ∷ high ∷ rest) three)

-- bytes that begin a packet
pub completes : (size : ℕ) (bytes section triplet : List ℕ) → IsPacketLength size → size < 256 → All IsByte bytes → IsBegun size bytes section
    → Completes size (front_of bytes section triplet)
completes size [] section triplet can small are begun =
    head_completes size [] section triplet 0x96 Nothing (omega (arith, can.0)) refl refl tt no_filling (lit< tt) (one_complete size 0x96 [] [] can small)
completes size (mark ∷ []) section triplet can small are begun = one_complete size mark section triplet can small
completes size (mark ∷ second ∷ []) section triplet can small are begun = two_complete size mark second section triplet can small
completes size (mark ∷ second ∷ long ∷ []) section triplet can small are begun = three_complete size mark second long section triplet can small
completes size (mark ∷ second ∷ long ∷ rate ∷ []) section triplet can small are begun = four_complete size mark second long rate section triplet can small
completes size (mark ∷ second ∷ long ∷ rate ∷ flags ∷ []) section triplet can small are begun =
    five_complete size mark second long rate flags section triplet can small
completes size (mark ∷ second ∷ long ∷ rate ∷ flags ∷ high ∷ []) section triplet can small are begun =
    six_complete size mark second long rate flags high section triplet can small
    (All-head IsByte high [] (counter_small mark second long rate flags high [] are))
completes size (mark ∷ second ∷ long ∷ rate ∷ flags ∷ high ∷ low ∷ body) section triplet can small are begun =
    let head : Seven = record { mark = mark; second = second; long = long; rate = rate; flags = flags; high = high; low = low } in
    let bytes_are = counter_small mark second long rate flags high (low ∷ body) are in
    seven_complete size head body section triplet small begun.1 (All-head IsByte high (low ∷ body) bytes_are)
    (All-head IsByte low body (All-tail IsByte high (low ∷ body) bytes_are))

-- bytes that are read go on to a packet
pub goes_on : (size : ℕ) (bytes : List ℕ) → IsPacketLength size → size < 256 → All IsByte bytes → length bytes ≤ size → AllRead (cdp_syntax size) bytes → GoesOnWithFilling size bytes
goes_on size bytes can small are room read =
    let behind = open_behind (cdp_syntax size) bytes in
    let is = read_open size bytes can read in
    let kept : behind.bytes ≡ bytes = bytes_behind-is size bytes nothing_open (omega (arith, room)) in
    let front : front_of bytes behind.section behind.triplet ≡ behind =
    ap (λ bs. front_of bs behind.section behind.triplet) (sym kept)
    ∙ ap (λ n. let o : Open = record { bytes = behind.bytes; total = n; section = behind.section; triplet = behind.triplet } in o) (sym is.total_is) in
    let rest = subst (Completes size) front
    (completes size bytes behind.section behind.triplet can small are (subst (λ bs. IsBegun size bs behind.section) kept is.begun)) in
    let whole : length (bytes ++ rest.more) ≡ size = omega (arith, length-append bytes rest.more, ap length kept, rest.long) in
    let (packet, packet_is) = sound size (bytes ++ rest.more) can whole (AllTaken-append (cdp_syntax size) nothing_open bytes rest.more read rest.taken) in
    record { more = rest.more; bytes_are = rest.bytes_are; long = whole; packet = packet; is = packet_is; filling = rest.filling }

-- and no packet can continue with a byte that is refused
pub refused_goes_nowhere : (size : ℕ) (bytes : List ℕ) (byte : ℕ) (reason : Why) (more : List ℕ) (packet : Frame)
    → judge_cdp size (open_behind (cdp_syntax size) bytes) byte ≡ Refuse reason → IsCdp packet (bytes ++ byte ∷ more) → length (bytes ++ byte ∷ more) ≡ size → ⊥
refused_goes_nowhere size bytes byte reason more packet refused is long =
    let read = subst (λ n. AllRead (cdp_syntax n) (bytes ++ byte ∷ more)) long (packet_read packet (bytes ++ byte ∷ more) is).taken in
    let (_, (taken, _)) = AllTaken-split (cdp_syntax size) nothing_open bytes (byte ∷ more) read in
    subst IsTaken refused taken
