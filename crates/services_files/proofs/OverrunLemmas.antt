-- The services refuse a part exactly where its triplet's last byte so far is a header that passes its packet.
use Rattle.std.proofs.Common.{◌≡◌, ℕ, zero, suc, ◌+◌, ◌-◌, ◌<◌, ◌≤◌, ◌⊎◌, inl, inr, if◌then◌else◌, Bool, true, false, List, [], ◌∷◌, ◌++◌, length, Option, Some, None, refl, ap, sym, subst, ◌∙◌, arith, append-nil, length-append}
use Rattle.cc_base.specs.declared.step.Step.{Step}
use Rattle.cc_base.specs.declared.step.Step.TheVariants.{Nothing, One, Two, Refuse}
use Rattle.cc_base.specs.declared.why.Why.{Why}
use Rattle.cc_base.specs.declared.why.Why.TheVariants as why
use Rattle.cc_base.specs.Steps.{step_parts, step_why}
use Rattle.cc_base.specs.Syntax.{open_behind}
use Rattle.cc_data.specs.declared.triplet.Triplet.{Triplet}
use Rattle.cc_data.specs.Triplets.{triplet_of}
use Rattle.channel_packets.specs.declared.parts.PacketPart.{PacketPart}
use Rattle.channel_packets.specs.declared.parts.PacketPart.TheVariants.{Header, Byte}
use Rattle.channel_packets.specs.ChannelPackets.{continues_packet, is_gap, number_of, size_of, starts}
use Rattle.channel_packets.specs.Reading.{judge_bytes, judge_triplet, packet_syntax}
use Rattle.channel_packets.specs.Reading as packets
use Rattle.channel_packets.proofs.CutLemmas.{starts-continuing}
use Rattle.service_blocks.specs.declared.parts.BlockPart.{BlockPart}
use Rattle.service_blocks.specs.declared.parts.BlockPart.TheVariants as part
use Rattle.service_blocks.specs.Reading.{IsOverrun, Open, block_syntax, judge_part, open_after}
use Rattle.service_blocks.specs.ServiceBlocks.{rest_of}
use Rattle.service_blocks.proofs.BlockLemmas.{at}
use Rattle.service_blocks.proofs.ChannelLemmas.{front_behind, overrun_refused, refused_part}
use Rattle.services_files.specs.Overruns.{Overruns, PassesLastPacket, PassesPacket}
use Rattle.services_files.specs.Services.{first_why, why_refused, why_unheard}
use Rattle.services_files.proofs.FrontLemmas.{IsBehind, LastPacket, behind_last, behind_more, last_packet, left_same, left_some, two_bytes}
use Rattle.services_files.proofs.WholeBlockLemmas.{block_from, whole_closes, wholes}

-- a part is refused where it overruns, and for this reason alone
step_refused : (step : Step BlockPart) (reason : Why) → step_why step ≡ Some reason → step ≡ Refuse reason
step_refused Nothing reason is = absurd cc
step_refused (One one) reason is = absurd cc
step_refused (Two one two) reason is = absurd cc
step_refused (Refuse why) reason is = let same : why ≡ reason = cc in ap (λ (w : Why). let s : Step BlockPart = Refuse w in s) same

refused_overruns : (front : Open) (item : PacketPart) (reason : Why) → step_why (judge_part front item) ≡ Some reason → IsOverrun front item × (reason ≡ why.Overrun)
refused_overruns front item reason is = refused_part front item reason (step_refused (judge_part front item) reason is)

overruns_refused : (front : Open) (item : PacketPart) → IsOverrun front item → step_why (judge_part front item) ≡ Some why.Overrun
overruns_refused front item is = ap step_why (overrun_refused front item is)

zero_never : (front : Open) (left : ℕ) → IsOverrun front (Byte 0 left) → ⊥
zero_never front left is =
    let same = is.is_byte in
    let zero_value : 0 ≡ is.value = cc in
    let none : 0 ≡ rest_of is.value = ap rest_of zero_value in
    let passes = is.passes in omega arith

header_why : (gap : Bool) → step_why {P = BlockPart} (if gap then One part.Reset else Nothing) ≡ None
header_why true = refl
header_why false = refl

-- a byte after a packet's bytes overruns exactly where it passes the packet
passes_of : (size : ℕ) (bytes : List ℕ) (front : Open) (byte left : ℕ) → IsBehind size bytes front → IsOverrun front (Byte byte left) → PassesPacket size bytes byte
passes_of size bytes front byte left behind is =
    let item = is.is_byte in
    let value : is.value ≡ byte = cc in
    let next : Some (size - length bytes) ≡ Some (is.left + 1) = sym behind.left ∙ is.next in
    let some : size - length bytes ≡ is.left + 1 = cc in
    let over : is.left < rest_of byte = subst (λ v. is.left < rest_of v) value is.passes in
    let whole = wholes bytes [] tt (sym behind.block ∙ is.header) in record {
      blocks = whole.blocks;
      whole = whole.whole;
      spelled = whole.spelled;
      inside = omega arith;
      passes = omega arith;
    }

overrun_of : (size : ℕ) (bytes : List ℕ) (front : Open) (byte left : ℕ) → IsBehind size bytes front → PassesPacket size bytes byte → left + 1 ≡ size - length bytes
    → IsOverrun front (Byte byte left)
overrun_of size bytes front byte left behind passes one = record {
  value = byte;
  left = left;
  is_byte = refl;
  next = behind.left ∙ ap (λ (n : ℕ). Some n) (sym one);
  header = behind.block ∙ ap (λ bs. block_from [] bs) passes.spelled ∙ whole_closes passes.blocks passes.whole;
  passes = let over = passes.passes in let fits = behind.fits in omega arith;
}

-- of two reasons the first one
first_cases : (one two : Option Why) (reason : Why) → first_why one two ≡ Some reason → (one ≡ Some reason) ⊎ ((one ≡ None) × (two ≡ Some reason))
first_cases None two reason is = inr (refl, is)
first_cases (Some why) two reason is = inl is

first_none : (one two : Option Why) → first_why one two ≡ None → one ≡ None
first_none None two is = refl
first_none (Some why) two is = absurd cc

one_why : (one : Option Why) (reason : Why) → first_why one None ≡ Some reason → one ≡ Some reason
one_why None reason is = is
one_why (Some why) reason is = is

-- why one of two bytes is refused, which continue with a packet
abbrev bytes_why : Open → ℕ → ℕ → ℕ → Option Why
bytes_why front left first second = why_refused block_syntax front (step_parts (judge_bytes left first second))

abbrev head_why : Open → ℕ → ℕ → Option Why
head_why front left first = step_why (judge_part front (Byte first (left - 1)))

abbrev next_why : Open → ℕ → ℕ → ℕ → Option Why
next_why front left first second = step_why (judge_part (open_after front (Byte first (left - 1))) (Byte second (left - 2)))

two_why : (front : Open) (left first second : ℕ) → 2 ≤ left
    → bytes_why front left first second ≡ first_why (head_why front left first) (first_why (next_why front left first second) None)
two_why front left first second some = ap (λ step. why_refused block_syntax front (step_parts step)) (two_bytes left first second some)

two_cases : (front : Open) (left first second : ℕ) (reason : Why) → 2 ≤ left → bytes_why front left first second ≡ Some reason
    → (head_why front left first ≡ Some reason) ⊎ ((head_why front left first ≡ None) × (next_why front left first second ≡ Some reason))
two_cases front left first second reason some is =
    elim (first_cases (head_why front left first) (first_why (next_why front left first second) None) reason (sym (two_why front left first second some) ∙ is)) [
      | inl one ↦ inl one
      | inr (none, two) ↦ inr (none, one_why (next_why front left first second) reason two)
    ]

two_none : (front : Open) (left first : ℕ) → 2 ≤ left → bytes_why front left first 0 ≡ None → head_why front left first ≡ None
two_none front left first some none =
    first_none (head_why front left first) (first_why (next_why front left first 0) None) (sym (two_why front left first 0 some) ∙ none)

-- the first of them with a second byte 00
half_refused : (front : Open) (left byte : ℕ) (reason : Why) → bytes_why front left byte 0 ≡ Some reason → (0 < left) × IsOverrun front (Byte byte (left - 1)) × (reason ≡ why.Overrun)
half_refused front zero byte reason is = absurd cc
half_refused front (suc zero) byte reason is =
    let (over, same) = refused_overruns front (Byte byte 0) reason (one_why (step_why (judge_part front (Byte byte 0))) reason is) in (omega arith, over, same)
half_refused front (suc (suc more)) byte reason is =
    let left = suc (suc more) in
    elim (two_cases front left byte 0 reason (omega arith) is) [
      | inl one ↦ let (over, same) = refused_overruns front (Byte byte (left - 1)) reason one in (omega arith, over, same)
      | inr (_, two) ↦
          let behind = open_after front (Byte byte (left - 1)) in
          absurd (zero_never behind (left - 2) (refused_overruns behind (Byte 0 (left - 2)) reason two).0)
    ]

first_refused : (front : Open) (left first second : ℕ) → 0 < left → IsOverrun front (Byte first (left - 1)) → bytes_why front left first second ≡ Some why.Overrun
first_refused front zero first second some over = absurd (omega arith)
first_refused front (suc zero) first second some over = ap (λ w. first_why w None) (overruns_refused front (Byte first 0) over)
first_refused front (suc (suc more)) first second some over =
    let left = suc (suc more) in
    two_why front left first second (omega arith)
    ∙ ap (λ w. first_why w (first_why (next_why front left first second) None)) (overruns_refused front (Byte first (left - 1)) over)

-- the second of them, where the first one isn't refused
whole_refused : (front : Open) (left first second : ℕ) (reason : Why) → bytes_why front left first 0 ≡ None → bytes_why front left first second ≡ Some reason
    → (2 ≤ left) × IsOverrun (open_after front (Byte first (left - 1))) (Byte second (left - 2)) × (reason ≡ why.Overrun)
whole_refused front zero first second reason none is = absurd cc
whole_refused front (suc zero) first second reason none is = let wrong : Some reason ≡ None = sym is ∙ none in absurd cc
whole_refused front (suc (suc more)) first second reason none is =
    let left = suc (suc more) in
    let taken = two_none front left first (omega arith) none in
    elim (two_cases front left first second reason (omega arith) is) [
      | inl one ↦ let wrong : Some reason ≡ None = sym one ∙ taken in absurd cc
      | inr (_, two) ↦
          let behind = open_after front (Byte first (left - 1)) in
          let (over, same) = refused_overruns behind (Byte second (left - 2)) reason two in (omega arith, over, same)
    ]

second_refused : (front : Open) (left first second : ℕ) → 2 ≤ left → bytes_why front left first 0 ≡ None
    → IsOverrun (open_after front (Byte first (left - 1))) (Byte second (left - 2)) → bytes_why front left first second ≡ Some why.Overrun
second_refused front left first second some none over =
    let behind = open_after front (Byte first (left - 1)) in
    two_why front left first second some
    ∙ ap (λ w. first_why w (first_why (next_why front left first second) None)) (two_none front left first some none)
    ∙ ap (λ w. first_why w None) (overruns_refused behind (Byte second (left - 2)) over)

-- why a triplet is refused after others
abbrev step_unheard : List Triplet → Step PacketPart → Option Why
step_unheard triplets step = why_refused block_syntax (front_behind triplets) (step_parts step)

unheard_step : (triplets : List Triplet) (triplet : Triplet)
    → why_unheard triplets (triplet ∷ []) ≡ step_unheard triplets (judge_triplet (open_behind packet_syntax triplets) triplet)
unheard_step triplets triplet =
    ap (λ parts. why_refused block_syntax (front_behind triplets) parts) (append-nil (step_parts (judge_triplet (open_behind packet_syntax triplets) triplet)))

-- what is made of a triplet, by what it does
abbrev judged : Bool → Bool → packets.Open → Triplet → Step PacketPart
judged starting going front triplet =
    if starting then Two (Header (is_gap front.last (number_of triplet.a)) (size_of triplet.a)) (Byte triplet.b (size_of triplet.a - 1))
    else if going then judge_bytes front.left triplet.a triplet.b else Nothing

judge-is : (front : packets.Open) (triplet : Triplet) (starting going : Bool) → starts triplet ≡ starting → continues_packet triplet ≡ going
    → judge_triplet front triplet ≡ judged starting going front triplet
judge-is front triplet starting going begins goes =
    ap (λ b. judged b (continues_packet triplet) front triplet) begins ∙ ap (λ b. judged starting b front triplet) goes

-- one that starts a packet
start_unheard : (triplets : List Triplet) (triplet : Triplet) → starts triplet ≡ true
    → why_unheard triplets (triplet ∷ []) ≡ first_why (step_why (judge_part (at (size_of triplet.a) []) (Byte triplet.b (size_of triplet.a - 1)))) None
start_unheard triplets triplet is =
    let next = first_why (step_why (judge_part (at (size_of triplet.a) []) (Byte triplet.b (size_of triplet.a - 1)))) None in
    unheard_step triplets triplet
    ∙ ap (λ step. step_unheard triplets step) (judge-is (open_behind packet_syntax triplets) triplet true (continues_packet triplet) is refl)
    ∙ ap (λ w. first_why w next) (header_why (is_gap (open_behind packet_syntax triplets).last (number_of triplet.a)))

-- one that continues a packet
going_unheard : (triplets : List Triplet) (triplet : Triplet) → continues_packet triplet ≡ true
    → why_unheard triplets (triplet ∷ []) ≡ bytes_why (front_behind triplets) (open_behind packet_syntax triplets).left triplet.a triplet.b
going_unheard triplets triplet is =
    unheard_step triplets triplet ∙ ap (λ step. step_unheard triplets step) (judge-is (open_behind packet_syntax triplets) triplet false true (starts-continuing triplet is) is)

-- one that does neither
other_unheard : (triplets : List Triplet) (triplet : Triplet) → starts triplet ≡ false → continues_packet triplet ≡ false → why_unheard triplets (triplet ∷ []) ≡ None
other_unheard triplets triplet begins goes =
    unheard_step triplets triplet ∙ ap (λ step. step_unheard triplets step) (judge-is (open_behind packet_syntax triplets) triplet false false begins goes)

-- the kinds of triplets
data IsKind (triplet : Triplet) : Type 0 where
  start : starts triplet ≡ true → IsKind triplet
  going : continues_packet triplet ≡ true → IsKind triplet
  other : starts triplet ≡ false → continues_packet triplet ≡ false → IsKind triplet

kind_of : (triplet : Triplet) → IsKind triplet
kind_of triplet =
    let cases : (one two : Bool) → starts triplet ≡ one → continues_packet triplet ≡ two → IsKind triplet = λ one two. elim one as (λ one. starts triplet ≡ one → continues_packet triplet ≡ two → IsKind triplet) [
      | true ↦ λ is _. start is
      | false ↦ elim two as (λ two. starts triplet ≡ false → continues_packet triplet ≡ two → IsKind triplet) [
        | true ↦ λ _ is. going is
        | false ↦ λ is none. other is none
      ]
    ] in cases _ _ refl refl

-- the last packet, with these bytes more
passes_last : (triplets : List Triplet) (last : LastPacket triplets) (more : List ℕ) (next : ℕ) → PassesPacket (size_of last.packet.header) (last.packet.bytes ++ more) next
    → PassesLastPacket triplets more next
passes_last triplets last more next passes = record { before = last.before; packet = last.packet; packets_are = last.are; passes = passes }

-- at the second byte
pub refused-second : (triplets : List Triplet) (first next : ℕ) (reason : Why) → why_unheard triplets (triplet_of first next 0 ∷ []) ≡ Some reason
    → (reason ≡ why.Overrun) × Overruns triplets (first ∷ []) next
refused-second triplets first next reason is =
    let triplet = triplet_of first next 0 in
    let left = (open_behind packet_syntax triplets).left in
    elim (kind_of triplet) [
      | start begins ↦
          let one = one_why (step_why (judge_part (at (size_of next) []) (Byte 0 (size_of next - 1)))) reason (sym (start_unheard triplets triplet begins) ∙ is) in
          absurd (zero_never (at (size_of next) []) (size_of next - 1) (refused_overruns (at (size_of next) []) (Byte 0 (size_of next - 1)) reason one).0)
      | going goes ↦
          let (some, over, same) = half_refused (front_behind triplets) left next reason (sym (going_unheard triplets triplet goes) ∙ is) in
          let last = last_packet triplets left (left_some triplets some) in
          let behind = behind_last triplets last.before last.packet last.are in
          let passes = passes_of (size_of last.packet.header) last.packet.bytes (front_behind triplets) next (left - 1) behind over in (
            same,
            (
              goes,
              passes_last triplets last [] next
                  (subst (λ bs. PassesPacket (size_of last.packet.header) bs next) (sym (append-nil last.packet.bytes)) passes),
            ),
          )
      | other begins goes ↦ let wrong : Some reason ≡ None = sym is ∙ other_unheard triplets triplet begins goes in absurd cc
    ]

pub second-refused : (triplets : List Triplet) (first next : ℕ) → Overruns triplets (first ∷ []) next → why_unheard triplets (triplet_of first next 0 ∷ []) ≡ Some why.Overrun
second-refused triplets first next (goes, past) =
    let size = size_of past.packet.header in
    let bytes = past.packet.bytes in
    let behind = behind_last triplets past.before past.packet past.packets_are in
    let passes = subst (λ bs. PassesPacket size bs next) (append-nil bytes) past.passes in
    let inside = passes.inside in
    let left_is = left_same triplets (size - length bytes) behind.left in
    let left = (open_behind packet_syntax triplets).left in
    let over = overrun_of size bytes (front_behind triplets) next (left - 1) behind passes (omega arith) in
    going_unheard triplets (triplet_of first next 0) goes ∙ first_refused (front_behind triplets) left next 0 (omega arith) over

-- the front of a packet's header
begun : (header : ℕ) → IsBehind (size_of header) [] (at (size_of header) [])
begun header = let same : size_of header ≡ size_of header - 0 = omega arith in record { fits = omega arith; left = ap (λ (n : ℕ). Some n) same; block = refl }

-- at the third byte
pub refused-third : (triplets : List Triplet) (first second next : ℕ) (reason : Why) → why_unheard triplets (triplet_of first second 0 ∷ []) ≡ None
    → why_unheard triplets (triplet_of first second next ∷ []) ≡ Some reason → (reason ≡ why.Overrun) × Overruns triplets (first ∷ second ∷ []) next
refused-third triplets first second next reason none is =
    let triplet = triplet_of first second next in
    let left = (open_behind packet_syntax triplets).left in
    elim (kind_of triplet) [
      | start begins ↦
          let front = at (size_of second) [] in
          let one = one_why (step_why (judge_part front (Byte next (size_of second - 1)))) reason (sym (start_unheard triplets triplet begins) ∙ is) in
          let (over, same) = refused_overruns front (Byte next (size_of second - 1)) reason one in
          (same, inl (begins, passes_of (size_of second) [] front next (size_of second - 1) (begun second) over))
      | going goes ↦
          let front = front_behind triplets in
          let (some, over, same) = whole_refused front left second next reason
          (sym (going_unheard triplets (triplet_of first second 0) goes) ∙ none) (sym (going_unheard triplets triplet goes) ∙ is) in
          let left_is = left_some triplets (omega arith) in
          let last = last_packet triplets left left_is in
          let size = size_of last.packet.header in
          let bytes = last.packet.bytes in
          let behind = behind_last triplets last.before last.packet last.are in
          let same_left = left_same triplets (size - length bytes) behind.left in
          let more = behind_more size bytes front second (left - 1) behind (omega arith) in (
            same,
            inr (
              goes,
              passes_last triplets last (second ∷ []) next
                  (passes_of size (bytes ++ second ∷ []) (open_after front (Byte second (left - 1))) next (left - 2) more over),
            ),
          )
      | other begins goes ↦ let wrong : Some reason ≡ None = sym is ∙ other_unheard triplets triplet begins goes in absurd cc
    ]

pub third-refused : (triplets : List Triplet) (first second next : ℕ) → why_unheard triplets (triplet_of first second 0 ∷ []) ≡ None
    → Overruns triplets (first ∷ second ∷ []) next → why_unheard triplets (triplet_of first second next ∷ []) ≡ Some why.Overrun
third-refused triplets first second next none (inl (begins, passes)) =
    let inside = passes.inside in
    let front = at (size_of second) [] in
    let over = overrun_of (size_of second) [] front next (size_of second - 1) (begun second) passes (omega arith) in
    start_unheard triplets (triplet_of first second next) begins
    ∙ ap (λ w. first_why w None) (overruns_refused front (Byte next (size_of second - 1)) over)
third-refused triplets first second next none (inr (goes, past)) =
    let front = front_behind triplets in
    let size = size_of past.packet.header in
    let bytes = past.packet.bytes in
    let behind = behind_last triplets past.before past.packet past.packets_are in
    let passes = past.passes in
    let inside = passes.inside in
    let many = length-append bytes (second ∷ []) in
    let left_is = left_same triplets (size - length bytes) behind.left in
    let left = (open_behind packet_syntax triplets).left in
    let more = behind_more size bytes front second (left - 1) behind (omega arith) in
    let over = overrun_of size (bytes ++ second ∷ []) (open_after front (Byte second (left - 1))) next (left - 2) more passes (omega arith) in
    going_unheard triplets (triplet_of first second next) goes
    ∙ second_refused front left second next (omega arith) (sym (going_unheard triplets (triplet_of first second 0) goes) ∙ none) over
