-- The caption channel of triplets: what is read of them, under both readers, is what their packets' blocks say.
use Rattle.std.proofs.Common.{◌≡◌, ℕ, ◌+◌, ◌-◌, ◌<◌, ◌≤◌, ◌==◌, nat_le, if◌then◌else◌, Bool, true, false, List, [], ◌∷◌, ◌++◌, length, Option, Some, None, refl, ap, sym, subst, ◌∙◌, arith, append_assoc, append-nil}
use Rattle.std.proofs.lemmas.Bool.Decides.{nat_tests}
use Rattle.std.proofs.lemmas.List.Elements.{recursion_from_All}
use Rattle.std.specs.List.{AllByRecursion, flat_map}
use Rattle.cc_base.specs.declared.step.Step.{Step}
use Rattle.cc_base.specs.declared.step.Step.TheVariants.{Nothing, One, Two, Refuse}
use Rattle.cc_base.specs.declared.why.Why.{Why}
use Rattle.cc_base.specs.declared.why.Why.TheVariants as why
use Rattle.cc_base.specs.Steps.{IsTaken, front_from, step_parts}
use Rattle.cc_base.specs.Syntax.{AllRead, AllTaken, Reads, open_behind, parts_from, parts_of}
use Rattle.cc_base.proofs.SyntaxLemmas.{AllTaken-append, AllTaken-split, Reads-append, Reads-item, Reads-nothing, parts_from-append}
use Rattle.channel_packets.specs.Triplet.{Triplet}
use Rattle.channel_packets.specs.declared.parts.PacketPart.{PacketPart}
use Rattle.channel_packets.specs.declared.parts.PacketPart.TheVariants.{Header, Byte}
use Rattle.channel_packets.specs.ChannelPackets.{ChannelPacket, continues_packet, is_gap, number_of, size_of, starts}
use Rattle.channel_packets.specs.PacketParts.{byte_parts, packet_parts}
use Rattle.channel_packets.specs.Reading.{judge_bytes, judge_triplet, packet_syntax}
use Rattle.channel_packets.specs.Reading as packets
use Rattle.channel_packets.proofs.CutLemmas.{packets-unique, packets_of, packets_of-are}
use Rattle.channel_packets.proofs.ReadLemmas.{packets_fit, parts_of-packets}
use Rattle.service_blocks.specs.declared.parts.BlockPart.{BlockPart}
use Rattle.service_blocks.specs.declared.parts.BlockPart.TheVariants as part
use Rattle.service_blocks.specs.ServiceBlocks.{Block, rest_of}
use Rattle.service_blocks.specs.BlockParts.{block_parts}
use Rattle.service_blocks.specs.Channels.{AreChannel, HaveBlocks, IsHeard, IsHeardBehind, heard_behind, heard_parts, said}
use Rattle.service_blocks.specs.Reading.{IsOverrun, Open, block_after, block_syntax, is_next, judge_byte, judge_part, nothing_open, open_after}
use Rattle.service_blocks.proofs.BlockLemmas.{IsTaken-if, at, blocks_are, blocks_read, rest_taken}
use Rattle.service_blocks.proofs.WrittenLemmas.{blocks_unique}

-- a packet has no more bytes than its size
abbrev pub Fits : ChannelPacket → Type 0
Fits packet = length packet.bytes ≤ size_of packet.header

-- the step of a packet's header
header_taken : (gap : Bool) → IsTaken {P = BlockPart} (if gap then One part.Reset else Nothing)
header_taken true = tt
header_taken false = tt

header_parts : (gap : Bool) → step_parts {P = BlockPart} (if gap then One part.Reset else Nothing) ≡ (if gap then part.Reset ∷ [] else [])
header_parts true = refl
header_parts false = refl

-- packets of blocks are read, and say what these say
pub record AreSaid (front : Open) (items : List PacketPart) (says : List BlockPart) : Type 0 where
  pub behind : Open
  pub reads : Reads block_syntax front items says behind

packets_said : (front : Open) (last : Option ℕ) (packets : List ChannelPacket) (blocks : List (List Block)) → HaveBlocks packets blocks
    → AllByRecursion Fits packets → AreSaid front (packet_parts last packets) (said last packets blocks)
packets_said front last [] [] have fit = record { behind = front; reads = Reads-nothing block_syntax front }
packets_said front last [] (blocks ∷ others) have fit = elim have [ ]
packets_said front last (packet ∷ packets) [] have fit = elim have [ ]
packets_said front last (packet ∷ packets) (blocks ∷ others) (are, have) (fits, fit) =
    let gap = is_gap last (number_of packet.header) in
    let size = size_of packet.header in
    let reset : List BlockPart = if gap then part.Reset ∷ [] else [] in
    let bytes = blocks_read size blocks packet.bytes are fits in
    let next = Some (number_of packet.header) in
    let rest = packets_said bytes.behind next packets others have fit in
    let both = Reads-append block_syntax (at size []) (byte_parts size packet.bytes) (flat_map block_parts blocks) bytes.behind
    (packet_parts next packets) (said next packets others) rest.behind bytes.reads rest.reads in record {
      behind = rest.behind;
      reads = subst (λ says. Reads block_syntax front (packet_parts last (packet ∷ packets)) (says ++ (flat_map block_parts blocks ++ said next packets others)) rest.behind)
          (header_parts gap)
          (Reads-item block_syntax front (Header gap size) (byte_parts size packet.bytes ++ packet_parts next packets) (if gap then One part.Reset else Nothing)
          (at size []) (flat_map block_parts blocks ++ said next packets others) rest.behind refl (header_taken gap) refl both);
    }

-- what is a channel is heard
pub record IsSaid (packets : List ChannelPacket) (blocks : List (List Block)) (triplets : List Triplet) : Type 0 where
  pub is : IsHeard triplets
  pub says : heard_parts triplets ≡ said None packets blocks

pub channel_said : (packets : List ChannelPacket) (blocks : List (List Block)) (triplets : List Triplet) → AreChannel packets blocks triplets
    → AreSaid nothing_open (packet_parts None packets) (said None packets blocks)
channel_said packets blocks triplets channel =
    packets_said nothing_open None packets blocks channel.blocks_are (recursion_from_All Fits packets (packets_fit packets triplets channel.packets_are))

pub channel_heard : (packets : List ChannelPacket) (blocks : List (List Block)) (triplets : List Triplet) → AreChannel packets blocks triplets
    → IsSaid packets blocks triplets
channel_heard packets blocks triplets channel =
    let whole = channel_said packets blocks triplets channel in
    let parts = parts_of-packets packets triplets channel.packets_are in record {
      is = subst (AllRead block_syntax) (sym parts) whole.reads.taken;
      says = ap (λ items. parts_of block_syntax items) parts ∙ whole.reads.made;
    }

-- what is heard is a channel
blocks_of_packets : (front : Open) (last : Option ℕ) (packets : List ChannelPacket) → AllByRecursion Fits packets
    → AllTaken block_syntax front (packet_parts last packets) → (blocks : List (List Block)) × HaveBlocks packets blocks
blocks_of_packets front last [] fit taken = ([], tt)
blocks_of_packets front last (packet ∷ packets) (fits, fit) (header, taken) =
    let size = size_of packet.header in
    let next = Some (number_of packet.header) in
    let split = AllTaken-split block_syntax (at size []) (byte_parts size packet.bytes) (packet_parts next packets) taken in
    let (blocks, are) = blocks_are (length packet.bytes) size packet.bytes (omega arith) fits split.0 in
    let (others, have) = blocks_of_packets (front_from open_after (at size []) (byte_parts size packet.bytes)) next packets fit split.1 in
    (blocks ∷ others, (are, have))

pub heard_channel : (triplets : List Triplet) → IsHeard triplets
    → (packets : List ChannelPacket) × ((blocks : List (List Block)) × AreChannel packets blocks triplets)
heard_channel triplets is =
    let packets = packets_of triplets in
    let are = packets_of-are triplets in
    let fit = recursion_from_All Fits packets (packets_fit packets triplets are) in
    let (blocks, have) = blocks_of_packets nothing_open None packets fit (subst (AllRead block_syntax) (parts_of-packets packets triplets are) is) in
    (packets, (blocks, record { packets_are = are; blocks_are = have }))

-- triplets are at most one channel
have_same : (packets : List ChannelPacket) (blocks others : List (List Block)) → HaveBlocks packets blocks → HaveBlocks packets others → blocks ≡ others
have_same [] [] [] have other = refl
have_same [] [] (others ∷ rest) have other = elim other [ ]
have_same [] (blocks ∷ more) others have other = elim have [ ]
have_same (packet ∷ packets) [] others have other = elim have [ ]
have_same (packet ∷ packets) (blocks ∷ more) [] have other = elim other [ ]
have_same (packet ∷ packets) (blocks ∷ more) (others ∷ rest) (are, have) (other_are, other) =
    ap (λ bs. bs ∷ more) (blocks_unique (size_of packet.header) blocks packet.bytes are others other_are)
    ∙ ap (λ bss. others ∷ bss) (have_same packets more rest have other)

pub channel_unique : (packets others : List ChannelPacket) (blocks more : List (List Block)) (triplets : List Triplet)
    → AreChannel packets blocks triplets → AreChannel others more triplets → (packets ≡ others) × (blocks ≡ more)
channel_unique packets others blocks more triplets channel other =
    let same = packets-unique packets others triplets channel.packets_are other.packets_are in
    (same, have_same others blocks more (subst (λ ps. HaveBlocks ps blocks) same channel.blocks_are) other.blocks_are)

-- the parts of triplets and more
parts_of-append : (triplets more : List Triplet)
    → parts_of packet_syntax (triplets ++ more) ≡ parts_of packet_syntax triplets ++ parts_from packet_syntax (open_behind packet_syntax triplets) more
parts_of-append triplets more = parts_from-append packet_syntax packets.nothing_open triplets more

-- what is heard of triplets is heard of the first of them
pub heard_first : (triplets more : List Triplet) → IsHeard (triplets ++ more) → IsHeard triplets
heard_first triplets more is =
    (AllTaken-split block_syntax nothing_open (parts_of packet_syntax triplets) (parts_from packet_syntax (open_behind packet_syntax triplets) more)
    (subst (AllRead block_syntax) (parts_of-append triplets more) is)).0

-- and then of the others, after them
pub heard_pieces : (before triplets : List Triplet) → IsHeard (before ++ triplets) → IsHeard before × IsHeardBehind before triplets
heard_pieces before triplets is =
    AllTaken-split block_syntax nothing_open (parts_of packet_syntax before) (parts_from packet_syntax (open_behind packet_syntax before) triplets)
    (subst (AllRead block_syntax) (parts_of-append before triplets) is)

pub heard_joined : (before triplets : List Triplet) → IsHeard before × IsHeardBehind before triplets → IsHeard (before ++ triplets)
heard_joined before triplets (is, more) =
    subst (AllRead block_syntax) (sym (parts_of-append before triplets))
    (AllTaken-append block_syntax nothing_open (parts_of packet_syntax before) (parts_from packet_syntax (open_behind packet_syntax before) triplets) is more)

pub heard-append : (before triplets : List Triplet) → heard_parts (before ++ triplets) ≡ heard_parts before ++ heard_behind before triplets
heard-append before triplets =
    ap (λ parts. parts_of block_syntax parts) (parts_of-append before triplets)
    ∙ parts_from-append block_syntax nothing_open (parts_of packet_syntax before) (parts_from packet_syntax (open_behind packet_syntax before) triplets)

-- the parts of one more triplet
abbrev pub more_parts : List Triplet → Triplet → List PacketPart
more_parts triplets triplet = step_parts (judge_triplet (open_behind packet_syntax triplets) triplet)

abbrev pub front_behind : List Triplet → Open
front_behind triplets = open_behind block_syntax (parts_of packet_syntax triplets)

one_more : (triplets : List Triplet) (triplet : Triplet)
    → parts_of packet_syntax (triplets ++ triplet ∷ []) ≡ parts_of packet_syntax triplets ++ more_parts triplets triplet
one_more triplets triplet = parts_of-append triplets (triplet ∷ []) ∙ ap (λ parts. parts_of packet_syntax triplets ++ parts) (append-nil (more_parts triplets triplet))

heard_more : (triplets : List Triplet) (triplet : Triplet) → IsHeard triplets → AllTaken block_syntax (front_behind triplets) (more_parts triplets triplet)
    → IsHeard (triplets ++ triplet ∷ [])
heard_more triplets triplet is more =
    subst (AllRead block_syntax) (sym (one_more triplets triplet))
    (AllTaken-append block_syntax nothing_open (parts_of packet_syntax triplets) (more_parts triplets triplet) is more)

heard_last : (triplets : List Triplet) (triplet : Triplet) → IsHeard (triplets ++ triplet ∷ [])
    → IsHeard triplets × AllTaken block_syntax (front_behind triplets) (more_parts triplets triplet)
heard_last triplets triplet is =
    AllTaken-split block_syntax nothing_open (parts_of packet_syntax triplets) (more_parts triplets triplet)
    (subst (AllRead block_syntax) (one_more triplets triplet) is)

-- a byte 00 is never refused
zero_byte : (block : List ℕ) (left : ℕ) → IsTaken (judge_byte block left 0)
zero_byte [] left =
    let fits : nat_le 0 left ≡ true = grind (arith, nat_tests) in
    subst (λ (b : Bool). IsTaken {P = BlockPart} (if b then Nothing else Refuse why.Overrun)) (sym fits) tt
zero_byte (header ∷ rest) left = rest_taken header rest left 0

zero_part : (front : Open) (left : ℕ) → IsTaken (judge_part front (Byte 0 left))
zero_part front left = IsTaken-if (is_next front.left left) _ _ (zero_byte front.block left) tt

zero_value : (front : Open) (value left : ℕ) → value ≡ 0 → IsTaken (judge_part front (Byte value left))
zero_value front value left none = subst (λ v. IsTaken (judge_part front (Byte v left))) (sym none) (zero_part front left)

-- the parts of one of two steps
taken_if : (front : Open) (test : Bool) (one two : Step PacketPart) → AllTaken block_syntax front (step_parts one)
    → AllTaken block_syntax front (step_parts two) → AllTaken block_syntax front (step_parts (if test then one else two))
taken_if front true one two first second = first
taken_if front false one two first second = second

zero_bytes : (front : Open) (left first second : ℕ) → first ≡ 0 → second ≡ 0 → AllTaken block_syntax front (step_parts (judge_bytes left first second))
zero_bytes front left first second one two =
    taken_if front (left == 0) _ _ tt
    (taken_if front (left == 1) _ _ (zero_value front first 0 one, tt)
    (zero_value front first (left - 1) one, (zero_value (open_after front (Byte first (left - 1))) second (left - 2) two, tt)))

zero_triplet : (front : Open) (packet : packets.Open) (triplet : Triplet) → triplet.a ≡ 0 → triplet.b ≡ 0
    → AllTaken block_syntax front (step_parts (judge_triplet packet triplet))
zero_triplet front packet triplet first second =
    let gap = is_gap packet.last (number_of triplet.a) in
    let size = size_of triplet.a in
    taken_if front (starts triplet) _ _ (header_taken gap, (zero_value (open_after front (Header gap size)) triplet.b (size - 1) second, tt))
    (taken_if front (continues_packet triplet) _ _ (zero_bytes front packet.left triplet.a triplet.b first second) tt)

pub zero_heard : (triplets : List Triplet) (triplet : Triplet) → IsHeard triplets → triplet.a ≡ 0 → triplet.b ≡ 0 → IsHeard (triplets ++ triplet ∷ [])
zero_heard triplets triplet is first second =
    heard_more triplets triplet is (zero_triplet (front_behind triplets) (open_behind packet_syntax triplets) triplet first second)

-- a second byte 00 is never refused where another one isn't
abbrev pub half : Triplet → Triplet
half triplet = record triplet { b = 0 }

halved_if : (front : Open) (test : Bool) (one two first second : Step PacketPart)
    → (AllTaken block_syntax front (step_parts one) → AllTaken block_syntax front (step_parts first))
    → (AllTaken block_syntax front (step_parts two) → AllTaken block_syntax front (step_parts second))
    → AllTaken block_syntax front (step_parts (if test then one else two)) → AllTaken block_syntax front (step_parts (if test then first else second))
halved_if front true one two first second one_is two_is taken = one_is taken
halved_if front false one two first second one_is two_is taken = two_is taken

halved_bytes : (front : Open) (left first second : ℕ) → AllTaken block_syntax front (step_parts (judge_bytes left first second))
    → AllTaken block_syntax front (step_parts (judge_bytes left first 0))
halved_bytes front left first second =
    halved_if front (left == 0) Nothing _ Nothing _ (λ taken. taken)
    (halved_if front (left == 1) (One (Byte first 0)) _ (One (Byte first 0)) _ (λ taken. taken)
    (λ (one, _). (one, (zero_part (open_after front (Byte first (left - 1))) (left - 2), tt))))

halved : (front : Open) (packet : packets.Open) (triplet : Triplet) → AllTaken block_syntax front (step_parts (judge_triplet packet triplet))
    → AllTaken block_syntax front (step_parts (judge_triplet packet (half triplet)))
halved front packet triplet =
    let gap = is_gap packet.last (number_of triplet.a) in
    let size = size_of triplet.a in
    halved_if front (starts triplet) (Two (Header gap size) (Byte triplet.b (size - 1))) _ (Two (Header gap size) (Byte 0 (size - 1))) _
    (λ (one, _). (one, (zero_part (open_after front (Header gap size)) (size - 1), tt)))
    (halved_if front (continues_packet triplet) (judge_bytes packet.left triplet.a triplet.b) Nothing (judge_bytes packet.left triplet.a 0) Nothing
    (halved_bytes front packet.left triplet.a triplet.b) (λ taken. taken))

pub half_heard : (triplets : List Triplet) (triplet : Triplet) → IsHeard (triplets ++ triplet ∷ []) → IsHeard (triplets ++ half triplet ∷ [])
half_heard triplets triplet is =
    let (before, last) = heard_last triplets triplet is in
    heard_more triplets (half triplet) before (halved (front_behind triplets) (open_behind packet_syntax triplets) triplet last)

-- no channel begins with triplets of which one is refused
pub unheard : (triplets : List Triplet) (triplet : Triplet) (more : List Triplet) (packets : List ChannelPacket) (blocks : List (List Block))
    → (IsHeard (triplets ++ triplet ∷ []) → ⊥) → AreChannel packets blocks (triplets ++ triplet ∷ more) → ⊥
unheard triplets triplet more packets blocks refused channel =
    let is = (channel_heard packets blocks (triplets ++ triplet ∷ more) channel).is in
    refused (heard_first (triplets ++ triplet ∷ []) more (subst IsHeard (sym (append_assoc triplets (triplet ∷ []) more)) is))

-- a part is refused exactly where it is a header that passes its packet
next_is : (before : Option ℕ) (left : ℕ) → is_next before left ≡ true → before ≡ Some (left + 1)
next_is None left is = absurd cc
next_is (Some before) left is = let same : before ≡ left + 1 = grind (arith, nat_tests) in ap (λ (n : ℕ). Some n) same

is_next-some : (left : ℕ) → is_next (Some (left + 1)) left ≡ true
is_next-some left = grind (arith, nat_tests)

refused_byte : (front : Open) (block : List ℕ) (value left : ℕ) (reason : Why) → front.block ≡ block → judge_byte block left value ≡ Refuse reason
    → front.left ≡ Some (left + 1) → IsOverrun front (Byte value left) × (reason ≡ why.Overrun)
refused_byte front [] value left reason header refused next =
    let cases : (b : Bool) → nat_le (rest_of value) left ≡ b → ◌≡◌ {A = Step BlockPart} (if b then Nothing else Refuse why.Overrun) (Refuse reason)
    → (left < rest_of value) × (reason ≡ why.Overrun) = elim [
      | true ↦ λ is same. absurd cc
      | false ↦ λ is same. let passes : left < rest_of value = grind (arith, nat_tests) in let overrun : reason ≡ why.Overrun = cc in (passes, overrun)
    ] in
    let (passes, overrun) = cases _ refl refused in
    (record { value = value; left = left; is_byte = refl; next = next; header = header; passes = passes }, overrun)
refused_byte front (first ∷ rest) value left reason header refused next =
    absurd (subst IsTaken refused (rest_taken first rest left value))

pub refused_part : (front : Open) (item : PacketPart) (reason : Why) → judge_part front item ≡ Refuse reason → IsOverrun front item × (reason ≡ why.Overrun)
refused_part front (Header gap size) reason refused = absurd (subst IsTaken refused (header_taken gap))
refused_part front (Byte value left) reason refused =
    let cases : (b : Bool) → is_next front.left left ≡ b → ◌≡◌ {A = Step BlockPart} (if b then judge_byte front.block left value else Nothing) (Refuse reason)
    → IsOverrun front (Byte value left) × (reason ≡ why.Overrun) = elim [
      | true ↦ λ is same. refused_byte front front.block value left reason refl same (next_is front.left left is)
      | false ↦ λ is same. absurd cc
    ] in cases _ refl refused

pub overrun_refused : (front : Open) (item : PacketPart) → IsOverrun front item → judge_part front item ≡ Refuse why.Overrun
overrun_refused front item is =
    let next : is_next front.left is.left ≡ true = ap (λ before. is_next before is.left) is.next ∙ is_next-some is.left in
    let passes = is.passes in
    let over : nat_le (rest_of is.value) is.left ≡ false = grind (arith, nat_tests) in
    ap (λ i. judge_part front i) is.is_byte
    ∙ ap (λ (b : Bool). let s : Step BlockPart = if b then judge_byte front.block is.left is.value else Nothing in s) next
    ∙ ap (λ block. judge_byte block is.left is.value) is.header
    ∙ ap (λ (b : Bool). let s : Step BlockPart = if b then Nothing else Refuse why.Overrun in s) over

-- a byte that isn't the packet's next one is passed over
pub stray_byte : (front : Open) (value left : ℕ) → (front.left ≡ Some (left + 1) → ⊥)
    → (judge_part front (Byte value left) ≡ Nothing) × (open_after front (Byte value left) ≡ front)
stray_byte front value left other =
    let cases : (b : Bool) → is_next front.left left ≡ b → is_next front.left left ≡ false = elim [
      | true ↦ λ is. absurd (other (next_is front.left left is))
      | false ↦ λ is. is
    ] in
    let not_next = cases _ refl in (
      ap (λ (b : Bool). let s : Step BlockPart = if b then judge_byte front.block left value else Nothing in s) not_next,
      ap (λ (b : Bool). if b then at left (block_after front.block value) else front) not_next,
    )
