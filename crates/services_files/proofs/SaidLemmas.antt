-- What triplets say is what both readers make of them, whether one is refused or not.
use Rattle.std.proofs.Common.{◌≡◌, ◌≢◌, ◌↔◌, ℕ, zero, suc, ◌+◌, ◌-◌, ◌%◌, ◌<◌, ◌≤◌, ◌==◌, nat_le, if◌then◌else◌, cond, Bool, true, false, List, [], ◌∷◌, ◌++◌, length, map, take, drop, Option, Some, None, refl, ap, sym, subst, ◌∙◌, arith, length-drop}
use Rattle.std.proofs.Math.Seq.{drop-append_seam, take-append_seam}
use Rattle.std.proofs.lemmas.Bool.Decides.{nat_tests}
use Rattle.std.proofs.lemmas.List.{drop_all, length-take-le, take-append-drop, take_all}
use Rattle.std.proofs.lemmas.List.Elements.{recursion_from_All}
use Rattle.std.specs.List.{AllByRecursion, flat_map, list_all, prefix_len, take_while}
use Rattle.cc_base.specs.declared.step.Step.TheVariants.{Nothing, One, Refuse}
use Rattle.cc_base.specs.declared.why.Why.TheVariants as why
use Rattle.cc_base.specs.Steps.{front_from, step_parts}
use Rattle.cc_base.specs.Syntax.{parts_from, parts_of}
use Rattle.cc_base.proofs.SyntaxLemmas.{parts_from-append}
use Rattle.cc_data.specs.declared.triplet.Triplet.{Triplet}
use Rattle.channel_packets.specs.ChannelPackets.{AreChannelPackets, ChannelPacket, TripletStretch, continues_packet, is_gap, is_stretch, number_of, size_of, starts, stretch_packet, stretch_triplets}
use Rattle.channel_packets.specs.PacketParts.{byte_parts, packet_parts}
use Rattle.channel_packets.proofs.CutLemmas.{packets_of, packets_of-are, starts-continuing, true_and}
use Rattle.channel_packets.proofs.ReadLemmas.{packets_fit, parts_of-packets}
use Rattle.service_blocks.specs.declared.parts.BlockPart.{BlockPart}
use Rattle.service_blocks.specs.declared.parts.BlockPart.TheVariants as part
use Rattle.service_blocks.specs.BlockParts.{block_parts}
use Rattle.service_blocks.specs.Channels.{AreChannel, heard_behind, heard_parts, said}
use Rattle.service_blocks.specs.Reading.{Open, block_after, block_syntax, judge_byte, nothing_open, open_after}
use Rattle.service_blocks.specs.ServiceBlocks.{AreBlocks, Block, IsHeader, cut, end, ended, is_extended, rest_of, whole}
use Rattle.service_blocks.proofs.BlockLemmas.{at, blocks_read}
use Rattle.service_blocks.proofs.ChannelLemmas.{Fits, channel_heard, heard-append}
use Rattle.service_blocks.proofs.WrittenLemmas.{blocks_unique}
use Rattle.services_files.specs.Said.{blocks_in, channel_packets_in, first_blocks, packets_started, said_behind, said_in}

-- a triplet that starts a packet continues with none
starting-continues : (triplet : Triplet) → starts triplet ≡ true → continues_packet triplet ≡ false
starting-continues triplet is =
    let cases : (b : Bool) → continues_packet triplet ≡ b → b ≡ false = elim [
      | true ↦ λ goes. absurd (let wrong : true ≡ false = sym is ∙ starts-continuing triplet goes in cc)
      | false ↦ λ goes. refl
    ] in cases (continues_packet triplet) refl

-- triplets that continues a packet, up to the next that starts one
none_goes_on : (stretches : List TripletStretch) → list_all is_stretch stretches ≡ true
    → prefix_len continues_packet (flat_map stretch_triplets stretches) ≡ 0
none_goes_on [] all = refl
none_goes_on (stretch ∷ stretches) all =
    let (one, others) = true_and (is_stretch stretch) (list_all is_stretch stretches) all in
    let (is, goes) = true_and (starts stretch.first) (list_all continues_packet stretch.more) one in
    ap (λ b. cond b (1 + prefix_len continues_packet (stretch.more ++ flat_map stretch_triplets stretches)) 0) (starting-continues stretch.first is)

all_go_on : (more rest : List Triplet) → list_all continues_packet more ≡ true → prefix_len continues_packet rest ≡ 0
    → prefix_len continues_packet (more ++ rest) ≡ length more
all_go_on [] rest all none = none
all_go_on (triplet ∷ more) rest all none =
    let (one, others) = true_and (continues_packet triplet) (list_all continues_packet more) all in
    let behind = all_go_on more rest others none in
    ap (λ b. cond b (1 + prefix_len continues_packet (more ++ rest)) 0) one ∙ omega (arith, behind)

stretch_taken : (more rest : List Triplet) → list_all continues_packet more ≡ true → prefix_len continues_packet rest ≡ 0
    → take_while continues_packet (more ++ rest) ≡ more
stretch_taken more rest all none = ap (λ n. take n (more ++ rest)) (all_go_on more rest all none) ∙ take-append_seam more rest

-- triplets that continues a packet start none
strays_start_none : (strays rest : List Triplet) → list_all continues_packet strays ≡ true → packets_started (strays ++ rest) ≡ packets_started rest
strays_start_none [] rest all = refl
strays_start_none (stray ∷ strays) rest all =
    let (one, others) = true_and (continues_packet stray) (list_all continues_packet strays) all in
    let started : List ChannelPacket = stretch_packet (record { first = stray; more = take_while continues_packet (strays ++ rest) }) ∷ packets_started (strays ++ rest) in
    ap (λ (b : Bool). if b then started else packets_started (strays ++ rest)) (starts-continuing stray one) ∙ strays_start_none strays rest others

stretches_start : (stretches : List TripletStretch) → list_all is_stretch stretches ≡ true
    → packets_started (flat_map stretch_triplets stretches) ≡ map stretch_packet stretches
stretches_start [] all = refl
stretches_start (stretch ∷ stretches) all =
    let (one, others) = true_and (is_stretch stretch) (list_all is_stretch stretches) all in
    let (is, goes) = true_and (starts stretch.first) (list_all continues_packet stretch.more) one in
    let rest = flat_map stretch_triplets stretches in
    let started : List Triplet → List ChannelPacket → List ChannelPacket = λ more packets. stretch_packet (record { first = stretch.first; more = more }) ∷ packets in
    ap (λ (b : Bool). if b then started (take_while continues_packet (stretch.more ++ rest)) (packets_started (stretch.more ++ rest)) else packets_started (stretch.more ++ rest)) is
    ∙ ap (λ more. started more (packets_started (stretch.more ++ rest))) (stretch_taken stretch.more rest goes (none_goes_on stretches others))
    ∙ ap (λ packets. stretch_packet stretch ∷ packets) (strays_start_none stretch.more rest goes ∙ stretches_start stretches others)

-- the packets of triplets
pub packets_are_in : (packets : List ChannelPacket) (triplets : List Triplet) → AreChannelPackets packets triplets → packets ≡ channel_packets_in triplets
packets_are_in packets triplets are =
    are.packets_are
    ∙ sym (ap packets_started are.spelled ∙ strays_start_none are.strays (flat_map stretch_triplets are.stretches) are.strays_are
    ∙ stretches_start are.stretches are.stretches_are)

pub packets_in-are : (triplets : List Triplet) → AreChannelPackets (channel_packets_in triplets) triplets
packets_in-are triplets =
    subst (λ packets. AreChannelPackets packets triplets) (packets_are_in (packets_of triplets) triplets (packets_of-are triplets)) (packets_of-are triplets)

pub packets_are : (packets : List ChannelPacket) (triplets : List Triplet) → AreChannelPackets packets triplets ↔ (packets ≡ channel_packets_in triplets)
packets_are packets triplets = (
  packets_are_in packets triplets,
  λ same. subst (λ others. AreChannelPackets others triplets) (sym same) (packets_in-are triplets),
)

-- a header says 32 bytes at most
rest_few : (header : ℕ) → rest_of header ≤ 32
rest_few header =
    let cases : (b : Bool) → (if b then header % 32 + 1 else header % 32) ≤ 32 = elim [
      | true ↦ omega arith
      | false ↦ omega arith
    ] in cases (is_extended header)

no_blocks : (most : ℕ) → first_blocks most [] ≡ []
no_blocks zero = refl
no_blocks (suc most) = refl

-- bytes are their first blocks where the packet has room for whatever a header says
are_blocks : (most room : ℕ) (bytes : List ℕ) → length bytes ≤ most → length bytes + 32 < room → AreBlocks room (first_blocks most bytes) bytes
are_blocks zero room [] few wide = end
are_blocks zero room (header ∷ bytes) few wide = absurd (omega arith)
are_blocks (suc most) room [] few wide = end
are_blocks (suc most) room (header ∷ bytes) few wide =
    let n = rest_of header in
    let block : Block = record { header = header; rest = take n bytes } in
    let small = rest_few header in
    let Is : Bool → Type 0 = λ b. AreBlocks room (if b then [] else block ∷ first_blocks most (drop n bytes)) (header ∷ bytes) in
    let cases : (b c : Bool) → (header == 0) ≡ b → nat_le n (length bytes) ≡ c → Is b = λ b c. elim b as (λ b. (header == 0) ≡ b → nat_le n (length bytes) ≡ c → Is b) [
      | true ↦ λ is _.
          let none : header ≡ 0 = grind (arith, nat_tests) in
          subst (λ h. AreBlocks room [] (h ∷ bytes)) (sym none) ended
      | false ↦ elim c as (λ c. (header == 0) ≡ false → nat_le n (length bytes) ≡ c → Is false) [
        | true ↦ λ is within.
            let long : n ≤ length bytes = grind (arith, nat_tests) in
            let many : length (take n bytes) ≡ n = length-take-le n bytes long in
            let others = are_blocks most (room - 1 - length (take n bytes)) (drop n bytes) (omega (arith, length-drop n bytes)) (omega (arith, length-drop n bytes)) in
            subst (λ bs. AreBlocks room (block ∷ first_blocks most (drop n bytes)) (header ∷ bs)) (take-append-drop n bytes)
            (whole {block = block} (is_header room header is (omega arith)) many others)
        | false ↦ λ is over.
            let short : length bytes < n = grind (arith, nat_tests) in
            let all : take n bytes ≡ bytes = take_all n bytes (omega arith) in
            let nothing : first_blocks most (drop n bytes) ≡ [] = ap (first_blocks most) (drop_all n bytes (omega arith)) ∙ no_blocks most in
            let last : Block = record { header = header; rest = bytes } in
            let rest : block ≡ last = ap (λ bs. let b : Block = record { header = header; rest = bs } in b) all in
            subst (λ bs. AreBlocks room bs (header ∷ bytes)) (sym (ap (λ b. b ∷ first_blocks most (drop n bytes)) rest ∙ ap (λ bs. last ∷ bs) nothing))
            (cut {block = last} (is_header room header is (omega arith)) short)
      ]
    ] in cases _ _ refl refl
  where
    is_header : (room header : ℕ) → (header == 0) ≡ false → rest_of header < room → IsHeader room header
    is_header room header is fits =
        let some : header ≢ 0 = λ none. absurd (grind (arith, nat_tests)) in
        record { some = some; fits = fits }

-- blocks of a packet with more room
wider : (room more : ℕ) (blocks : List Block) (bytes : List ℕ) → AreBlocks room blocks bytes → AreBlocks (room + more) blocks bytes
wider room more blocks bytes end = end
wider room more blocks bytes ended = ended
wider room more blocks bytes (whole {block = block} {blocks = others} {bytes = rest} is many are) =
    let fits = is.fits in
    let same : room - 1 - length block.rest + more ≡ room + more - 1 - length block.rest = omega arith in
    whole {block = block} (record { some = is.some; fits = omega arith }) many
    (subst (λ n. AreBlocks n others rest) same (wider (room - 1 - length block.rest) more others rest are))
wider room more blocks bytes (cut {block = block} is few) =
    let fits = is.fits in
    cut {block = block} (record { some = is.some; fits = omega arith }) few

-- the blocks of a packet
pub blocks_are_in : (room : ℕ) (blocks : List Block) (packet : ChannelPacket) → AreBlocks room blocks packet.bytes → blocks ≡ blocks_in packet
blocks_are_in room blocks packet are =
    let more = length packet.bytes + 33 in
    blocks_unique (room + more) blocks packet.bytes (wider room more blocks packet.bytes are) (blocks_in packet)
    (are_blocks (length packet.bytes) (room + more) packet.bytes (omega arith) (omega arith))

-- a header that passes its packet makes nothing, as one that fits
header_says : (fits : Bool) → step_parts {P = BlockPart} (if fits then Nothing else Refuse why.Overrun) ≡ []
header_says true = refl
header_says false = refl

same_says : (block : List ℕ) (left other byte : ℕ) → step_parts (judge_byte block left byte) ≡ step_parts (judge_byte block other byte)
same_says [] left other byte = header_says (nat_le (rest_of byte) left) ∙ sym (header_says (nat_le (rest_of byte) other))
same_says (header ∷ rest) left other byte = refl

-- the next byte of a packet
next_says : (room : ℕ) (block : List ℕ) (byte : ℕ) (bytes : List ℕ) → 0 < room
    → parts_from block_syntax (at room block) (byte_parts room (byte ∷ bytes))
    ≡ step_parts (judge_byte block (room - 1) byte) ++ parts_from block_syntax (at (room - 1) (block_after block byte)) (byte_parts (room - 1) bytes)
next_says room block byte bytes some =
    let is : (room == room - 1 + 1) ≡ true = grind (arith, nat_tests) in
    ap (λ (t : Bool). step_parts (if t then judge_byte block (room - 1) byte else Nothing)
    ++ parts_from block_syntax (if t then at (room - 1) (block_after block byte) else at room block) (byte_parts (room - 1) bytes)) is

-- so a packet of whatever size says the same
room_says : (room other : ℕ) (block bytes : List ℕ) → length bytes ≤ room → length bytes ≤ other
    → parts_from block_syntax (at room block) (byte_parts room bytes) ≡ parts_from block_syntax (at other block) (byte_parts other bytes)
room_says room other block [] fits few = refl
room_says room other block (byte ∷ bytes) fits few =
    let next = block_after block byte in
    next_says room block byte bytes (omega arith)
    ∙ ap (λ parts. parts ++ parts_from block_syntax (at (room - 1) next) (byte_parts (room - 1) bytes)) (same_says block (room - 1) (other - 1) byte)
    ∙ ap (λ parts. step_parts (judge_byte block (other - 1) byte) ++ parts) (room_says (room - 1) (other - 1) next bytes (omega arith) (omega arith))
    ∙ sym (next_says other block byte bytes (omega arith))

-- what the bytes of a packet say
bytes_say : (size : ℕ) (packet : ChannelPacket) → length packet.bytes ≤ size
    → parts_from block_syntax (at size []) (byte_parts size packet.bytes) ≡ flat_map block_parts (blocks_in packet)
bytes_say size packet fits =
    let wide = length packet.bytes + 33 in
    room_says size wide [] packet.bytes fits (omega arith)
    ∙ (blocks_read wide (blocks_in packet) packet.bytes (are_blocks (length packet.bytes) wide packet.bytes (omega arith) (omega arith)) (omega arith)).reads.made

-- what packets say
reset_says : (gap : Bool) → step_parts {P = BlockPart} (if gap then One part.Reset else Nothing) ≡ (if gap then part.Reset ∷ [] else [])
reset_says true = refl
reset_says false = refl

packets_say : (front : Open) (last : Option ℕ) (packets : List ChannelPacket) → AllByRecursion Fits packets
    → parts_from block_syntax front (packet_parts last packets) ≡ said last packets (map blocks_in packets)
packets_say front last [] fit = refl
packets_say front last (packet ∷ packets) (fits, fit) =
    let size = size_of packet.header in
    let next = Some (number_of packet.header) in
    let gap = is_gap last (number_of packet.header) in
    let own = byte_parts size packet.bytes in
    let behind = front_from open_after (at size []) own in
    let reset : List BlockPart = if gap then part.Reset ∷ [] else [] in
    ap (λ parts. parts ++ parts_from block_syntax (at size []) (own ++ packet_parts next packets)) (reset_says gap)
    ∙ ap (λ parts. reset ++ parts) (parts_from-append block_syntax (at size []) own (packet_parts next packets)
    ∙ ap (λ parts. parts ++ parts_from block_syntax behind (packet_parts next packets)) (bytes_say size packet fits)
    ∙ ap (λ parts. flat_map block_parts (blocks_in packet) ++ parts) (packets_say behind next packets fit))

-- what is heard of any triplets is what they say
pub heard-said : (triplets : List Triplet) → heard_parts triplets ≡ said_in triplets
heard-said triplets =
    let packets = channel_packets_in triplets in
    let are = packets_in-are triplets in
    ap (λ items. parts_of block_syntax items) (parts_of-packets packets triplets are)
    ∙ packets_say nothing_open None packets (recursion_from_All Fits packets (packets_fit packets triplets are))

pub heard_behind-said : (before triplets : List Triplet) → heard_behind before triplets ≡ said_behind before triplets
heard_behind-said before triplets =
    let first = heard_parts before in
    sym (drop-append_seam first (heard_behind before triplets))
    ∙ ap (drop (length first)) (sym (heard-append before triplets) ∙ heard-said (before ++ triplets))
    ∙ ap (λ parts. drop (length parts) (said_in (before ++ triplets))) (heard-said before)

-- and of more triplets it is what the first ones say, and then what the others say after them
pub said-append : (before triplets : List Triplet) → said_in (before ++ triplets) ≡ said_in before ++ said_behind before triplets
said-append before triplets =
    sym (heard-said (before ++ triplets)) ∙ heard-append before triplets
    ∙ ap (λ parts. parts ++ heard_behind before triplets) (heard-said before)
    ∙ ap (λ parts. said_in before ++ parts) (heard_behind-said before triplets)

-- of a caption channel it is what the channel says
pub said-channel : (packets : List ChannelPacket) (blocks : List (List Block)) (triplets : List Triplet) → AreChannel packets blocks triplets
    → said_in triplets ≡ said None packets blocks
said-channel packets blocks triplets channel = sym (heard-said triplets) ∙ (channel_heard packets blocks triplets channel).says
