-- What is open after triplets: of their last packet this many bytes are left, and its bytes have left this block open.
use Rattle.std.proofs.Common.{◌≡◌, ℕ, zero, suc, ◌+◌, ◌-◌, ◌*◌, ◌%◌, ◌<◌, ◌≤◌, ◌==◌, ◌⊎◌, inl, inr, if◌then◌else◌, Bool, true, false, List, [], ◌∷◌, ◌++◌, length, Option, Some, None, refl, ap, sym, subst, ◌∙◌, arith, append-nil, length-append}
use Rattle.std.proofs.lemmas.Bool.Decides.{nat_tests}
use Rattle.std.proofs.lemmas.List.Elements.{recursion_from_All}
use Rattle.std.specs.List.{AllByRecursion}
use Rattle.cc_base.specs.declared.step.Step.{Step}
use Rattle.cc_base.specs.declared.step.Step.TheVariants.{Nothing, One, Two}
use Rattle.cc_base.specs.Steps.{front_from, step_parts}
use Rattle.cc_base.specs.Syntax.{open_behind, parts_from}
use Rattle.cc_base.proofs.StepLemmas.{front_from-append}
use Rattle.cc_data.specs.declared.triplet.Triplet.{Triplet}
use Rattle.channel_packets.specs.declared.parts.PacketPart.{PacketPart}
use Rattle.channel_packets.specs.declared.parts.PacketPart.TheVariants.{Header, Byte}
use Rattle.channel_packets.specs.ChannelPackets.{AreChannelPackets, ChannelPacket, continues_packet, is_gap, number_of, size_of, starts}
use Rattle.channel_packets.specs.PacketParts.{byte_parts, packet_parts, parts_behind}
use Rattle.channel_packets.specs.Reading as packets
use Rattle.channel_packets.specs.Reading.{judge_bytes, judge_triplet, packet_syntax}
use Rattle.channel_packets.proofs.CutLemmas.{packets_of, packets_of-are}
use Rattle.channel_packets.proofs.ReadLemmas.{packets_fit, parts_of-packets}
use Rattle.service_blocks.specs.Reading.{Open, block_after, block_syntax, nothing_open, open_after}
use Rattle.service_blocks.proofs.BlockLemmas.{at}
use Rattle.service_blocks.proofs.ChannelLemmas.{Fits, front_behind}
use Rattle.services_files.proofs.WholeBlockLemmas.{block_from}

-- the front after these bytes of a packet of this size
pub record IsBehind (size : ℕ) (bytes : List ℕ) (front : Open) : Type 0 where
  pub fits : length bytes ≤ size
  pub left : front.left ≡ Some (size - length bytes)
  pub block : front.block ≡ block_from [] bytes

-- one more byte
pub after-next : (left : ℕ) (block : List ℕ) (byte : ℕ) → 0 < left → open_after (at left block) (Byte byte (left - 1)) ≡ at (left - 1) (block_after block byte)
after-next left block byte some =
    let next : (left == left - 1 + 1) ≡ true = grind (arith, nat_tests) in
    ap (λ (t : Bool). if t then at (left - 1) (block_after block byte) else at left block) next

bytes_front : (size : ℕ) (block bytes : List ℕ) → length bytes ≤ size
    → front_from open_after (at size block) (byte_parts size bytes) ≡ at (size - length bytes) (block_from block bytes)
bytes_front size block [] fits = let same : size ≡ size - 0 = omega arith in ap (λ n. at n block) same
bytes_front size block (byte ∷ bytes) fits =
    let less : size - 1 - length bytes ≡ size - length (byte ∷ bytes) = omega arith in
    ap (λ f. front_from open_after f (byte_parts (size - 1) bytes)) (after-next size block byte (omega arith))
    ∙ bytes_front (size - 1) (block_after block byte) bytes (omega arith)
    ∙ ap (λ n. at n (block_from (block_after block byte) bytes)) less

-- the last packet
last_front : (front : Open) (last : Option ℕ) (before : List ChannelPacket) (packet : ChannelPacket) → Fits packet
    → front_from open_after front (packet_parts last (before ++ packet ∷ []))
    ≡ at (size_of packet.header - length packet.bytes) (block_from [] packet.bytes)
last_front front last [] packet fits =
    ap (λ parts. front_from open_after (at (size_of packet.header) []) parts) (append-nil (byte_parts (size_of packet.header) packet.bytes))
    ∙ bytes_front (size_of packet.header) [] packet.bytes fits
last_front front last (first ∷ before) packet fits =
    front_from-append open_after front (parts_behind last first) (packet_parts (Some (number_of first.header)) (before ++ packet ∷ []))
    ∙ last_front (front_from open_after front (parts_behind last first)) (Some (number_of first.header)) before packet fits

last_fits : (before : List ChannelPacket) (packet : ChannelPacket) → AllByRecursion Fits (before ++ packet ∷ []) → Fits packet
last_fits [] packet (fits, all) = fits
last_fits (first ∷ before) packet (fits, all) = last_fits before packet all

pub behind_last : (triplets : List Triplet) (before : List ChannelPacket) (packet : ChannelPacket) → AreChannelPackets (before ++ packet ∷ []) triplets
    → IsBehind (size_of packet.header) packet.bytes (front_behind triplets)
behind_last triplets before packet are =
    let all = recursion_from_All Fits (before ++ packet ∷ []) (packets_fit (before ++ packet ∷ []) triplets are) in
    let fits = last_fits before packet all in
    let same : front_behind triplets ≡ at (size_of packet.header - length packet.bytes) (block_from [] packet.bytes) =
    ap (λ parts. open_behind block_syntax parts) (parts_of-packets (before ++ packet ∷ []) triplets are) ∙ last_front nothing_open None before packet fits in
    record { fits = fits; left = ap (λ (f : Open). f.left) same; block = ap (λ (f : Open). f.block) same }

-- and one more byte of it
pub behind_more : (size : ℕ) (bytes : List ℕ) (front : Open) (byte left : ℕ) → IsBehind size bytes front → left + 1 ≡ size - length bytes
    → IsBehind size (bytes ++ byte ∷ []) (open_after front (Byte byte left))
behind_more size bytes front byte left behind some =
    let room = size - length bytes in
    let one : left ≡ room - 1 = omega arith in
    let here : front ≡ at room (block_from [] bytes) =
    ap (λ l. let f : Open = record { left = l; block = front.block } in f) behind.left ∙ ap (λ b. at room b) behind.block in
    let next : open_after front (Byte byte left) ≡ at (room - 1) (block_after (block_from [] bytes) byte) =
    ap (λ f. open_after f (Byte byte left)) here
    ∙ ap (λ n. open_after (at room (block_from [] bytes)) (Byte byte n)) one
    ∙ after-next room (block_from [] bytes) byte (omega arith) in
    let less : room - 1 ≡ size - length (bytes ++ byte ∷ []) = omega (arith, length-append bytes (byte ∷ [])) in
    record {
      fits = omega (arith, length-append bytes (byte ∷ []));
      left = ap (λ (f : Open). f.left) next ∙ ap (λ (n : ℕ). Some n) less;
      block = ap (λ (f : Open). f.block) next ∙ sym (front_from-append block_after [] bytes (byte ∷ []));
    }

-- packets have a last one, where there is one
record HasLast (packets : List ChannelPacket) : Type 0 where
  before : List ChannelPacket
  packet : ChannelPacket
  is : packets ≡ before ++ packet ∷ []

has_last : (first : ChannelPacket) (others : List ChannelPacket) → HasLast (first ∷ others)
has_last first [] = record { before = []; packet = first; is = refl }
has_last first (second ∷ others) =
    let rest = has_last second others in record { before = first ∷ rest.before; packet = rest.packet; is = ap (λ ps. first ∷ ps) rest.is }

pub record LastPacket (triplets : List Triplet) : Type 0 where
  pub before : List ChannelPacket
  pub packet : ChannelPacket
  pub are : AreChannelPackets (before ++ packet ∷ []) triplets

-- where a packet has bytes left there is one
pub last_packet : (triplets : List Triplet) (left : ℕ) → (front_behind triplets).left ≡ Some left → LastPacket triplets
last_packet triplets left some = last_of (packets_of triplets) (packets_of-are triplets)
  where
    last_of : (packets : List ChannelPacket) → AreChannelPackets packets triplets → LastPacket triplets
    last_of [] are =
        let none : (front_behind triplets).left ≡ None =
        ap (λ parts. (open_behind block_syntax parts).left) (parts_of-packets [] triplets are) in
        let wrong : Some left ≡ None = sym some ∙ none in absurd cc
    last_of (first ∷ others) are =
        let last = has_last first others in
        record { before = last.before; packet = last.packet; are = subst (λ ps. AreChannelPackets ps triplets) last.is are }

-- both readers have the same number of bytes left
abbrev pub AreInStep : packets.Open → Open → Type 0
AreInStep packet front = (front.left ≡ Some packet.left) ⊎ ((front.left ≡ None) × (packet.left ≡ 0))

size_some : (low : ℕ) → 0 < (if low == 0 then 127 else 2 * low - 1)
size_some low = grind (arith, nat_tests)

pub two_bytes : (left first second : ℕ) → 2 ≤ left → judge_bytes left first second ≡ Two (Byte first (left - 1)) (Byte second (left - 2))
two_bytes left first second some =
    let one : (left == 0) ≡ false = grind (arith, nat_tests) in
    let two : (left == 1) ≡ false = grind (arith, nat_tests) in
    let both : Step PacketPart = Two (Byte first (left - 1)) (Byte second (left - 2)) in
    ap (λ (t : Bool). if t then Nothing else if left == 1 then One (Byte first 0) else both) one ∙ ap (λ (t : Bool). if t then One (Byte first 0) else both) two

one_step : (front : Open) (left byte : ℕ) → 0 < left → front.left ≡ Some left → (open_after front (Byte byte (left - 1))).left ≡ Some (left - 1)
one_step front left byte some is =
    ap (λ l. (open_after (record { left = l; block = front.block }) (Byte byte (left - 1))).left) is
    ∙ ap (λ (f : Open). f.left) (after-next left front.block byte some)

bytes_in_step : (front : Open) (left first second : ℕ) → (front.left ≡ Some left) ⊎ ((front.left ≡ None) × (left ≡ 0))
    → ((front_from open_after front (step_parts (judge_bytes left first second))).left ≡ Some (left - 2))
    ⊎ (((front_from open_after front (step_parts (judge_bytes left first second))).left ≡ None) × (left - 2 ≡ 0))
bytes_in_step front zero first second (inl is) = inl is
bytes_in_step front zero first second (inr (none, zero_left)) = inr (none, refl)
bytes_in_step front (suc zero) first second (inl is) = inl (one_step front 1 first (omega arith) is)
bytes_in_step front (suc zero) first second (inr (none, zero_left)) = absurd (omega arith)
bytes_in_step front (suc (suc more)) first second (inl is) =
    let left = suc (suc more) in
    let less : left - 1 - 1 ≡ left - 2 = omega arith in
    let one = one_step front left first (omega arith) is in
    let two = one_step (open_after front (Byte first (left - 1))) (left - 1) second (omega arith) one in
    inl (ap (λ step. (front_from open_after front (step_parts step)).left) (two_bytes left first second (omega arith))
    ∙ ap (λ n. (open_after (open_after front (Byte first (left - 1))) (Byte second n)).left) (sym less) ∙ two ∙ ap (λ (n : ℕ). Some n) less)
bytes_in_step front (suc (suc more)) first second (inr (none, zero_left)) = absurd (omega arith)

triplet_in_step : (starting going : Bool) (packet : packets.Open) (front : Open) (triplet : Triplet) → AreInStep packet front
    → AreInStep (if starting then record { last = Some (number_of triplet.a); left = size_of triplet.a - 1 }
    else if going then record { last = packet.last; left = packet.left - 2 } else packet)
    (front_from open_after front (step_parts (if starting
    then Two (Header (is_gap packet.last (number_of triplet.a)) (size_of triplet.a)) (Byte triplet.b (size_of triplet.a - 1))
    else if going then judge_bytes packet.left triplet.a triplet.b else Nothing)))
triplet_in_step true going packet front triplet same =
    inl (one_step (at (size_of triplet.a) []) (size_of triplet.a) triplet.b (size_some (triplet.a % 64)) refl)
triplet_in_step false true packet front triplet same = bytes_in_step front packet.left triplet.a triplet.b same
triplet_in_step false false packet front triplet same = same

all_in_step : (packet : packets.Open) (front : Open) (triplets : List Triplet) → AreInStep packet front
    → AreInStep (front_from packet_syntax.after packet triplets) (front_from open_after front (parts_from packet_syntax packet triplets))
all_in_step packet front [] same = same
all_in_step packet front (triplet ∷ triplets) same =
    let parts = step_parts (judge_triplet packet triplet) in
    let next = packets.open_after packet triplet in
    subst (λ f. AreInStep (front_from packet_syntax.after next triplets) f)
    (sym (front_from-append open_after front parts (parts_from packet_syntax next triplets)))
    (all_in_step next (front_from open_after front parts) triplets (triplet_in_step (starts triplet) (continues_packet triplet) packet front triplet same))

-- after triplets whose last packet has bytes left, both readers know how many
pub left_same : (triplets : List Triplet) (left : ℕ) → (front_behind triplets).left ≡ Some left → (open_behind packet_syntax triplets).left ≡ left
left_same triplets left some =
    elim (all_in_step packets.nothing_open nothing_open triplets (inr (refl, refl))) [
      | inl is ↦ let same : Some (open_behind packet_syntax triplets).left ≡ Some left = sym is ∙ some in cc
      | inr (none, zero_left) ↦ let wrong : Some left ≡ None = sym some ∙ none in absurd cc
    ]

pub left_some : (triplets : List Triplet) → 0 < (open_behind packet_syntax triplets).left → (front_behind triplets).left ≡ Some (open_behind packet_syntax triplets).left
left_some triplets some =
    elim (all_in_step packets.nothing_open nothing_open triplets (inr (refl, refl))) [
      | inl is ↦ is
      | inr (none, zero_left) ↦ absurd (omega arith)
    ]
