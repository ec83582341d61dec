-- The parts that triplets make are their packets' parts, and none is refused.
use Rattle.std.proofs.Common.{◌≡◌, ℕ, zero, suc, ◌-◌, ◌*◌, ◌%◌, ◌<◌, ◌≤◌, ◌==◌, ◌||◌, if◌then◌else◌, Bool, true, false, List, [], ◌∷◌, ◌++◌, length, map, take, Option, Some, None, refl, ap, sym, subst, ◌∙◌, arith}
use Rattle.std.proofs.lemmas.Bool.Decides.{nat_tests}
use Rattle.std.proofs.lemmas.List.{length-take}
use Rattle.std.proofs.lemmas.List.Elements.{All-cons, All-nil}
use Rattle.std.specs.List.{All, flat_map, list_all}
use Rattle.cc_base.specs.declared.step.Step.{Step}
use Rattle.cc_base.specs.declared.step.Step.TheVariants.{Nothing, One, Two}
use Rattle.cc_base.specs.Steps.{IsTaken, front_from, step_parts}
use Rattle.cc_base.specs.Syntax.{AllRead, AllTaken, parts_from, parts_of}
use Rattle.cc_base.proofs.SyntaxLemmas.{parts_from-append}
use Rattle.cc_data.specs.declared.triplet.Triplet.{Triplet}
use Rattle.channel_packets.specs.declared.parts.PacketPart.{PacketPart}
use Rattle.channel_packets.specs.declared.parts.PacketPart.TheVariants as part
use Rattle.channel_packets.specs.ChannelPackets.{AreChannelPackets, ChannelPacket, TripletStretch, bytes_of, channel_triplets, continues_packet, is_gap, is_stretch, number_of, size_of, starts, stretch_packet, stretch_triplets}
use Rattle.channel_packets.specs.PacketParts.{byte_parts, packet_parts}
use Rattle.channel_packets.specs.Reading.{Open, judge_bytes, judge_triplet, nothing_open, open_after, packet_syntax}
use Rattle.channel_packets.proofs.CutLemmas.{starts-continuing, true_and}

-- one of two steps, none of which is a refusal
IsTaken-if : (test : Bool) (one two : Step PacketPart) → IsTaken one → IsTaken two → IsTaken (if test then one else two)
IsTaken-if true one two first second = first
IsTaken-if false one two first second = second

pub taken : (front : Open) (triplet : Triplet) → IsTaken (judge_triplet front triplet)
taken front triplet =
    IsTaken-if (starts triplet) _ _ tt (IsTaken-if (continues_packet triplet) _ _ (IsTaken-if (front.left == 0) _ _ tt (IsTaken-if (front.left == 1) _ _ tt tt)) tt)

pub all_taken : (front : Open) (triplets : List Triplet) → AllTaken packet_syntax front triplets
all_taken front [] = tt
all_taken front (triplet ∷ triplets) = (taken front triplet, all_taken (open_after front triplet) triplets)

pub all_read : (triplets : List Triplet) → AllRead packet_syntax triplets
all_read triplets = all_taken nothing_open triplets

-- a triplet that starts a packet
judge-starting : (front : Open) (triplet : Triplet) → starts triplet ≡ true
    → judge_triplet front triplet
    ≡ Two (part.Header (is_gap front.last (number_of triplet.a)) (size_of triplet.a)) (part.Byte triplet.b (size_of triplet.a - 1))
judge-starting front triplet is =
    ap (λ (t : Bool). if t then Two (part.Header (is_gap front.last (number_of triplet.a)) (size_of triplet.a)) (part.Byte triplet.b (size_of triplet.a - 1))
    else if continues_packet triplet then judge_bytes front.left triplet.a triplet.b else Nothing) is

after-starting : (front : Open) (triplet : Triplet) → starts triplet ≡ true
    → open_after front triplet ≡ record { last = Some (number_of triplet.a); left = size_of triplet.a - 1 }
after-starting front triplet is =
    let begun : Open = record { last = Some (number_of triplet.a); left = size_of triplet.a - 1 } in
    let more : Open = record { last = front.last; left = front.left - 2 } in
    ap (λ (t : Bool). if t then begun else if continues_packet triplet then more else front) is

-- one that continues a packet
judge-continuing : (front : Open) (triplet : Triplet) → continues_packet triplet ≡ true
    → judge_triplet front triplet ≡ judge_bytes front.left triplet.a triplet.b
judge-continuing front triplet is =
    let begun : Step PacketPart = Two (part.Header (is_gap front.last (number_of triplet.a)) (size_of triplet.a)) (part.Byte triplet.b (size_of triplet.a - 1)) in
    ap (λ (t : Bool). if t then begun else if continues_packet triplet then judge_bytes front.left triplet.a triplet.b else Nothing) (starts-continuing triplet is)
    ∙ ap (λ (t : Bool). if t then judge_bytes front.left triplet.a triplet.b else Nothing) is

after-continuing : (front : Open) (triplet : Triplet) → continues_packet triplet ≡ true
    → open_after front triplet ≡ record { last = front.last; left = front.left - 2 }
after-continuing front triplet is =
    let begun : Open = record { last = Some (number_of triplet.a); left = size_of triplet.a - 1 } in
    let more : Open = record { last = front.last; left = front.left - 2 } in
    ap (λ (t : Bool). if t then begun else if continues_packet triplet then more else front) (starts-continuing triplet is)
    ∙ ap (λ (t : Bool). if t then more else front) is

-- one that does neither
neither : (one two : Bool) → (one || two) ≡ false → (one ≡ false) × (two ≡ false)
neither true two is = absurd cc
neither false two is = (refl, is)

judge-other : (front : Open) (triplet : Triplet) → (starts triplet || continues_packet triplet) ≡ false
    → (judge_triplet front triplet ≡ Nothing) × (open_after front triplet ≡ front)
judge-other front triplet is =
    let (one, two) = neither (starts triplet) (continues_packet triplet) is in
    let begun : Step PacketPart = Two (part.Header (is_gap front.last (number_of triplet.a)) (size_of triplet.a)) (part.Byte triplet.b (size_of triplet.a - 1)) in
    let first : Open = record { last = Some (number_of triplet.a); left = size_of triplet.a - 1 } in
    let more : Open = record { last = front.last; left = front.left - 2 } in (
      ap (λ (t : Bool). if t then begun else if continues_packet triplet then judge_bytes front.left triplet.a triplet.b else Nothing) one
          ∙ ap (λ (t : Bool). if t then judge_bytes front.left triplet.a triplet.b else Nothing) two,
      ap (λ (t : Bool). if t then first else if continues_packet triplet then more else front) one ∙ ap (λ (t : Bool). if t then more else front) two,
    )

-- triplets of line 21, and those that don't count, make no part
parts_from-channel : (front : Open) (triplets : List Triplet)
    → parts_from packet_syntax front triplets ≡ parts_from packet_syntax front (channel_triplets triplets)
parts_from-channel front [] = refl
parts_from-channel front (triplet ∷ triplets) =
    let rest = parts_from-channel (open_after front triplet) triplets in
    let cases : (b : Bool) → (starts triplet || continues_packet triplet) ≡ b
    → parts_from packet_syntax front (triplet ∷ triplets) ≡ parts_from packet_syntax front (channel_triplets (triplet ∷ triplets)) = elim [
      | true ↦ λ is.
          ap (λ parts. step_parts (judge_triplet front triplet) ++ parts) rest
          ∙ ap (λ (b : Bool). parts_from packet_syntax front (if b then triplet ∷ channel_triplets triplets else channel_triplets triplets)) (sym is)
      | false ↦ λ is.
          let (judged, after) = judge-other front triplet is in
          ap (λ step. step_parts step ++ parts_from packet_syntax (open_after front triplet) triplets) judged
          ∙ rest ∙ ap (λ f. parts_from packet_syntax f (channel_triplets triplets)) after
          ∙ ap (λ (b : Bool). parts_from packet_syntax front (if b then triplet ∷ channel_triplets triplets else channel_triplets triplets)) (sym is)
    ] in cases _ refl

-- a triplet that continues a packet, and others
parts_from-continuing : (front : Open) (triplet : Triplet) (more : List Triplet) → continues_packet triplet ≡ true
    → parts_from packet_syntax front (triplet ∷ more)
    ≡ step_parts (judge_bytes front.left triplet.a triplet.b) ++ parts_from packet_syntax (record { last = front.last; left = front.left - 2 }) more
parts_from-continuing front triplet more is =
    ap (λ step. step_parts step ++ parts_from packet_syntax (open_after front triplet) more) (judge-continuing front triplet is)
    ∙ ap (λ f. step_parts (judge_bytes front.left triplet.a triplet.b) ++ parts_from packet_syntax f more) (after-continuing front triplet is)

-- two bytes of those that are left
two_parts : (left first second : ℕ) → judge_bytes (suc (suc left)) first second
    ≡ Two (part.Byte first (suc (suc left) - 1)) (part.Byte second (suc (suc left) - 2))
two_parts left first second =
    let some : (suc (suc left) == 0) ≡ false = grind (arith, nat_tests) in
    let more : (suc (suc left) == 1) ≡ false = grind (arith, nat_tests) in
    let one : Step PacketPart = One (part.Byte first 0) in
    let two : Step PacketPart = Two (part.Byte first (suc (suc left) - 1)) (part.Byte second (suc (suc left) - 2)) in
    ap (λ (t : Bool). if t then Nothing else if suc (suc left) == 1 then one else two) some ∙ ap (λ (t : Bool). if t then one else two) more

-- the bytes of triplets that continues a packet, as many as are left of it
parts_from-more : (last : Option ℕ) (left : ℕ) (more : List Triplet) → list_all continues_packet more ≡ true
    → parts_from packet_syntax (record { last = last; left = left }) more ≡ byte_parts left (take left (bytes_of more))
parts_from-more last zero [] all = refl
parts_from-more last (suc left) [] all = refl
parts_from-more last zero (triplet ∷ more) all =
    let (one, others) = true_and (continues_packet triplet) (list_all continues_packet more) all in
    parts_from-continuing (record { last = last; left = 0 }) triplet more one ∙ parts_from-more last zero more others
parts_from-more last (suc zero) (triplet ∷ more) all =
    let (one, others) = true_and (continues_packet triplet) (list_all continues_packet more) all in
    parts_from-continuing (record { last = last; left = 1 }) triplet more one
    ∙ ap (λ parts. part.Byte triplet.a 0 ∷ parts) (parts_from-more last zero more others)
parts_from-more last (suc (suc left)) (triplet ∷ more) all =
    let (one, others) = true_and (continues_packet triplet) (list_all continues_packet more) all in
    let front : Open = record { last = last; left = suc (suc left) } in
    let two : List PacketPart = part.Byte triplet.a (suc (suc left) - 1) ∷ part.Byte triplet.b (suc (suc left) - 2) ∷ [] in
    let less : suc (suc left) - 2 ≡ left = omega arith in
    let same : suc (suc left) - 1 - 1 ≡ suc (suc left) - 2 = omega arith in
    parts_from-continuing front triplet more one
    ∙ ap (λ step. step_parts step ++ parts_from packet_syntax (record { last = last; left = suc (suc left) - 2 }) more) (two_parts left triplet.a triplet.b)
    ∙ ap (λ n. two ++ parts_from packet_syntax (record { last = last; left = n }) more) less
    ∙ ap (λ parts. two ++ parts) (parts_from-more last left more others)
    ∙ ap (λ n. part.Byte triplet.a (suc (suc left) - 1) ∷ part.Byte triplet.b (suc (suc left) - 2) ∷ byte_parts n (take left (bytes_of more))) (sym less ∙ sym same)
    ∙ ap (λ n. part.Byte triplet.a (suc (suc left) - 1) ∷ part.Byte triplet.b n ∷ byte_parts (suc (suc left) - 1 - 1) (take left (bytes_of more))) (sym same)

last-more : (last : Option ℕ) (left : ℕ) (more : List Triplet) → list_all continues_packet more ≡ true
    → (front_from open_after (record { last = last; left = left }) more).last ≡ last
last-more last left [] all = refl
last-more last left (triplet ∷ more) all =
    let (one, others) = true_and (continues_packet triplet) (list_all continues_packet more) all in
    ap (λ f. (front_from open_after f more).last) (after-continuing (record { last = last; left = left }) triplet one)
    ∙ last-more last (left - 2) more others

-- the sizes of packets
size_some : (low : ℕ) → 0 < (if low == 0 then 127 else 2 * low - 1)
size_some low = grind (arith, nat_tests)

-- the first byte of a packet
first_byte : (size byte : ℕ) (bytes : List ℕ) → 0 < size
    → part.Byte byte (size - 1) ∷ byte_parts (size - 1) (take (size - 1) bytes) ≡ byte_parts size (take size (byte ∷ bytes))
first_byte zero byte bytes some = absurd (omega arith)
first_byte (suc size) byte bytes some =
    let same : suc size - 1 ≡ size = omega arith in
    ap (λ n. part.Byte byte (suc size - 1) ∷ byte_parts (suc size - 1) (take n bytes)) same

-- stretches make the parts of their packets
parts_from-stretches : (front : Open) (stretches : List TripletStretch) → list_all is_stretch stretches ≡ true
    → parts_from packet_syntax front (flat_map stretch_triplets stretches) ≡ packet_parts front.last (map stretch_packet stretches)
parts_from-stretches front [] all = refl
parts_from-stretches front (stretch ∷ stretches) all =
    let (one, others) = true_and (is_stretch stretch) (list_all is_stretch stretches) all in
    let (is, goes) = true_and (starts stretch.first) (list_all continues_packet stretch.more) one in
    let header = stretch.first.a in
    let size = size_of header in
    let last = Some (number_of header) in
    let rest = flat_map stretch_triplets stretches in
    let begun : Open = record { last = last; left = size - 1 } in
    let behind = front_from open_after begun stretch.more in
    let two : List PacketPart = part.Header (is_gap front.last (number_of header)) size ∷ part.Byte stretch.first.b (size - 1) ∷ [] in
    let some : 0 < size = size_some (header % 64) in
    ap (λ step. step_parts step ++ parts_from packet_syntax (open_after front stretch.first) (stretch.more ++ rest)) (judge-starting front stretch.first is)
    ∙ ap (λ f. two ++ parts_from packet_syntax f (stretch.more ++ rest)) (after-starting front stretch.first is)
    ∙ ap (λ parts. two ++ parts) (parts_from-append packet_syntax begun stretch.more rest)
    ∙ ap (λ parts. two ++ (parts ++ parts_from packet_syntax behind rest)) (parts_from-more last (size - 1) stretch.more goes)
    ∙ ap (λ parts. two ++ (byte_parts (size - 1) (take (size - 1) (bytes_of stretch.more)) ++ parts)) (parts_from-stretches behind stretches others
    ∙ ap (λ number. packet_parts number (map stretch_packet stretches)) (last-more last (size - 1) stretch.more goes))
    ∙ ap (λ parts. part.Header (is_gap front.last (number_of header)) size ∷ (parts ++ packet_parts last (map stretch_packet stretches))) (first_byte size stretch.first.b (bytes_of stretch.more) some)

-- triplets before the first start make no part, and leave nothing open
strays_pass : (strays : List Triplet) → list_all continues_packet strays ≡ true → front_from open_after nothing_open strays ≡ nothing_open
strays_pass [] all = refl
strays_pass (stray ∷ strays) all =
    let (one, others) = true_and (continues_packet stray) (list_all continues_packet strays) all in
    ap (λ f. front_from open_after f strays) (after-continuing nothing_open stray one) ∙ strays_pass strays others

-- the parts of a file's triplets are its packets' parts
pub parts_of-packets : (packets : List ChannelPacket) (triplets : List Triplet) → AreChannelPackets packets triplets
    → parts_of packet_syntax triplets ≡ packet_parts None packets
parts_of-packets packets triplets are =
    let rest = flat_map stretch_triplets are.stretches in
    parts_from-channel nothing_open triplets
    ∙ ap (λ ts. parts_from packet_syntax nothing_open ts) are.spelled
    ∙ parts_from-append packet_syntax nothing_open are.strays rest
    ∙ ap (λ parts. parts ++ parts_from packet_syntax (front_from open_after nothing_open are.strays) rest) (parts_from-more None 0 are.strays are.strays_are)
    ∙ ap (λ f. parts_from packet_syntax f rest) (strays_pass are.strays are.strays_are)
    ∙ parts_from-stretches nothing_open are.stretches are.stretches_are
    ∙ ap (λ ps. packet_parts None ps) (sym are.packets_are)

-- a packet has no more bytes than its size
fits-take : (size : ℕ) (bytes : List ℕ) → length (take size bytes) ≤ size
fits-take size bytes = omega (arith, length-take size bytes)

each_fits : (stretches : List TripletStretch) → All (λ packet. length packet.bytes ≤ size_of packet.header) (map stretch_packet stretches)
each_fits [] = All-nil (λ (packet : ChannelPacket). length packet.bytes ≤ size_of packet.header)
each_fits (stretch ∷ stretches) =
    All-cons (λ (packet : ChannelPacket). length packet.bytes ≤ size_of packet.header) (stretch_packet stretch) (map stretch_packet stretches)
    (fits-take (size_of stretch.first.a) (stretch.first.b ∷ bytes_of stretch.more)) (each_fits stretches)

pub packets_fit : (packets : List ChannelPacket) (triplets : List Triplet) → AreChannelPackets packets triplets
    → All (λ packet. length packet.bytes ≤ size_of packet.header) packets
packets_fit packets triplets are =
    subst (All (λ packet. length packet.bytes ≤ size_of packet.header)) (sym are.packets_are) (each_fits are.stretches)
