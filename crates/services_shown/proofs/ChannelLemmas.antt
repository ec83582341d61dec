-- The frames of a programme carry a caption channel: their packets, one for each frame with service blocks, with just these.
use Rattle.std.proofs.Common.{◌≡◌, ◌∙◌, ℕ, zero, suc, ◌+◌, ◌-◌, ◌%◌, ◌≤◌, ◌==◌, ◌||◌, Bool, true, false, if◌then◌else◌, List, [], ◌∷◌, ◌++◌, Option, Some, None, All, length, length-append, map, refl, sym, ap, subst, arith, append-nil, append_assoc, cond}
use Rattle.std.specs.List.{flat_map}
use Rattle.std.proofs.lemmas.Bool.Decides.{nat_tests}
use Rattle.std.proofs.lemmas.List.Elements.{All-head, All-tail, filter-append}
use Rattle.cc_base.specs.declared.rate.Rate.{Rate}
use Rattle.cc_data.specs.declared.triplet.Triplet.{Triplet}
use Rattle.cdp_packets.specs.PacketTriplets.{packet_triplets}
use Rattle.channel_packets.specs.ChannelPackets.{ChannelPacket, channel_triplets, continues_packet, is_gap, size_of, starts}
use Rattle.channel_packets.specs.Written.{completed_bytes, header_for, packet_for, packet_written}
use Rattle.channel_packets.proofs.LawLemmas.{header_for-number, header_for-size, packets-same, written-are}
use Rattle.service_blocks.proofs.WrittenLemmas.{Says-block_for, written_before}
use Rattle.service_blocks.specs.declared.parts.BlockPart.{BlockPart}
use Rattle.service_blocks.specs.declared.parts.BlockPart.TheVariants as part
use Rattle.service_blocks.specs.BlockParts.{block_parts}
use Rattle.service_blocks.specs.Channels.{AreChannel, said}
use Rattle.service_blocks.specs.ServiceBlocks.{AreBlocks, Block, end, ended}
use Rattle.service_blocks.specs.Written.{block_for, block_written}
use Rattle.cc_receiver.specs.CarriedChannel.{file_triplets}
use Rattle.frame_carrier.specs.Columns.{Columns}
use Rattle.frame_carrier.specs.Carrying.{channel_packet, channel_packet_of, column_packets, frame_packet, packet_count, packets_before}
use Rattle.services_shown.specs.ServicesCarried.{HasBlocks, IsSent, ProgrammesAreWhole, Sent, sent_bytes}

-- the blocks of what is sent
abbrev blocks_for : List Sent → List Block
blocks_for [] = []
blocks_for (sent ∷ more) = block_for sent.service sent.bytes ∷ blocks_for more

-- they are the blocks of their bytes, whatever is ignored after them
abbrev IsIgnored : List ℕ → Type 0
IsIgnored [] = Unit {0}
IsIgnored (byte ∷ bytes) = byte ≡ 0x00

ignored_blocks : (room : ℕ) (rest : List ℕ) → IsIgnored rest → AreBlocks room [] rest
ignored_blocks room [] is = end
ignored_blocks room (byte ∷ bytes) is = subst (λ b. AreBlocks room [] (b ∷ bytes)) (sym is) ended

sent_blocks : (room : ℕ) (sent : List Sent) (rest : List ℕ) → All IsSent sent → length (sent_bytes sent) ≤ room → IsIgnored rest
    → AreBlocks room (blocks_for sent) (sent_bytes sent ++ rest)
sent_blocks room [] rest all few ignored = ignored_blocks room rest ignored
sent_blocks room (sent ∷ more) rest all few ignored =
    let own = All-head IsSent sent more all in
    let size = length-append (block_written sent.service sent.bytes) (sent_bytes more) in
    subst (AreBlocks room (blocks_for (sent ∷ more))) (sym (append_assoc (block_written sent.service sent.bytes) (sent_bytes more) rest))
    (written_before sent.service sent.bytes room (blocks_for more) (sent_bytes more ++ rest) own.least own.most own.some own.few (omega (arith, size, few))
    (sent_blocks (room - length (block_written sent.service sent.bytes)) more rest (All-tail IsSent sent more all) (omega (arith, size, few)) ignored))

-- so the packet of these bytes has these blocks
packet_blocks : (number : ℕ) (sent : List Sent) (bytes : List ℕ) → bytes ≡ sent_bytes sent → All IsSent sent → length bytes ≤ 127
    → AreBlocks (size_of (packet_for number bytes).header) (blocks_for sent) (packet_for number bytes).bytes
packet_blocks number sent bytes is all few = at (length bytes % 2 == 0) refl
  where
    size : size_of (header_for number (length bytes)) ≡ length (completed_bytes bytes)
    size = header_for-size number bytes few

    at : (b : Bool) → (length bytes % 2 == 0) ≡ b → AreBlocks (size_of (header_for number (length bytes))) (blocks_for sent) (completed_bytes bytes)
    at true even =
        let done : completed_bytes bytes ≡ bytes ++ 0x00 ∷ [] = rw even refl in
        let long = length-append bytes (0x00 ∷ []) in
        let count = ap length done in
        subst (AreBlocks (size_of (header_for number (length bytes))) (blocks_for sent)) (sym (done ∙ ap (λ l. l ++ 0x00 ∷ []) is))
        (sent_blocks (size_of (header_for number (length bytes))) sent (0x00 ∷ []) all (let same = ap length is in omega (arith, size, count, long, same)) refl)
    at false odd =
        let done : completed_bytes bytes ≡ bytes = rw odd refl in
        let count = ap length done in
        subst (AreBlocks (size_of (header_for number (length bytes))) (blocks_for sent)) (sym (done ∙ is ∙ sym (append-nil (sent_bytes sent))))
        (sent_blocks (size_of (header_for number (length bytes))) sent [] all (let same = ap length is in omega (arith, size, count, same)) tt)

-- what the blocks of what is sent say
abbrev pub parts_sent : List Sent → List BlockPart
parts_sent [] = []
parts_sent (sent ∷ more) = map (part.Byte sent.service) sent.bytes ++ parts_sent more

blocks_say : (sent : List Sent) → All IsSent sent → flat_map block_parts (blocks_for sent) ≡ parts_sent sent
blocks_say [] all = refl
blocks_say (sent ∷ more) all =
    let own = All-head IsSent sent more all in
    ap (λ ps. ps ++ flat_map block_parts (blocks_for more)) (Says-block_for sent.service sent.bytes own.least own.most own.some own.few).says
    ∙ ap (λ ps. map (part.Byte sent.service) sent.bytes ++ ps) (blocks_say more (All-tail IsSent sent more all))

-- no bytes are of nothing that is sent
nothing_sent : (sent : List Sent) → [] ≡ sent_bytes sent → parts_sent sent ≡ []
nothing_sent [] none = refl
nothing_sent (sent ∷ more) none = absurd cc

-- after this many packets the last one has this number
abbrev pub IsLast : ℕ → Option ℕ → Type 0
IsLast count None = Unit {0}
IsLast count (Some last) = (last + 1) % 4 ≡ count % 4

-- so the next one isn't after a gap
no_gap : (count : ℕ) (last : Option ℕ) → IsLast count last → is_gap last (count % 4) ≡ false
no_gap count None behind = refl
no_gap count (Some last) behind = let same : (count % 4 == (last + 1) % 4) ≡ true = grind (arith, nat_tests) in rw same refl

-- triplets that are a channel, of which this is said after a packet of the last number
pub record IsChannel (last : Option ℕ) (says : List BlockPart) (triplets : List Triplet) : Type 0 where
  pub packets : List ChannelPacket
  pub blocks : List (List Block)
  pub channel : AreChannel packets blocks triplets
  pub says_are : said last packets blocks ≡ says

-- a packet in front
pub with_packet : (last : Option ℕ) (count : ℕ) (sent : List Sent) (bytes : List ℕ) (says : List BlockPart) (rest : List Triplet) → IsLast count last
    → bytes ≡ sent_bytes sent → All IsSent sent → 1 ≤ length bytes → length bytes ≤ 35 → IsChannel (Some (count % 4)) says rest
    → IsChannel last (parts_sent sent ++ says) (packet_written (count % 4) bytes ++ rest)
with_packet last count sent bytes says rest behind is all some few channel =
    let number = count % 4 in
    let others = λ (n : ℕ). said (Some n) channel.packets channel.blocks in
    let reset = λ (gap : Bool). let parts : List BlockPart = if gap then part.Reset ∷ [] else [] in parts in
    record {
      packets = packet_for number bytes ∷ channel.packets;
      blocks = blocks_for sent ∷ channel.blocks;
      channel = record {
        packets_are = written-are number bytes rest channel.packets some (omega (arith, few)) channel.channel.packets_are;
        blocks_are = (packet_blocks number sent bytes is all (omega (arith, few)), channel.channel.blocks_are);
      };
      says_are = ap (λ n. reset (is_gap last n) ++ (flat_map block_parts (blocks_for sent) ++ others n)) (header_for-number number (length bytes))
          ∙ ap (λ gap. reset gap ++ (flat_map block_parts (blocks_for sent) ++ others number)) (no_gap count last behind)
          ∙ ap (λ ps. ps ++ others number) (blocks_say sent all)
          ∙ ap (λ ps. parts_sent sent ++ ps) channel.says_are;
    }

-- or none
with_frame : (last : Option ℕ) (count : ℕ) (bytes : List ℕ) (sent : List Sent) (says : List BlockPart) (rest : List Triplet) → IsLast count last
    → bytes ≡ sent_bytes sent → All IsSent sent → length bytes ≤ 35
    → ((next : Option ℕ) → IsLast (count + packet_count bytes) next → IsChannel next says rest)
    → IsChannel last (parts_sent sent ++ says) (channel_packet count bytes ++ rest)
with_frame last count [] sent says rest behind is all few channel =
    let same : count ≡ count + 0 = omega arith in
    subst (λ ps. IsChannel last (ps ++ says) rest) (sym (nothing_sent sent is)) (channel last (subst (λ n. IsLast n last) same behind))
with_frame last count (byte ∷ bytes) sent says rest behind is all few channel =
    with_packet last count sent (byte ∷ bytes) says rest behind is all (omega arith) few (channel (Some (count % 4)) (omega arith))

-- the triplets of channel packets are their own
pub channel_twice : (triplets : List Triplet) → channel_triplets (channel_triplets triplets) ≡ channel_triplets triplets
channel_twice [] = refl
channel_twice (t ∷ triplets) = at (starts t || continues_packet t) refl (channel_twice triplets)
  where
    at : (b : Bool) → (starts t || continues_packet t) ≡ b → channel_triplets (channel_triplets triplets) ≡ channel_triplets triplets
        → channel_triplets (cond b (t ∷ channel_triplets triplets) (channel_triplets triplets)) ≡ cond b (t ∷ channel_triplets triplets) (channel_triplets triplets)
    at true is rest = rw is (ap (λ l. t ∷ l) rest)
    at false is rest = rest

module _ (rate : Rate) (columns : Columns) (has : (frame : ℕ) → HasBlocks columns frame)
    (own : (frame : ℕ) → channel_triplets (packet_triplets (frame_packet rate frame (columns frame) (channel_packet_of columns frame))) ≡ channel_packet_of columns frame) where
  -- what the frames from one on say
  abbrev pub parts_from : ℕ → ℕ → List BlockPart
  parts_from frame zero = []
  parts_from frame (suc n) = parts_sent (has frame).sent ++ parts_from (suc frame) n

  -- the triplets of channel packets of frames are the first one's and the others'
  first_channel : (frame n : ℕ) → channel_triplets (file_triplets (column_packets rate columns frame (suc n)))
      ≡ channel_packet_of columns frame ++ channel_triplets (file_triplets (column_packets rate columns (suc frame) n))
  first_channel frame n =
      filter-append (λ t. starts t || continues_packet t) (packet_triplets (frame_packet rate frame (columns frame) (channel_packet_of columns frame)))
      (file_triplets (column_packets rate columns (suc frame) n))
      ∙ ap (λ l. l ++ channel_triplets (file_triplets (column_packets rate columns (suc frame) n))) (own frame)

  -- the frames from one on
  pub channel_from : (frame n : ℕ) (last : Option ℕ) → IsLast (packets_before columns frame) last
      → IsChannel last (parts_from frame n) (channel_triplets (file_triplets (column_packets rate columns frame n)))
  channel_from frame zero last behind = record {
    packets = [];
    blocks = [];
    channel = record { packets_are = record { strays = []; stretches = []; spelled = refl; strays_are = refl; stretches_are = refl; packets_are = refl }; blocks_are = tt };
    says_are = refl;
  }
  channel_from frame (suc n) last behind =
      let here = has frame in
      let rest = channel_triplets (file_triplets (column_packets rate columns (suc frame) n)) in
      subst (IsChannel last (parts_from frame (suc n))) (sym (first_channel frame n))
      (with_frame last (packets_before columns frame) (columns frame).blocks.items here.sent (parts_from (suc frame) n) rest behind here.blocks here.are here.few
      (channel_from (suc frame) n))

  -- all triplets of this many frames from one on, whose first packet makes no gap
  pub channel_since : (since n : ℕ) → IsChannel None (parts_from since n) (file_triplets (column_packets rate columns since n))
  channel_since since n =
      let triplets = file_triplets (column_packets rate columns since n) in
      let all = channel_from since n None tt in
      record {
        packets = all.packets;
        blocks = all.blocks;
        channel = record {
          packets_are = packets-same all.packets (channel_triplets triplets) triplets (channel_twice triplets) all.channel.packets_are;
          blocks_are = all.channel.blocks_are;
        };
        says_are = all.says_are;
      }

pub programmes_whole : ProgrammesAreWhole
programmes_whole rate columns n has carried =
    let all = channel_since rate columns has (λ frame. (carried.room frame).service) 0 n in
    record { packets = all.packets; blocks = all.blocks; channel = all.channel }
