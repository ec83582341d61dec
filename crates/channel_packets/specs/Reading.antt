-- Believed: the library's answers stand on these definitions.
-- How channel packets are read (CTA-708-E, section 5), one triplet after another. A triplet is judged by the number of the last
-- packet, and by how many of its bytes are left. None is refused.
use Rattle.std.specs.Prelude.{ℕ, ◌-◌, ◌==◌, if◌then◌else◌, Option, Some, None}
use Rattle.cc_base.specs.declared.step.Step.{Step}
use Rattle.cc_base.specs.declared.step.Step.TheVariants.{Nothing, One, Two}
use Rattle.cc_base.specs.Syntax.{Syntax}
use Rattle.cc_data.specs.declared.triplet.Triplet.{Triplet}
use Rattle.channel_packets.specs.declared.parts.PacketPart.{PacketPart}
use Rattle.channel_packets.specs.declared.parts.PacketPart.TheVariants as part
use Rattle.channel_packets.specs.ChannelPackets.{continues_packet, is_gap, number_of, size_of, starts}

-- what is open between two triplets: the number of the last packet, if there was one, and how many of its bytes are left
pub record Open : Type 0 where
  pub last : Option ℕ
  pub left : ℕ

-- no packet has come
abbrev pub nothing_open : Open
nothing_open = record { last = None; left = 0 }

-- what is made of two more bytes, where this many are left
abbrev pub judge_bytes : ℕ → ℕ → ℕ → Step PacketPart
judge_bytes left first second =
    if left == 0 then Nothing
    else if left == 1 then One (part.Byte first 0)
    else Two (part.Byte first (left - 1)) (part.Byte second (left - 2))

-- what is made of a triplet
abbrev pub judge_triplet : Open → Triplet → Step PacketPart
judge_triplet front triplet =
    if starts triplet
    then Two (part.Header (is_gap front.last (number_of triplet.a)) (size_of triplet.a)) (part.Byte triplet.b (size_of triplet.a - 1))
    else if continues_packet triplet then judge_bytes front.left triplet.a triplet.b
    else Nothing

-- what is open after one more triplet
abbrev pub open_after : Open → Triplet → Open
open_after front triplet =
    if starts triplet then (record { last = Some (number_of triplet.a); left = size_of triplet.a - 1 })
    else if continues_packet triplet then (record { last = front.last; left = front.left - 2 })
    else front

-- how triplets are read: what is made of each, and what is open after it
abbrev pub packet_syntax : Syntax Open Triplet PacketPart
packet_syntax = record { start = nothing_open; judge = judge_triplet; after = open_after }
