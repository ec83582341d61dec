-- Believed in part: the library's answers stand on some of these definitions.
-- How service blocks are read (CTA-708-E, section 6.2), one part of the channel packets after another. A byte is judged by the
-- bytes of the open block before it: a header is refused where the packet has fewer bytes left than it says.
use Rattle.std.specs.Prelude.{◌≡◌, ℕ, ◌+◌, ◌/◌, ◌<◌, ◌==◌, nat_le, if◌then◌else◌, Bool, false, List, [], ◌∷◌, ◌++◌, length, Option, Some, None}
use Rattle.cc_base.specs.declared.step.Step.{Step}
use Rattle.cc_base.specs.declared.step.Step.TheVariants.{Nothing, One, Refuse}
use Rattle.cc_base.specs.declared.why.Why.TheVariants as why
use Rattle.cc_base.specs.Syntax.{Syntax}
use Rattle.channel_packets.specs.declared.parts.PacketPart.{PacketPart}
use Rattle.channel_packets.specs.declared.parts.PacketPart.TheVariants.{Header, Byte}
use Rattle.service_blocks.specs.declared.parts.BlockPart.{BlockPart}
use Rattle.service_blocks.specs.declared.parts.BlockPart.TheVariants as part
use Rattle.service_blocks.specs.ServiceBlocks.{is_extended, rest_of}
use Rattle.service_blocks.specs.BlockParts.{extended_service, standard_service}

-- what is open between two parts: how many bytes the packet has left by the last part that was taken, if there was one, and the
-- bytes of the open block, its header first; a header 00 stays open, since it ends the packet's blocks
pub record Open : Type 0 where
  pub left : Option ℕ
  pub block : List ℕ

-- no packet has come
abbrev pub nothing_open : Open
nothing_open = record { left = None; block = [] }

-- the byte after which this many are left is the next one of the packet
abbrev pub is_next : Option ℕ → ℕ → Bool
is_next None left = false
is_next (Some before) left = before == left + 1

-- what is made of a byte of a service, or of none
abbrev pub judge_service : Option ℕ → ℕ → Step BlockPart
judge_service None byte = Nothing
judge_service (Some service) byte = One (part.Byte service byte)

-- what is made of a byte after these ones, which follow a header that a second header byte follows
abbrev pub judge_extended : List ℕ → ℕ → Step BlockPart
judge_extended [] byte = Nothing
judge_extended (second ∷ bytes) byte = judge_service (extended_service second) byte

-- what is made of a byte of a packet after the open block's, where this many follow it
abbrev pub judge_byte : List ℕ → ℕ → ℕ → Step BlockPart
judge_byte [] left byte = if nat_le (rest_of byte) left then Nothing else Refuse why.Overrun
judge_byte (header ∷ rest) left byte =
    if header == 0x00 then Nothing
    else if is_extended header then judge_extended rest byte
    else judge_service (standard_service (header / 32)) byte

-- a header and the bytes that have follow it: no block is open where these are all
abbrev pub open_block : ℕ → List ℕ → List ℕ
open_block header rest = if nat_le (rest_of header) (length rest) then [] else header ∷ rest

-- the open block after one more byte
abbrev pub block_after : List ℕ → ℕ → List ℕ
block_after [] byte = if byte == 0x00 then byte ∷ [] else open_block byte []
block_after (header ∷ rest) byte = if header == 0x00 then header ∷ [] else open_block header (rest ++ byte ∷ [])

-- what is made of a part; a byte that belongs to no packet is passed over
abbrev pub judge_part : Open → PacketPart → Step BlockPart
judge_part front (Header gap size) = if gap then One part.Reset else Nothing
judge_part front (Byte value left) = if is_next front.left left then judge_byte front.block left value else Nothing

-- what is open after one more part
abbrev pub open_after : Open → PacketPart → Open
open_after front (Header gap size) = record { left = Some size; block = [] }
open_after front (Byte value left) =
    if is_next front.left left then (record { left = Some left; block = block_after front.block value }) else front

-- how parts are read: what is made of each, and what is open after it
abbrev pub block_syntax : Syntax Open PacketPart BlockPart
block_syntax = record { start = nothing_open; judge = judge_part; after = open_after }

-- the part is a header of a block that says more bytes than its packet has left after it
pub record IsOverrun (front : Open) (item : PacketPart) : Type 0 where
  pub value : ℕ
  pub left : ℕ
  pub is_byte : item ≡ Byte value left
  pub next : front.left ≡ Some (left + 1)
  pub header : front.block ≡ []
  pub passes : left < rest_of value
