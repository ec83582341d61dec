-- Believed in part: the library's answers stand on some of these definitions.
-- What a reader of service blocks keeps: how many bytes the packet has left, and which byte of a block comes next.
use Rattle.std.specs.Prelude.{◌≡◌, ℕ, ◌-◌, ◌/◌, ◌%◌, ◌==◌, if◌then◌else◌, List, [], ◌∷◌, length, Option}
use Rattle.cc_base.specs.declared.refusal.Refusal.{Refusal}
use Rattle.cc_base.specs.Syntax.{HasTaken}
use Rattle.channel_packets.specs.declared.parts.PacketPart.{PacketPart}
use Rattle.service_blocks.specs.declared.open_block.Next.{Next}
use Rattle.service_blocks.specs.declared.open_block.Next.TheVariants as next
use Rattle.service_blocks.specs.declared.open_block.OpenBlock.{OpenBlock}
use Rattle.service_blocks.specs.declared.reader.BlockReader.{BlockReader}
use Rattle.service_blocks.specs.ServiceBlocks.{is_extended}
use Rattle.service_blocks.specs.BlockParts.{extended_service, standard_service}
use Rattle.service_blocks.specs.Reading.{Open, block_syntax}

-- what comes next after these bytes, which follow a header of this size that a second header byte follows
abbrev pub next_of_extended : ℕ → List ℕ → Next
next_of_extended size [] = next.Second size
next_of_extended size (second ∷ bytes) = next.Body (extended_service second) (size - length bytes)

-- what comes next after the open block's bytes
abbrev pub next_of : List ℕ → Next
next_of [] = next.Header
next_of (header ∷ rest) =
    if header == 0x00 then next.Ignored
    else if is_extended header then next_of_extended (header % 32) rest
    else next.Body (standard_service (header / 32)) (header % 32 - length rest)

-- it keeps what is open
pub record Keeps (front : Open) (block : OpenBlock) : Type 0 where
  pub left : block.left ≡ front.left
  pub next : block.next ≡ next_of front.block

-- the reader was fed these parts, and refused none of them
abbrev pub HasRead : List PacketPart → BlockReader → Type 0
HasRead parts reader = HasTaken block_syntax Keeps parts reader.fed

-- the refusal that it keeps
abbrev pub kept_refusal : BlockReader → Option Refusal
kept_refusal reader = reader.fed.refusal
