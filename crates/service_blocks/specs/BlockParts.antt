-- Believed: the program's answer stands on these definitions.
-- What service blocks say (CTA-708-E, section 6.2): bytes of services.
use Rattle.std.specs.Prelude.{ℕ, ◌/◌, ◌%◌, ◌==◌, nat_lt, if◌then◌else◌, List, [], ◌∷◌, map, Option, Some, None}
use Rattle.service_blocks.specs.declared.parts.BlockPart.{BlockPart}
use Rattle.service_blocks.specs.declared.parts.BlockPart.TheVariants as part
use Rattle.service_blocks.specs.ServiceBlocks.{Block, is_extended}

-- the service of a header's number: none for 0, whose bytes are read past
abbrev pub standard_service : ℕ → Option ℕ
standard_service number = if number == 0 then None else Some number

-- the service of a second header byte, its low six bits: the numbers of such services begin at 7, and the bytes of a block with one
-- below 7 are read past
abbrev pub extended_service : ℕ → Option ℕ
extended_service second = if nat_lt (second % 64) 7 then None else Some (second % 64)

-- bytes of a service, or of none
abbrev pub service_parts : Option ℕ → List ℕ → List BlockPart
service_parts None bytes = []
service_parts (Some service) bytes = map (part.Byte service) bytes

-- bytes after a header that a second header byte follows
abbrev pub extended_parts : List ℕ → List BlockPart
extended_parts [] = []
extended_parts (second ∷ bytes) = service_parts (extended_service second) bytes

-- a block
abbrev pub block_parts : Block → List BlockPart
block_parts block =
    if is_extended block.header then extended_parts block.rest else service_parts (standard_service (block.header / 32)) block.rest
