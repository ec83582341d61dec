-- Believed: the program's answer stands on these definitions.
-- What is written of a service block (CTA-708-E, section 6.2): services 1 to 6 have their number in the header, and those from 7 on
-- in a second header byte, whose top two bits are zero.
use Rattle.std.specs.Prelude.{ℕ, ◌+◌, ◌*◌, nat_lt, if◌then◌else◌, List, ◌∷◌, length}
use Rattle.service_blocks.specs.ServiceBlocks.{Block}

-- the block of these bytes of a service
abbrev pub block_for : ℕ → List ℕ → Block
block_for service bytes =
    if nat_lt service 7 then (record { header = 32 * service + length bytes; rest = bytes })
    else (record { header = 32 * 7 + length bytes; rest = service ∷ bytes })

-- its bytes
abbrev pub block_written : ℕ → List ℕ → List ℕ
block_written service bytes = (block_for service bytes).header ∷ (block_for service bytes).rest
