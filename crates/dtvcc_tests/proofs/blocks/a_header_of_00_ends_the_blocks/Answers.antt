use Rattle.std.proofs.Common.{[], ◌∷◌, refl, arith, lit<}
use Rattle.service_blocks.specs.ServiceBlocks.{Block, ended, whole}
use Rattle.dtvcc_tests.proofs.blocks.a_header_of_00_ends_the_blocks.Goals as goal

pub returns-clause-blocks : goal.returns-clause-blocks
returns-clause-blocks c =
    let block : Block = record { header = 0x21; rest = 0x41 ∷ [] } in
    whole {block = block} (record { some = λ none. omega arith; fits = lit< tt }) refl ended
