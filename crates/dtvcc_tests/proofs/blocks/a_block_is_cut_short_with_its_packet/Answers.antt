use Rattle.std.proofs.Common.{[], ◌∷◌, arith, lit<}
use Rattle.service_blocks.specs.ServiceBlocks.{Block, cut}
use Rattle.dtvcc_tests.proofs.blocks.a_block_is_cut_short_with_its_packet.Goals as goal

pub returns-clause-blocks : goal.returns-clause-blocks
returns-clause-blocks c =
    let block : Block = record { header = 0x22; rest = 0x41 ∷ [] } in
    cut {block = block} (record { some = λ none. omega arith; fits = lit< tt }) (lit< tt)
