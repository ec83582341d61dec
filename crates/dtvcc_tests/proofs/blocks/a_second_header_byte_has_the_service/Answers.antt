use Rattle.std.proofs.Common.{[], ◌∷◌, refl, arith, lit<}
use Rattle.channel_packets.proofs.CutLemmas.{packets_of-are}
use Rattle.service_blocks.specs.ServiceBlocks.{Block, end, whole}
use Rattle.dtvcc_tests.proofs.blocks.a_second_header_byte_has_the_service.Goals as goal

pub returns-clause-channel : goal.returns-clause-channel
returns-clause-channel c =
    let block : Block = record { header = 0xE1; rest = 0x0A ∷ 0x41 ∷ [] } in record {
      packets_are = packets_of-are _;
      blocks_are = (whole {block = block} (record { some = λ none. omega arith; fits = lit< tt }) refl end, tt);
    }
