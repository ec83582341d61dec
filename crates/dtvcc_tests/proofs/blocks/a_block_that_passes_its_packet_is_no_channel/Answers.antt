use Rattle.dtvcc_tests.proofs.blocks.a_block_that_passes_its_packet_is_no_channel.Goals as goal

pub returns : goal.returns
returns c = λ (_, (refused, _)). refused
