use Rattle.carriage_tests.proofs.WordExamples.{cut_anywhere}
use Rattle.carriage_tests.proofs.words.a_packet_cut_anywhere_is_cut_short.Goals as goal

pub returns : goal.returns
returns c = cut_anywhere
