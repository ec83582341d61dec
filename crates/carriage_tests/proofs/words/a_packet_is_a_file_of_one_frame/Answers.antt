use Rattle.carriage_tests.proofs.WordExamples.{is_file}
use Rattle.carriage_tests.proofs.words.a_packet_is_a_file_of_one_frame.Goals as goal

pub returns : goal.returns
returns c = is_file
