use Rattle.words_files.proofs.FrameLemmas.{one_list}
use Rattle.words_files.proofs.laws.files_have_one_list_of_frames.Goals as goal

pub returns : goal.returns
returns c = one_list
