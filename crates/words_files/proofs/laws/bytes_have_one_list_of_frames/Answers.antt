use Rattle.words_files.proofs.FramesOfLemmas.{file_frames, frames_grow, frames_of_once}
use Rattle.words_files.proofs.GotLemmas.{frames_are_caught, got}
use Rattle.words_files.specs.Verdicts.{layers_of}
use Rattle.words_files.proofs.laws.bytes_have_one_list_of_frames.Goals as goal

pub returns-clause-some : goal.returns-clause-some
returns-clause-some c = λ v bytes are. let g = got v bytes are in (g.frames, g.are)

pub returns-clause-one : goal.returns-clause-one
returns-clause-one c = λ v. frames_of_once (layers_of v)

pub returns-clause-file : goal.returns-clause-file
returns-clause-file c = λ v. file_frames (layers_of v)

pub returns-clause-more : goal.returns-clause-more
returns-clause-more c = λ v. frames_grow (layers_of v)

pub returns-clause-caught : goal.returns-clause-caught
returns-clause-caught c = λ v frames bytes all are. frames_are_caught v frames bytes all are
