-- How reading is answered.
use Rattle.std.proofs.Common.{ℕ, List, Option, Result, Ok, Err}
use Rattle.cc_base.specs.declared.limit_of.LimitOf.TheVariants as limit
use Rattle.line21_codes.specs.declared.pairs.Pair.{Pair}
use Rattle.scc_files.specs.Offences.{FileAnswers}
use Rattle.scc_files.specs.Reading.{AnswersPairs, read_file}
use Rattle.scc_files.specs.declared.fault.SccFault.{SccFault}
use Rattle.scc_files.specs.declared.fault.SccFault.TheVariants as fault
use Rattle.scc_files.proofs.First.{first_offence}
use Rattle.scc_files.proofs.Stays.{none_is}
use Rattle.scc_files.proofs.Timed.{file_sound}

pub file_answers : (opening : Option ℕ) (bytes : List ℕ) (answer : Result (List (ℕ × Pair)) SccFault) → AnswersPairs (read_file opening bytes) answer → FileAnswers opening bytes answer
file_answers opening bytes (Ok pairs) is = (file_sound opening pairs bytes is.0, is.1)
file_answers opening bytes (Err (fault.Memory error)) is = tt
file_answers opening bytes (Err (fault.Limit limit.Bytes)) is = is
file_answers opening bytes (Err (fault.Limit limit.Frames)) is = (is.0, file_sound opening is.0 bytes is.1, is.2)
file_answers opening bytes (Err (fault.Limit limit.Cues)) is = is
file_answers opening bytes (Err (fault.Limit limit.Packet)) is = is
file_answers opening bytes (Err (fault.Limit limit.Day)) is = is
file_answers opening bytes (Err (fault.Malformed refusal)) is = (first_offence opening bytes refusal is, λ pairs file. none_is opening bytes refusal pairs is file)
