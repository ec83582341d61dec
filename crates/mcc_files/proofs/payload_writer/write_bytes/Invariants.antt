use Rattle.std.proofs.Common.{◌≡◌, ◌≤◌, ◌+◌, ◌*◌, ◌++◌, ℕ, List, length}
use Rattle.arrayvec.specs.ArrayVec.{array_vec_len}
use Rattle.mcc_files.specs.PayloadWriting.{IsWritten}
use Rattle.mcc_files.proofs.payload_writer.write_bytes.Given as goal

-- whatever is written of the rest, after what was written it is written of all bytes
abbrev pub invariant-loop-rest : goal.invariant-loop-rest
invariant-loop-rest g l =
    (written : List ℕ) × (l.out.items ≡ l.fn.out.items ++ written) × ((text : List ℕ) → IsWritten l.rest text → IsWritten l.fn.bytes (written ++ text))
    × (array_vec_len l.out + 2 * length l.rest ≤ array_vec_len l.fn.out + 2 * length l.fn.bytes)

abbrev pub decreases-loop-rest : goal.decreases-loop-rest
decreases-loop-rest g l = length l.rest
