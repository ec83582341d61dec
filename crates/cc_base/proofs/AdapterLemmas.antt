-- What the calls of a writer come to.
use Rattle.std.proofs.Common.{◌≡◌, ◌≤◌, arith, zero, suc, ℕ, List, Option, Some, None, Result, Ok, Err, length, take}
use Rattle.std.specs.Io.{WritesAtMost}
use Rattle.std.specs.Io.KnownBytes.{Appends, WriteAppends}
use Rattle.std.specs.Result.{result_ok}
use Rattle.cc_base.specs.Adapters.{write_answer, write_count}
use Rattle.cc_base.specs.Streams.{Rose}

-- a write of some bytes took them, and no fault was counted
pub record IsWritten (b c : Option (List ℕ)) (n before now : ℕ) (buf : List ℕ) : Type 0 where
  pub bound : n ≤ length buf
  pub bytes : Appends b c (take n buf)
  pub count : now ≡ before

pub wrote_some : {E : Type 0} (b c : Option (List ℕ)) (r : Result ℕ E) (n before now : ℕ) (buf : List ℕ) → WritesAtMost r buf → WriteAppends b c r buf
    → Some n ≡ write_answer (result_ok r) → now ≡ write_count (result_ok r) before → IsWritten b c n before now buf
wrote_some b c (Ok zero) n before now buf bound bytes answer count = absurd cc
wrote_some b c (Ok (suc m)) n before now buf bound bytes answer count =
    let same : n ≡ suc m = cc in
    record { bound = rw same bound; bytes = rw same bytes; count = count }
wrote_some b c (Err e) n before now buf bound bytes answer count = absurd cc

-- a write that took none is a fault
pub wrote_none : {E : Type 0} (r : Result ℕ E) (before now : ℕ) → None ≡ write_answer (result_ok r) → now ≡ write_count (result_ok r) before → Rose before now
wrote_none (Ok zero) before now answer count = omega arith
wrote_none (Ok (suc m)) before now answer count = absurd cc
wrote_none (Err e) before now answer count = omega arith
