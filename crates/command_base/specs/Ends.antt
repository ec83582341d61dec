-- Believed in part: the program's answer stands on some of these definitions.
-- What clauses see of a run's input and output at a moment.
use Rattle.std.specs.Prelude.{◌≡◌, ℕ, List, Option}
use Rattle.std.specs.Io.KnownBytes.{Keeps}

-- the bytes that the input has left and the ones that the output has written, where they are known, and the counts of their faults
pub record Ends : Type 0 where
  pub left : Option (List ℕ)
  pub read_faults : ℕ
  pub written : Option (List ℕ)
  pub write_faults : ℕ

abbrev pub ends : Option (List ℕ) → ℕ → Option (List ℕ) → ℕ → Ends
ends left read_faults written write_faults =
    record { left = left; read_faults = read_faults; written = written; write_faults = write_faults }

-- neither count of faults rose
pub record IsSteady (old new : Ends) : Type 0 where
  pub reads : new.read_faults ≡ old.read_faults
  pub writes : new.write_faults ≡ old.write_faults

-- nothing was put
abbrev pub PutsNothing : Ends → Ends → Type 0
PutsNothing old new = (new.write_faults ≡ old.write_faults) × Keeps old.written new.written
