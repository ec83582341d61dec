-- Believed: the program's answer stands on these definitions.
-- The records of a file: the fields that CSV (RFC 4180, as the crate csv reads it) finds in the bytes.
use Rattle.std.specs.Prelude.{ℕ, zero, suc, List, [], ◌∷◌}
use Rattle.csv.specs.Reading.{records, default_config, strip_bom}

-- the bytes of a field
abbrev pub Field : Type 0
Field = List ℕ

-- the fields of a record
abbrev pub Record : Type 0
Record = List Field

-- the field at a place, counted from 0; none is empty
abbrev pub field : Record → ℕ → Field
field [] place = []
field (f ∷ fs) zero = f
field (f ∷ fs) (suc place) = field fs place

-- the records of these bytes, a byte order mark at the start taken off; blank lines are no records
abbrev pub records_of : List ℕ → List Record
records_of bytes = records default_config (strip_bom bytes)
