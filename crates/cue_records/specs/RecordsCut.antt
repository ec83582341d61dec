-- Between crates: the program's answer stands on none of these definitions.
-- Records that are found in bytes as they come.
use Rattle.std.specs.Prelude.{◌≡◌, ◌<◌, ◌≤◌, ℕ, Bool, if◌then◌else◌, List, [], ◌∷◌, ◌++◌, length, take, Option, Some, None}
use Rattle.csv.specs.Reading.{default_config, records}
use Rattle.csv.specs.declared.parser.State.TheVariants as st
use Rattle.cue_form.specs.Records.{Record}
use Rattle.cue_records.specs.RecordEnds.{EndsRecord, StaysOpen, csv_state}
use Rattle.cue_records.specs.declared.record_reader.RecordReader.{RecordReader}

-- a reader holds these bytes of a record that is open, after a line feed
pub record IsOpen (begun : List ℕ) (reader : RecordReader) : Type 0 where
  pub held : reader.held.items ≡ 10 ∷ begun
  pub state : StaysOpen st.StartRecord begun (csv_state reader.state)

-- of the bytes that a reader was fed these records have ended: whatever follows, the records of all are these, and after them the
-- records of the open bytes and of what follows
pub record HasCut (bytes : List ℕ) (rows : List Record) (reader : RecordReader) : Type 0 where
  pub begun : List ℕ
  pub is_open : IsOpen begun reader
  pub follows : (rest : List ℕ) → records default_config (bytes ++ rest) ≡ rows ++ records default_config (begun ++ rest)

-- a record ended after this many of the bytes, and this is it; or none did
abbrev pub Cuts : List ℕ → List Record → List ℕ → Record → Option ℕ → RecordReader → Type 0
Cuts before rows bytes row None new = HasCut (before ++ bytes) rows new
Cuts before rows bytes row (Some used) new = (0 < used) × (used ≤ length bytes) × HasCut (before ++ take used bytes) (rows ++ row ∷ []) new

-- at the end of the bytes there was a last record, which this is, or none
abbrev pub EndsRows : List ℕ → List Record → Record → Bool → Type 0
EndsRows bytes rows row found = records default_config bytes ≡ rows ++ (if found then row ∷ [] else [])

-- bytes were held, up to the end of a record at most
abbrev pub Gathers : List ℕ → List ℕ → Option ℕ → RecordReader → Type 0
Gathers begun bytes None new = IsOpen (begun ++ bytes) new
Gathers begun bytes (Some used) new =
    (0 < used) × (used ≤ length bytes) × (new.held.items ≡ 10 ∷ (begun ++ take used bytes)) × EndsRecord st.StartRecord (begun ++ take used bytes)
