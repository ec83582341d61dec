-- Between crates: the program's answer stands on none of these definitions.
-- Where a record of CSV ends.
use Rattle.std.specs.Prelude.{◌≡◌, ℕ, Bool, true, false, List, [], ◌∷◌, Option, Some, None}
use Rattle.std.specs.Bool.{MatchBool}
use Rattle.csv.specs.Machine.{Read, is_end, step}
use Rattle.csv.specs.Reading.{default_config}
use Rattle.csv.specs.declared.parser.Action.{Action}
use Rattle.csv.specs.declared.parser.State.{State}
use Rattle.csv.specs.declared.parser.State.TheVariants as st
use Rattle.cue_records.specs.declared.record_state.RecordState.{RecordState}
use Rattle.cue_records.specs.declared.record_state.RecordState.TheVariants as own

-- the state of CSV's reader
abbrev pub csv_state : RecordState → State
csv_state own.Start = st.StartRecord
csv_state own.Field = st.StartField
csv_state own.Plain = st.InField
csv_state own.Quoted = st.InQuoted
csv_state own.Quote = st.AfterQuote

-- a byte ends the record, or leads to this state
abbrev pub LeadsTo : State × Action → Option RecordState → Type 0
LeadsTo to None = is_end to.1 ≡ true
LeadsTo to (Some next) = (is_end to.1 ≡ false) × (to.0 ≡ csv_state next)

-- no record ends with the bytes, and they lead from one state to another
unfoldable pub StaysOpen : State → List ℕ → State → Type 0
StaysOpen from [] to = from ≡ to
StaysOpen from (byte ∷ bytes) to = (is_end (step default_config from byte).1 ≡ false) × StaysOpen (step default_config from byte).0 bytes to

-- a record ends with the last of the bytes, and none before
unfoldable pub EndsRecord : State → List ℕ → Type 0
EndsRecord from [] = ⊥
EndsRecord from (byte ∷ bytes) = MatchBool (is_end (step default_config from byte).1) (bytes ≡ []) (EndsRecord (step default_config from byte).0 bytes)

-- what was read of a text: its first record, or none
abbrev pub GivesRead : Option Read → Bool → List (List ℕ) → Type 0
GivesRead None found fields = found ≡ false
GivesRead (Some read) found fields = (found ≡ true) × (fields ≡ read.0)
