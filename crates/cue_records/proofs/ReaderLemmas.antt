-- A reader of records holds the bytes of the one that is open.
use Rattle.std.proofs.Common.{◌≡◌, ◌∙◌, ℕ, Bool, List, [], ◌∷◌, ◌++◌, Some, None, Result, Ok, Err, IfOk, refl, sym, ap, append_assoc}
use Rattle.std.proofs.lemmas.List.{append-nil}
use Rattle.csv.specs.Machine.{next_record, step}
use Rattle.csv.specs.Reading.{default_config, records, strip_bom}
use Rattle.csv.specs.declared.parser.State.TheVariants as st
use Rattle.cue_form.specs.Records.{Record}
use Rattle.cue_records.specs.RecordEnds.{EndsRecord, GivesRead, LeadsTo, csv_state}
use Rattle.cue_records.specs.RecordsCut.{EndsRows, HasCut, IsOpen}
use Rattle.cue_records.specs.declared.record_reader.RecordReader.{RecordReader}
use Rattle.cue_records.proofs.CutLemmas.{ends_more, last_records, record_read, records_after, stays_more}

-- a byte more is held
longer_held : (begun front : List ℕ) (byte : ℕ) (held : List ℕ) → held ≡ (10 ∷ (begun ++ front)) ++ byte ∷ [] → held ≡ 10 ∷ (begun ++ (front ++ byte ∷ []))
longer_held begun front byte held is = is ∙ ap (λ (xs : List ℕ). 10 ∷ xs) (append_assoc begun front (byte ∷ []))

pub more_open : (begun front : List ℕ) (byte : ℕ) (old new : RecordReader) → IsOpen (begun ++ front) old → new.held.items ≡ old.held.items ++ byte ∷ []
    → LeadsTo (step default_config (csv_state old.state) byte) (Some new.state) → IsOpen (begun ++ (front ++ byte ∷ [])) new
more_open begun front byte old new is held leads = record {
  held = longer_held begun front byte new.held.items (held ∙ ap (λ (xs : List ℕ). xs ++ byte ∷ []) is.held);
  state = rw (← append_assoc begun front (byte ∷ [])) (stays_more st.StartRecord (csv_state old.state) (csv_state new.state) (begun ++ front) byte is.state leads.0 leads.1);
}

pub ended_held : (begun front : List ℕ) (byte : ℕ) (old new : RecordReader) → IsOpen (begun ++ front) old → new.held.items ≡ old.held.items ++ byte ∷ []
    → LeadsTo (step default_config (csv_state old.state) byte) None
    → (new.held.items ≡ 10 ∷ (begun ++ (front ++ byte ∷ []))) × EndsRecord st.StartRecord (begun ++ (front ++ byte ∷ []))
ended_held begun front byte old new is held leads = (
  longer_held begun front byte new.held.items (held ∙ ap (λ (xs : List ℕ). xs ++ byte ∷ []) is.held),
  rw (← append_assoc begun front (byte ∷ [])) (ends_more st.StartRecord (csv_state old.state) (begun ++ front) byte is.state leads),
)

-- a text that begins with a line feed has no byte order mark, and its first record is the rest's first record
pub after_line_feed : (text begun : List ℕ) (found : Bool) (row : Record) → text ≡ 10 ∷ begun
    → GivesRead (next_record default_config st.StartRecord [] [] (strip_bom text)) found row → GivesRead (next_record default_config st.StartRecord [] [] begun) found row
unfolding next_record strip_bom
after_line_feed text [] found row is gives = rw is at gives
after_line_feed text (a ∷ []) found row is gives = rw is at gives
after_line_feed text (a ∷ b ∷ rest) found row is gives = rw is at gives

-- a record that ended was found
pub found_record : (xs : List ℕ) (found : Bool) (row : Record) → EndsRecord st.StartRecord xs → GivesRead (next_record default_config st.StartRecord [] [] xs) found row
    → (rest : List ℕ) → records default_config (xs ++ rest) ≡ row ∷ records default_config rest
found_record xs found row ends gives rest =
    let (read, is) = record_read st.StartRecord [] [] xs ends in
    let (is_found, fields) = rw is.alone at gives in
    rw fields (records_after xs read is rest)

-- of the bytes before and those fed, a record more has ended
pub cut_more : (before front begun : List ℕ) (rows : List Record) (row : Record) (found : Bool) (new : RecordReader)
    → ((rest : List ℕ) → records default_config (before ++ rest) ≡ rows ++ records default_config (begun ++ rest))
    → EndsRecord st.StartRecord (begun ++ front) → GivesRead (next_record default_config st.StartRecord [] [] (begun ++ front)) found row → IsOpen [] new
    → HasCut (before ++ front) (rows ++ row ∷ []) new
cut_more before front begun rows row found new follows ends gives is_open = record {
  begun = [];
  is_open = is_open;
  follows = λ rest.
      ap (records default_config) (append_assoc before front rest) ∙ follows (front ++ rest)
      ∙ ap (λ (xs : List ℕ). rows ++ records default_config xs) (sym (append_assoc begun front rest))
      ∙ ap (λ (more : List Record). rows ++ more) (found_record (begun ++ front) found row ends gives rest)
      ∙ sym (append_assoc rows (row ∷ []) (records default_config rest));
}

-- or none
pub cut_open : (before bytes begun : List ℕ) (rows : List Record) (new : RecordReader)
    → ((rest : List ℕ) → records default_config (before ++ rest) ≡ rows ++ records default_config (begun ++ rest)) → IsOpen (begun ++ bytes) new
    → HasCut (before ++ bytes) rows new
cut_open before bytes begun rows new follows is_open = record {
  begun = begun ++ bytes;
  is_open = is_open;
  follows = λ rest.
      ap (records default_config) (append_assoc before bytes rest) ∙ follows (bytes ++ rest)
      ∙ ap (λ (xs : List ℕ). rows ++ records default_config xs) (sym (append_assoc begun bytes rest));
}

-- at the end of the bytes
pub cut_ends : (bytes : List ℕ) (rows : List Record) (reader : RecordReader) (row : Record) (found : Bool) → (cut : HasCut bytes rows reader)
    → GivesRead (next_record default_config st.StartRecord [] [] cut.begun) found row → EndsRows bytes rows row found
cut_ends bytes rows reader row found cut gives =
    ap (records default_config) (sym (append-nil bytes)) ∙ cut.follows [] ∙ ap (λ (xs : List ℕ). rows ++ records default_config xs) (append-nil cut.begun)
    ∙ ap (λ (more : List Record). rows ++ more) (last_records (csv_state reader.state) cut.begun found row cut.is_open.state gives)

pub ends_if_ok : {E : Type 0} (bytes : List ℕ) (rows : List Record) (reader : RecordReader) (row : Record) (r : Result Bool E) → (cut : HasCut bytes rows reader)
    → IfOk r (λ found. GivesRead (next_record default_config st.StartRecord [] [] cut.begun) found row) → IfOk r (EndsRows bytes rows row)
ends_if_ok bytes rows reader row (Ok found) cut gives = cut_ends bytes rows reader row found cut gives
ends_if_ok bytes rows reader row (Err error) cut gives = tt

-- before the first byte
pub cut_none : (new : RecordReader) → IsOpen [] new → HasCut [] [] new
cut_none new is_open = record { begun = []; is_open = is_open; follows = λ rest. refl }
