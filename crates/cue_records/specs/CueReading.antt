-- Between crates: the program's answer stands on none of these definitions.
-- A cue whose records are taken one by one.
use Rattle.std.specs.Prelude.{◌≡◌, ℕ, ◌+◌, List, [], ◌++◌, ⊤, length, true, is_some, Result, Ok, Err}
use Rattle.cue_form.specs.Begun.{Begun, IsBegun}
use Rattle.cue_form.specs.Reading.{read_from}
use Rattle.cue_form.specs.Records.{Record}
use Rattle.cue_form.specs.declared.fault.CueFault.{CueFault}
use Rattle.cue_form.specs.declared.fault.CueFault.TheVariants as fault
use Rattle.cue_types.specs.Listing.{Listing}
use Rattle.cue_types.specs.declared.head.Head.{Head}
use Rattle.cue_records.specs.CueApart.{AreOfCue, begun_with, read_apart}
use Rattle.cue_records.specs.declared.cue_reader.CueReader.{CueReader}

-- the records of a cue begin this list, which has the head and the cue alone; it continues with what follows
pub record LeadsTo (head : Head) (number : ℕ) (records : List Record) (b : Begun) : Type 0 where
  pub begun : IsBegun b
  pub alone : b ≡ begun_with head [] [] b.last
  pub some : is_some b.last ≡ true
  pub reads : (rest : List Record) → read_apart head number (records ++ rest) ≡ read_from b (number + length records) rest

-- this fault is due, unless memory ran out; it is no limit
abbrev pub IsDue : Result Listing CueFault → CueFault → Type 0
IsDue due (fault.Memory error) = ⊤
IsDue due (fault.Limit which) = ⊥
IsDue due (fault.Malformed number place why) = due ≡ Err (fault.Malformed number place why)

-- the records of a cue begin this list, or have this fault whatever follows
abbrev pub HasBegun : Head → ℕ → List Record → Result Begun CueFault → Type 0
HasBegun head number records (Ok b) = LeadsTo head number records b
HasBegun head number records (Err fault) = (rest : List Record) → IsDue (read_apart head number (records ++ rest)) fault

-- a reader took these records of a cue, the first of them of this number, of a list that has this head
pub record HasTaken (head : Head) (number : ℕ) (records : List Record) (reader : CueReader) : Type 0 where
  pub of_cue : AreOfCue records
  pub begun : HasBegun head number records reader.read
