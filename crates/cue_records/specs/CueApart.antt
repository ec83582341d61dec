-- Between crates: the program's answer stands on none of these definitions.
-- The records of one cue by themselves: they are read in the light of the list's head alone.
use Rattle.std.specs.Prelude.{◌≡◌, ℕ, ◌<◌, ◌≤◌, false, List, [], ◌∷◌, ◌++◌, ⊤, length, option_to_list, Option, Some, None, Result, Ok, Err}
use Rattle.std.specs.List.{AllByRecursion}
use Rattle.cue_form.specs.Begun.{AreOfVersion, Begun, awaits_run}
use Rattle.cue_form.specs.Form.{record_kind_of}
use Rattle.cue_form.specs.Reading.{on_ok, read_from}
use Rattle.cue_form.specs.Records.{Record, field}
use Rattle.cue_form.specs.declared.fault.CueFault.{CueFault}
use Rattle.cue_form.specs.declared.fault.CueFault.TheVariants as fault
use Rattle.cue_form.specs.declared.record_kind.RecordKind.{RecordKind}
use Rattle.cue_form.specs.declared.record_kind.RecordKind.TheVariants as record_kind
use Rattle.cue_types.specs.Cues.{IsCueFormed}
use Rattle.cue_types.specs.Listing.{IsListRate, Listing, most_cues, most_frames}
use Rattle.cue_types.specs.declared.cue.Cue.{Cue}
use Rattle.cue_types.specs.declared.head.Head.{Head}
use Rattle.cue_types.specs.declared.list.Share.{Share}
use Rattle.cue_records.specs.declared.record_role.RecordRole.{RecordRole}
use Rattle.cue_records.specs.declared.record_role.RecordRole.TheVariants as role

-- what a kind word says of cues
abbrev pub role_of : Option RecordKind → RecordRole
role_of (Some record_kind.Pop) = role.Opens
role_of (Some record_kind.Paint) = role.Opens
role_of (Some record_kind.Roll) = role.Opens
role_of (Some record_kind.Win) = role.Opens
role_of (Some record_kind.Attr) = role.Continues
role_of (Some record_kind.Run) = role.Continues
role_of (Some record_kind.Colour) = role.Continues
role_of _ = role.Other

-- the kind of a record
abbrev pub kind_of : Record → Option RecordKind
kind_of r = record_kind_of (field r 0)

-- the records of one cue: the first opens it, the others continue it
abbrev pub AreOfCue : List Record → Type 0
AreOfCue [] = ⊥
AreOfCue (r ∷ rs) = (role_of (kind_of r) ≡ role.Opens) × AllByRecursion (λ (more : Record). role_of (kind_of more) ≡ role.Continues) rs

-- a head in its ranges
pub record IsHead (head : Head) : Type 0 where
  pub rate : IsListRate head.rate
  pub some : 1 ≤ head.frames
  pub frames : head.frames ≤ most_frames

-- a list that is begun
abbrev pub begun_with : Head → List Share → List Cue → Option Cue → Begun
begun_with head shares earlier last = record { head = Some head; shares = shares; earlier = earlier; last = last }

-- the list of these cues
abbrev pub list_of : Head → List Share → List Cue → Listing
list_of head shares cues = record { rate = head.rate; frames = head.frames; shares = shares; cues = cues }

-- the list that has the head alone and these records, the first of them of this number
abbrev pub read_apart : Head → ℕ → List Record → Result Listing CueFault
read_apart head number records = read_from (begun_with head [] [] None) number records

-- the records of one cue are read after the records of a list whose last cue has a run and which has room for one more. They give the
-- list with the cue that they give by themselves, or the fault that they have by themselves
abbrev pub CueIsReadApart : Type 0
CueIsReadApart = (head : Head) (shares : List Share) (earlier : List Cue) (last : Option Cue) (number : ℕ) (records : List Record)
    → AreOfCue records → awaits_run last ≡ false → length (earlier ++ option_to_list last) < most_cues
    → read_from (begun_with head shares earlier last) number records
    ≡ on_ok (read_apart head number records) (λ own. Ok (list_of head shares ((earlier ++ option_to_list last) ++ own.cues)))

-- a cue that the records give, or their fault, which is no limit; 'out of memory' may be answered in its place
abbrev pub AnswersCue : Head → Result Listing CueFault → Result Cue CueFault → Type 0
AnswersCue head due (Ok cue) = (due ≡ Ok (list_of head [] (cue ∷ []))) × IsCueFormed cue × AreOfVersion head.version (cue ∷ [])
AnswersCue head due (Err (fault.Memory error)) = ⊤
AnswersCue head due (Err (fault.Limit which)) = ⊥
AnswersCue head due (Err (fault.Malformed number place why)) = due ≡ Err (fault.Malformed number place why)
