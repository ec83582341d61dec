-- Believed in part: the program's answer stands on some of these definitions.
-- The first fault of records that spell no cue list. Each record is seen in the light of the list that the records before it
-- begin.
use Rattle.std.specs.Prelude.{◌≡◌, ⊤, ◌+◌, ◌⊎◌, List, [], ◌∷◌, ◌++◌, length, None, IsSomeAnd}
use Rattle.cc_base.specs.declared.why.Why.TheVariants as why
use Rattle.cue_form.specs.Begun.{Begun, IsBegun}
use Rattle.cue_form.specs.Offending.{RecordOffends}
use Rattle.cue_form.specs.Reading.{in_record}
use Rattle.cue_form.specs.Records.{Record}
use Rattle.cue_form.specs.Spelling.{begun_records}
use Rattle.cue_form.specs.declared.fault.CueFault.{CueFault}
use Rattle.cue_form.specs.declared.fault.CueFault.TheVariants as malformed
use Rattle.cue_form.specs.declared.offence.Offence.{Offence}

-- the records before one are a begun list's, and it offends
pub record OffendsIn (records : List Record) (fault : CueFault) : Type 0 where
  pub begun : Begun
  pub offender : Record
  pub after : List Record
  pub offence : Offence
  pub split : records ≡ begun_records begun ++ offender ∷ after
  pub begins : IsBegun begun
  pub offends : RecordOffends begun offender offence
  pub place : fault ≡ in_record (length (begun_records begun) + 1) offence

-- all records are a begun list's, which can't end there: it has no head, or a cue without a run
pub record RecordsEndEarly (records : List Record) (fault : CueFault) : Type 0 where
  pub begun : Begun
  pub are : records ≡ begun_records begun
  pub begins : IsBegun begun
  pub lacks : (begun.head ≡ None) ⊎ IsSomeAnd begun.last (λ cue. cue.runs ≡ [])
  pub place : fault ≡ malformed.Malformed (length records + 1) 1 why.Field

-- the first fault of these records
abbrev pub IsFirstFault : List Record → CueFault → Type 0
IsFirstFault records fault = OffendsIn records fault ⊎ RecordsEndEarly records fault

-- a fault, unless memory ran out, is the first one
abbrev pub FaultsFirst : List Record → CueFault → Type 0
FaultsFirst records (malformed.Memory error) = ⊤
FaultsFirst records (malformed.Limit which) = IsFirstFault records (malformed.Limit which)
FaultsFirst records (malformed.Malformed number place why) =
    IsFirstFault records (malformed.Malformed number place why)
