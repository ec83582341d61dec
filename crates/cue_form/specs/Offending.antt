-- Believed: the program's answer stands on these definitions.
-- Where a record offends after a list that is begun. Its kind word is judged first, then the number of its fields, then these from the
-- left: the first that hasn't its form offends.
use Rattle.std.specs.Prelude.{◌≡◌, ◌≢◌, ◌⊎◌, ◌+◌, ◌<◌, ◌≤◌, ⊤, ℕ, min, decimal, drop, length}
use Rattle.std.specs.List.{AllByRecursion, zip}
use Rattle.cc_base.specs.declared.limit_of.LimitOf.TheVariants as limit
use Rattle.cc_base.specs.declared.why.Why.{Why}
use Rattle.cc_base.specs.declared.why.Why.TheVariants as why
use Rattle.cue_types.specs.Listing.{most_cues, most_frames}
use Rattle.cue_form.specs.Begun.{Begun, cues_of}
use Rattle.cue_form.specs.FieldForms.{FieldForm, HasForm, LacksCode, MayStand, forms_of, kind_word}
use Rattle.cue_form.specs.FirstFailing.{IsFirstFailing}
use Rattle.cue_form.specs.Records.{Field, Record, field}
use Rattle.cue_form.specs.declared.offence.Offence.{Offence}
use Rattle.cue_form.specs.declared.offence.Offence.TheVariants as offence
use Rattle.cue_form.specs.declared.record_kind.RecordKind.{RecordKind}
use Rattle.cue_form.specs.declared.record_kind.RecordKind.TheVariants as record_kind

-- a record of a cue
abbrev pub OpensCue : RecordKind → Type 0
OpensCue record_kind.Pop = ⊤
OpensCue record_kind.Paint = ⊤
OpensCue record_kind.Roll = ⊤
OpensCue record_kind.Win = ⊤
OpensCue _ = ⊥

-- the record has the word of a kind that may stand here
pub record StandsAs (b : Begun) (r : Record) (kind : RecordKind) : Type 0 where
  pub word : field r 0 ≡ kind_word kind
  pub may : MayStand b kind

-- so it does, and if it begins a cue, it isn't one too many
pub record IsWelcome (b : Begun) (r : Record) (kind : RecordKind) : Type 0 where
  pub stands : StandsAs b r kind
  pub few : OpensCue kind → length (cues_of b) < most_cues

-- it is welcome, and of another number of fields than belong: it offends one past the last that it has, or that belongs
pub record IsMiscounted (b : Begun) (r : Record) (place : ℕ) : Type 0 where
  pub kind : RecordKind
  pub welcome : IsWelcome b r kind
  pub other : length r ≢ length (forms_of b kind r) + 1
  pub place_is : place ≡ min (length r) (length (forms_of b kind r) + 1) + 1

-- it is welcome and has its number of fields, and the field at this place, counted from 1, is the first that hasn't its form
pub record IsMisformed (b : Begun) (r : Record) (place : ℕ) (reason : Why) : Type 0 where
  pub kind : RecordKind
  pub form : FieldForm
  pub text : Field
  pub welcome : IsWelcome b r kind
  pub count : length r ≡ length (forms_of b kind r) + 1
  pub first :
      IsFirstFailing (λ at. HasForm at.0 at.1) (zip (forms_of b kind r) (drop 1 r)) (form, text)
  pub place_is : place ≡ length first.before + 2
  pub reason_is :
      ((reason ≡ why.NoCode) × LacksCode form text)
      ⊎ ((reason ≡ why.Field) × (LacksCode form text → ⊥))

-- a head in form that has more frames than a list may have
pub record HasManyFrames (b : Begun) (r : Record) : Type 0 where
  pub welcome : IsWelcome b r record_kind.Ccsuite
  pub count : length r ≡ 4
  pub forms :
      AllByRecursion (λ at. HasForm at.0 at.1) (zip (forms_of b record_kind.Ccsuite r) (drop 1 r))
  pub frames : ℕ
  pub many : (most_frames < frames) × (frames ≤ 9999999999)
  pub spelled : field r 3 ≡ decimal frames

-- a record offends so after a begun list
abbrev pub RecordOffends : Begun → Record → Offence → Type 0
RecordOffends b r (offence.Memory error) = ⊥
RecordOffends b r (offence.Limit limit.Cues) =
    (kind : RecordKind) × StandsAs b r kind × OpensCue kind × (most_cues ≤ length (cues_of b))
RecordOffends b r (offence.Limit limit.Frames) = HasManyFrames b r
RecordOffends b r (offence.Limit _) = ⊥
RecordOffends b r (offence.At place reason) =
    ((place ≡ 1) × (reason ≡ why.Field) × ((kind : RecordKind) → StandsAs b r kind → ⊥))
    ⊎ (((reason ≡ why.Field) × IsMiscounted b r place) ⊎ IsMisformed b r place reason)
