-- What the bytes are that were read: the first line, or lines that ended and an open one.
use Rattle.std.proofs.Common.{◌≡◌, ℕ, zero, suc, ◌≤◌, ◌<◌, ◌⊎◌, Bool, true, false, List, [], ◌∷◌, ◌++◌, length, take, Option, Some, None, Ok, unwrap_or}
use Rattle.mcc_files.specs.MccFiles.{frame_after}
use Rattle.time_codes.specs.Texts.{IsTimeText}
use Rattle.time_codes.specs.declared.counting.Counting.{Counting}
use Rattle.time_codes.specs.declared.time_code.TimeCode.{TimeCode}
use Rattle.scc_files.specs.Lines.{AreBlanks, AreSpaces, IsLineEnd}
use Rattle.mcc_files.specs.Payloads.{IsPayload, Payload, payload_bytes}
use Rattle.mcc_files.specs.PayloadReading.{Open}
use Rattle.mcc_files.proofs.FirstLemmas.{Stands}
use Rattle.mcc_files.specs.Lines.{AreDecimals, IsAttribute, IsComment, IsMccForm, IsMccLine, IsName, IsRate, IsReadPast, Line, Version, format_text, one, rate_name, two}
use Rattle.mcc_files.specs.Phases.{rate_bytes, rate_count}
use Rattle.mcc_files.specs.Reading.{State, begins_time, payload_in, started}
use Rattle.mcc_files.specs.declared.phase.Phase.{Phase}
use Rattle.mcc_files.specs.declared.phase.Phase.TheVariants as phase
use Rattle.mcc_files.proofs.ToldLemmas.{TellAll, Tells, Told, told_nothing}

abbrev pub version_of : Bool → Version
version_of false = one
version_of true = two

-- what was told by the lines that ended, and by what of the open one was judged
abbrev pub told_of : State → Told
told_of s = record { count = s.count; last = s.last; placed = s.placed }

-- this many bytes of the rate's name are the name; or it is another one
abbrev pub NameMatches : ℕ → List ℕ → Type 0
NameMatches zero name = (more : List ℕ) → name ++ more ≡ rate_name → ⊥
NameMatches (suc k) name = (suc k ≤ 14) × (name ≡ take (suc k) rate_name)

pub record NameFront (k : ℕ) (now t : Told) (front : List ℕ) : Type 0 where
  pub is_name : IsName front
  pub none : t.last ≡ None
  pub told : now ≡ t
  pub matches : NameMatches k front

pub record ValueFront (now t : Told) (front : List ℕ) : Type 0 where
  pub is : IsAttribute front
  pub none : t.last ≡ None
  pub told : now ≡ t

pub record RateFront (count : Option Counting) (bytes : List ℕ) (now t : Told) (front : List ℕ) : Type 0 where
  pub spelled : front ≡ rate_name ++ (61 ∷ bytes)
  pub no_packet : t.last ≡ None
  pub no_rate : t.count ≡ None
  pub told : now ≡ record t { count = count }

pub record RatedFront (now t : Told) (front : List ℕ) : Type 0 where
  pub count : Counting
  pub is : IsRate count front
  pub no_packet : t.last ≡ None
  pub no_rate : t.count ≡ None
  pub told : now ≡ record t { count = Some count }

pub record TimeFront (now t : Told) (text front : List ℕ) : Type 0 where
  pub spelled : front ≡ text
  pub begins : begins_time text ≡ true
  pub some : 1 ≤ length text
  pub short : length text ≤ 10
  pub count : Counting
  pub counted : t.count ≡ Some count
  pub told : now ≡ t

-- a time code was judged
pub record TimedBy (now t : Told) (text : List ℕ) : Type 0 where
  pub time : TimeCode
  pub count : Counting
  pub frame : ℕ
  pub is_text : IsTimeText time text
  pub counted : t.count ≡ Some count
  pub framed : frame_after count (unwrap_or t.last 0) time ≡ Ok frame
  pub told : now ≡ record t { last = Some frame }

pub record DotFront (second : Bool) (now t : Told) (front : List ℕ) : Type 0 where
  pub text : List ℕ
  pub timed : TimedBy now t text
  pub is_two : second ≡ true
  pub spelled : front ≡ text ++ 46 ∷ []

pub record FieldFront (second : Bool) (now t : Told) (front : List ℕ) : Type 0 where
  pub text : List ℕ
  pub field : ℕ
  pub timed : TimedBy now t text
  pub is_two : second ≡ true
  pub is_field : (field ≡ 48) ⊎ (field ≡ 49)
  pub spelled : front ≡ text ++ 46 ∷ field ∷ []

pub record DigitsFront (many : ℕ) (second : Bool) (now t : Told) (front : List ℕ) : Type 0 where
  pub text : List ℕ
  pub field : ℕ
  pub digits : List ℕ
  pub timed : TimedBy now t text
  pub is_two : second ≡ true
  pub is_field : (field ≡ 48) ⊎ (field ≡ 49)
  pub are : AreDecimals digits
  pub long : length digits ≡ many
  pub few : many ≤ 5
  pub spelled : front ≡ text ++ 46 ∷ field ∷ 44 ∷ digits

pub record PayloadFront (second : Bool) (payload : Open) (now t : Told) (front : List ℕ) : Type 0 where
  pub text : List ℕ
  pub past : List ℕ
  pub payload_text : List ℕ
  pub timed : TimedBy now t text
  pub is_past : IsReadPast (version_of second) past
  pub stands : Stands payload_text payload
  pub spelled : front ≡ text ++ (past ++ (9 ∷ payload_text))

pub record BehindFront (second : Bool) (payload : Open) (now t : Told) (front : List ℕ) : Type 0 where
  pub text : List ℕ
  pub past : List ℕ
  pub payload_text : List ℕ
  pub blanks : List ℕ
  pub packet : Payload
  pub timed : TimedBy now t text
  pub is_past : IsReadPast (version_of second) past
  pub is_payload : IsPayload packet payload_text
  pub bytes : payload.bytes ≡ payload_bytes packet
  pub are_blanks : AreBlanks blanks
  pub spelled : front ≡ text ++ (past ++ (9 ∷ (payload_text ++ blanks)))

pub record EndFront (gives second : Bool) (payload : Open) (now t : Told) (front : List ℕ) : Type 0 where
  pub bytes : gives ≡ true → payload.bytes ≡ payload_bytes (payload_in payload.bytes)
  pub line : Line
  pub text : List ℕ
  pub is : IsMccLine (version_of second) line text
  pub tells : Tells t line now
  pub spelled : front ≡ text ++ 13 ∷ []

-- the open line, after lines that told this
abbrev pub Front : Phase → State → Told → List ℕ → Type 0
Front phase.Start s t front = (front ≡ []) × (told_of s ≡ t)
Front phase.Blank s t front = AreBlanks front × (told_of s ≡ t)
Front phase.Slash s t front = (front ≡ 47 ∷ []) × (told_of s ≡ t)
Front phase.Comment s t front = IsComment front × (told_of s ≡ t)
Front (phase.Name k) s t front = NameFront k (told_of s) t front
Front phase.Value s t front = ValueFront (told_of s) t front
Front (phase.Rate text) s t front = RateFront (rate_count text) (rate_bytes text) (told_of s) t front
Front phase.RateSpaces s t front = RatedFront (told_of s) t front
Front phase.Time s t front = TimeFront (told_of s) t s.text front
Front phase.Timed s t front = TimedBy (told_of s) t front
Front phase.Dot s t front = DotFront s.two (told_of s) t front
Front phase.Field s t front = FieldFront s.two (told_of s) t front
Front (phase.Digits many) s t front = DigitsFront many s.two (told_of s) t front
Front phase.Payload s t front = PayloadFront s.two s.payload (told_of s) t front
Front phase.Behind s t front = BehindFront s.two s.payload (told_of s) t front
Front (phase.End packet) s t front = EndFront packet s.two s.payload (told_of (started s packet)) t front
Front (phase.First at) s t front = ⊥
Front phase.FirstSpaces s t front = ⊥
Front phase.FirstEnd s t front = ⊥

-- lines that ended, and an open one
pub record InLine (before : List ℕ) (s : State) : Type 0 where
  pub lines : List Line
  pub head : List ℕ
  pub end : List ℕ
  pub front : List ℕ
  pub told : Told
  pub form : IsMccForm (version_of s.two) lines head
  pub is_end : IsLineEnd end
  pub tell : TellAll told_nothing lines told
  pub spelled : before ≡ head ++ (end ++ front)
  pub line : Front s.phase s told front

pub record InFirst (at : ℕ) (before : List ℕ) (s : State) : Type 0 where
  pub early : at < 31
  pub spelled : before ≡ take at (format_text (version_of s.two))
  pub undecided : at ≤ 28 → s.two ≡ false
  pub fresh : told_of s ≡ told_nothing

pub record BehindFirst (end before : List ℕ) (s : State) : Type 0 where
  pub spaces : List ℕ
  pub are : AreSpaces spaces
  pub spelled : before ≡ format_text (version_of s.two) ++ (spaces ++ end)
  pub fresh : told_of s ≡ told_nothing

abbrev pub OriginIn : Phase → List ℕ → State → Type 0
OriginIn (phase.First at) before s = InFirst at before s
OriginIn phase.FirstSpaces before s = BehindFirst [] before s
OriginIn phase.FirstEnd before s = BehindFirst (13 ∷ []) before s
OriginIn _ before s = InLine before s

abbrev pub Origin : List ℕ → State → Type 0
Origin before s = OriginIn s.phase before s
