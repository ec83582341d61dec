-- Between crates: the program's answer stands on none of these definitions.
-- Steps on the way through words: a piece of their bytes is judged, and the text that stands for them is gathered and put.
use Rattle.std.specs.Prelude.{◌≡◌, ◌≤◌, ◌+◌, ◌⊎◌, ℕ, List, [], ◌++◌, length, take, Option, Result, Ok, Err}
use Rattle.cc_base.specs.Streams.{Puts, Rose}
use Rattle.cc_base.specs.declared.refusal.Refusal.{Refusal}
use Rattle.cc_base.specs.declared.streams.Put.TheVariants as put
use Rattle.cdp_packets.specs.Packets.{Frame}
use Rattle.text_output.specs.Gathered.{IsGathered}
use Rattle.words_files.specs.Offences.{FirstOffendingWord, IsCutShort, IsFileUnder}
use Rattle.cc_receiver.specs.CaptionChannel.{caption_channel}
use Rattle.words_reading.specs.Causes.{words_limit}
use Rattle.words_reading.specs.declared.judge.Stop.{Stop}
use Rattle.words_reading.specs.declared.judge.Stop.TheVariants as stop

-- a judge judged these bytes, and the text that stands for them was gathered
pub record HasGathered {J : Type 0} (HasJudged : List ℕ → List ℕ → J → Type 0) (start now : Option (List ℕ)) (held bytes : List ℕ) (judge : J) : Type 0 where
  pub text : List ℕ
  pub judged : HasJudged bytes text judge
  pub way : IsGathered start now held text

-- a judge judged some bytes, and this many may follow within the limit
pub record IsReady {J : Type 0} (HasRead : List ℕ → J → Type 0) (judge : J) (more : ℕ) : Type 0 where
  pub before : List ℕ
  pub read : HasRead before judge
  pub within : length before + more ≤ words_limit

-- this text stands for these bytes, or for what came before a reason to stop with which they end
abbrev pub SaysFront : {R : Type 0} → (List ℕ → List ℕ → Type 0) → (R → List ℕ → List ℕ → Type 0) → List ℕ → List ℕ → Type 0
SaysFront {R} Says Halts judged text = Says judged text ⊎ ((reason : R) × Halts reason judged text)

-- why a judge stopped, of the bytes judged, of those after them, and of the text that stands for the former
abbrev pub StopsFor : {R : Type 0} → (List ℕ → List ℕ → Type 0) → (R → List ℕ → List ℕ → Type 0) → Stop R → List ℕ → List ℕ → List ℕ → Type 0
StopsFor Says Halts (stop.Refused refusal) judged unjudged text = (unjudged ≡ []) × FirstOffendingWord caption_channel judged refusal × Says judged text
StopsFor Says Halts stop.WriteFault judged unjudged text = SaysFront Says Halts judged text
StopsFor Says Halts (stop.Own reason) judged unjudged text = Halts reason judged text
StopsFor Says Halts _ judged unjudged text = ⊥

-- the text was gathered, or a put of it failed
abbrev pub GathersBefore : {R : Type 0} → Stop R → Option (List ℕ) → Option (List ℕ) → List ℕ → List ℕ → Type 0
GathersBefore stop.WriteFault start now held text = Puts start now put.Failed text
GathersBefore _ start now held text = IsGathered start now held text

-- a judge stopped in these bytes
pub record HasStopped {R : Type 0} (Says : List ℕ → List ℕ → Type 0) (Halts : R → List ℕ → List ℕ → Type 0) (start now : Option (List ℕ)) (held bytes : List ℕ)
    (why : Stop R) : Type 0 where
  pub judged : List ℕ
  pub unjudged : List ℕ
  pub text : List ℕ
  pub spelled : bytes ≡ judged ++ unjudged
  pub cause : StopsFor Says Halts why judged unjudged text
  pub way : GathersBefore why start now held text

-- what a judge makes of the next of these bytes, after those before
abbrev pub StepJudges : {R J : Type 0} → (List ℕ → List ℕ → J → Type 0) → (List ℕ → List ℕ → Type 0) → (R → List ℕ → List ℕ → Type 0)
    → Option (List ℕ) → Option (List ℕ) → List ℕ → List ℕ → List ℕ → J → Result ℕ (Stop R) → Type 0
StepJudges HasJudged Says Halts start now held before bytes judge (Ok used) = HasGathered HasJudged start now held (before ++ take used bytes) judge
StepJudges HasJudged Says Halts start now held before bytes judge (Err why) = HasStopped Says Halts start now held (before ++ bytes) why

-- what it makes of bytes
abbrev pub Judges : {R J : Type 0} → (List ℕ → List ℕ → J → Type 0) → (List ℕ → List ℕ → Type 0) → (R → List ℕ → List ℕ → Type 0)
    → Option (List ℕ) → Option (List ℕ) → List ℕ → List ℕ → J → Result (Unit {0}) (Stop R) → Type 0
Judges HasJudged Says Halts start now held bytes judge (Ok done) = HasGathered HasJudged start now held bytes judge
Judges HasJudged Says Halts start now held bytes judge (Err why) = HasStopped Says Halts start now held bytes why

-- the same where the text is put as well
abbrev pub JudgesAndPuts : {R J : Type 0} → (List ℕ → List ℕ → J → Type 0) → (List ℕ → List ℕ → Type 0) → (R → List ℕ → List ℕ → Type 0)
    → Option (List ℕ) → Option (List ℕ) → List ℕ → List ℕ → J → Result (Unit {0}) (Stop R) → Type 0
JudgesAndPuts HasJudged Says Halts start now held bytes judge (Ok done) = HasGathered HasJudged start now held bytes judge
JudgesAndPuts HasJudged Says Halts start now held bytes judge (Err why) = HasStopped Says Halts start now [] bytes why

-- a judge stops for want of its output only where the count of faults rose, and else leaves it; for want of its input, or for the limit, it
-- never stops
abbrev pub StopsBy : {R : Type 0} → ℕ → ℕ → Stop R → Type 0
StopsBy before now stop.ReadFault = ⊥
StopsBy before now stop.Limit = ⊥
StopsBy before now stop.WriteFault = (before ≤ now) × Rose before now
StopsBy before now _ = now ≡ before

abbrev pub StopCause : {A R : Type 0} → ℕ → ℕ → Result A (Stop R) → Type 0
StopCause before now (Ok done) = now ≡ before
StopCause before now (Err why) = StopsBy before now why

-- the bytes are a words file, or they are cut short
abbrev pub EndsAt : List ℕ → Result (Unit {0}) Refusal → Type 0
EndsAt bytes (Ok done) = (frames : List Frame) × IsFileUnder caption_channel frames bytes
EndsAt bytes (Err refusal) = IsCutShort caption_channel bytes refusal
