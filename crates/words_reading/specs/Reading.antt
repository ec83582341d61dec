-- Between crates: the program's answer stands on none of these definitions.
-- What ends the reading of words by a command: each end has its cause, and what was put, in one place. The bytes of a words file are
-- judged in order, up to the limit, and their text is put before more are taken.
use Rattle.std.specs.Prelude.{◌≡◌, ◌≤◌, ℕ, List, ◌++◌, length, Result, Ok, Err}
use Rattle.std.specs.Io.KnownBytes.{Consumes}
use Rattle.cc_receiver.specs.CaptionChannel.{caption_channel}
use Rattle.words_files.specs.Offences.{IsUnoffending}
use Rattle.cc_base.specs.Streams.{Puts, Rose}
use Rattle.cc_base.specs.declared.streams.Put.{Put}
use Rattle.cc_base.specs.declared.streams.Put.TheVariants as put
use Rattle.command_base.specs.Ends.{Ends, IsSteady}
use Rattle.words_reading.specs.Causes.{Cause, HasNoOffence, IsAnyhow, IsRefusedWith, IsWholeFile, PassesLimit, words_limit}
use Rattle.words_reading.specs.Judging.{SaysFront}
use Rattle.words_reading.specs.declared.judge.Stop.{Stop}
use Rattle.words_reading.specs.declared.judge.Stop.TheVariants as stop

-- a run judged bytes, within the limit, and took more after them; a text that is said of them was put, or a front of it where a put
-- failed; and it stopped for this cause
pub record Stops (Says : List ℕ → List ℕ → Type 0) (Why : Cause) (answer : Put) (old new : Ends) : Type 0 where
  pub judged : List ℕ
  pub unjudged : List ℕ
  pub text : List ℕ
  pub taken : Consumes old.left new.left (judged ++ unjudged)
  pub within : length judged ≤ words_limit
  pub says : Says judged text
  pub cause : Why judged unjudged
  pub output : Puts old.written new.written answer text

-- how a reading stops before the end of a words file
abbrev pub StopsEarly : {R : Type 0} → (List ℕ → List ℕ → Type 0) → (R → List ℕ → List ℕ → Type 0) → Ends → Ends → Stop R → Type 0
StopsEarly Says Halts old new stop.ReadFault =
    Rose old.read_faults new.read_faults × (new.write_faults ≡ old.write_faults) × Stops Says (HasNoOffence (IsUnoffending caption_channel)) put.Done old new
StopsEarly Says Halts old new stop.WriteFault =
    (new.read_faults ≡ old.read_faults) × Rose old.write_faults new.write_faults × Stops (SaysFront Says Halts) IsAnyhow put.Failed old new
StopsEarly Says Halts old new stop.Limit = IsSteady old new × Stops Says (PassesLimit (IsUnoffending caption_channel)) put.Done old new
StopsEarly Says Halts old new (stop.Refused refusal) = IsSteady old new × Stops Says (IsRefusedWith refusal old.left) put.Done old new
StopsEarly Says Halts old new (stop.Own reason) = IsSteady old new × Stops (Halts reason) IsAnyhow put.Done old new

-- an input is read to its end, or the reading stops before
abbrev pub ReadsWords : {R J : Type 0} → (List ℕ → List ℕ → J → Type 0) → (List ℕ → List ℕ → Type 0) → (R → List ℕ → List ℕ → Type 0) → J → Ends → Ends
    → Result (Unit {0}) (Stop R) → Type 0
ReadsWords HasJudged Says Halts judge old new (Ok done) =
    IsSteady old new × Stops (λ bytes text. HasJudged bytes text judge) (IsWholeFile old.left) put.Done old new
ReadsWords HasJudged Says Halts judge old new (Err why) = StopsEarly Says Halts old new why

-- the counts of faults where a reading ended: the input's rose, or the output's, or neither
abbrev pub CountsBy : {R : Type 0} → ℕ → ℕ → ℕ → ℕ → Result (Unit {0}) (Stop R) → Type 0
CountsBy reads later writes still (Err stop.ReadFault) = Rose reads later × (still ≡ writes)
CountsBy reads later writes still (Err stop.WriteFault) = (later ≡ reads) × Rose writes still
CountsBy reads later writes still _ = (later ≡ reads) × (still ≡ writes)
