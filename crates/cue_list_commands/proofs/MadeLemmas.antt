-- What a run answers that put what is made of a programme that accepted bytes have.
use Rattle.std.proofs.Common.{◌≡◌, ℕ, List, Option, Some, None, Ok, refl}
use Rattle.std.specs.Prelude.{IfSome}
use Rattle.cc_base.specs.Streams.{Puts, Rose}
use Rattle.cc_base.specs.declared.streams.Put.{Put}
use Rattle.cc_base.specs.declared.streams.Put.TheVariants as put
use Rattle.command_base.proofs.MadeLemmas.{PutsMade, made_done, made_failed}
use Rattle.command_base.specs.Ends.{ends}
use Rattle.command_base.specs.MadeVerdict.{MadeVerdict}
use Rattle.command_base.specs.Realises.{RealisesAlone}
use Rattle.command_base.specs.WholeInput.{ReadsInput}
use Rattle.command_base.specs.declared.status.Status.{Status}
use Rattle.command_base.specs.declared.status.Status.TheVariants as status
use Rattle.frame_carrier.specs.Columns.{Columns}
use Rattle.frame_carrier.specs.Framing.{Framing, HasFraming}
use Rattle.frame_carrier.specs.declared.programme.Programme.{Programme}
use Rattle.cue_list_commands.specs.Made.{IsProgrammeOf}

-- what frames give is sound, if they are the frames of accepted bytes
module _ {A F : Type 0} (IsAccepted : List ℕ → A → Type 0) (framing_of : A → Framing) (output : Framing → List ℕ) (IsSound : A → Type 0) (Refused : List ℕ → Status → Type 0)
    (sound : (bytes : List ℕ) (made : A) → IsAccepted bytes made → IsSound made) (left : F → ℕ) (Gives : Columns → ℕ → F → Type 0) where
  abbrev Verdict : List ℕ → Status → List ℕ → Type 0
  Verdict = MadeVerdict IsAccepted (λ made. output (framing_of made)) IsSound Refused

  abbrev Read : Option (List ℕ) → Option (List ℕ) → ℕ → ℕ → Programme F → Type 0
  Read old new before now programme = ReadsInput (IsProgrammeOf IsAccepted framing_of left Gives) Refused old new before now (Ok programme)

  abbrev PutsFrames : Put → Option (List ℕ) → Option (List ℕ) → Programme F → Type 0
  PutsFrames answer old new programme = (framing : Framing) → HasFraming left Gives framing programme → Puts old new answer (output framing)

  put_of : (answer : Put) (bytes_left old new : Option (List ℕ)) (programme : Programme F)
      → IfSome bytes_left (λ bytes. IsProgrammeOf IsAccepted framing_of left Gives bytes programme) → PutsFrames answer old new programme
      → IfSome bytes_left (λ bytes. PutsMade IsAccepted (λ made. output (framing_of made)) IsSound answer bytes old new)
  put_of answer None old new programme of puts = tt
  put_of answer (Some bytes) old new programme of puts =
      (output (framing_of of.made), (of.made, of.accepted, refl, sound bytes of.made of.accepted), puts (framing_of of.made) of.framing)

  module _ (first after written now_written : Option (List ℕ)) (before now faults still : ℕ) (programme : Programme F) (read : Read first after before now programme) where
    pub programme_done : still ≡ faults → PutsFrames put.Done written now_written programme
        → RealisesAlone Verdict (ends first before written faults) (ends after now now_written still) status.Ok
    programme_done kept puts =
        made_done IsAccepted (λ made. output (framing_of made)) IsSound Refused (ends first before written faults) (ends after now now_written still) read.0 kept read.1
        (put_of put.Done first written now_written programme read.2 puts)

    pub programme_failed : Rose faults still → PutsFrames put.Failed written now_written programme
        → RealisesAlone Verdict (ends first before written faults) (ends after now now_written still) status.WriteFault
    programme_failed rose puts =
        made_failed IsAccepted (λ made. output (framing_of made)) IsSound Refused (ends first before written faults) (ends after now now_written still) read.0 rose
        (put_of put.Failed first written now_written programme read.2 puts)
