-- Believed in part: the library's answers stand on some of these definitions.
-- What C learns of bytes that were fed, of a frame that was asked for, and of a reason.
use Rattle.std.specs.Prelude.{◌≡◌, ◌⊎◌, ℕ, Result, Ok, Err, replicate}
use Rattle.cc_base.specs.Why.{reason_number}
use Rattle.cc_base.specs.declared.refusal.Refusal.{Refusal}
use Rattle.cc_base.specs.declared.why.Why.{Why}
use Rattle.cc_receiver.specs.declared.receiver.Ended.{Ended}
use Rattle.cc_receiver.specs.declared.receiver.Ended.TheVariants as ended
use Rattle.cc_receiver.specs.declared.receiver.Fed.{Fed}
use Rattle.caption_streams.specs.declared.building.NextFrame.{NextFrame}
use Rattle.caption_streams.specs.declared.building.NextFrame.TheVariants as asked
use Rattle.caption_streams.specs.declared.fault.FeedFault.{FeedFault}
use Rattle.caption_streams.specs.declared.fault.FeedFault.TheVariants as fault
use Rattle.reported_runs.specs.Reasons.{reason_told}
use Rattle.reported_runs.specs.declared.reason.Reason.{Reason}
use Rattle.ccsuite_c.specs.Codes.{argument_code, end_code, found_code, full_code, refused_code, room_code}
use Rattle.ccsuite_c.specs.declared.told.FedBytes.{FedBytes}

abbrev pub ended_number : Ended → ℕ
ended_number ended.No = 0
ended_number ended.Foreign = 1
ended_number ended.Caption = 2

-- this many bytes were read, and a packet ended so, or none
abbrev pub read_so : ℕ → ℕ → FedBytes
read_so count ending = record { used = count; place = 0; ended = ending; why = 0; reserved = replicate 2 0 }

-- nothing was read, as this word is refused for this reason
abbrev pub refused_so : ℕ → ℕ → FedBytes
refused_so byte reason = record { used = 0; place = byte; ended = 0; why = reason; reserved = replicate 2 0 }

-- the code that is answered, and what is given beside it
abbrev pub TellsFed : Result Fed FeedFault → ℕ → FedBytes → Type 0
TellsFed (Ok fed) code told = (code ≡ 0) × (told ≡ read_so fed.used (ended_number fed.ended))
TellsFed (Err (fault.Refused refusal)) code told = (code ≡ refused_code) × (told ≡ refused_so refusal.place (reason_number refusal.why))
TellsFed (Err (fault.Found finding)) code told = (code ≡ found_code) × (told ≡ read_so 0 0)
TellsFed (Err fault.TooManyFrames) code told = (code ≡ full_code) × (told ≡ read_so 0 0)

-- the same of words that end
abbrev pub TellsEnd : {A : Type 0} → Result A Refusal → ℕ → FedBytes → Type 0
TellsEnd (Ok done) code told = (code ≡ 0) × (told ≡ read_so 0 0)
TellsEnd (Err refusal) code told = (code ≡ refused_code) × (told ≡ refused_so refusal.place (reason_number refusal.why))

-- of a frame that was asked for: the number of its bytes, written or wanted
abbrev pub TellsNext : NextFrame → ℕ → ℕ → Type 0
TellsNext (asked.Given bytes) code count = (code ≡ 0) × (count ≡ bytes)
TellsNext (asked.NoRoom bytes) code count = (code ≡ room_code) × (count ≡ bytes)
TellsNext asked.Over code count = (code ≡ end_code) × (count ≡ 0)

-- of a reason's number: its texts, or that no reason has it
abbrev pub ReasonAnswer : ℕ → ℕ → Reason → Reason → Type 0
ReasonAnswer number code old new =
    ((code ≡ 0) × ((why : Why) × (reason_number why ≡ number) × (new ≡ reason_told why)))
    ⊎ ((code ≡ argument_code) × ((why : Why) → reason_number why ≡ number → ⊥) × (new ≡ old))
