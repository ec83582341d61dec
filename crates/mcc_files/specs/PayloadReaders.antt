-- Between crates: the program's answer stands on none of these definitions.
-- What a reader of payloads makes of a byte of the text.
use Rattle.std.specs.Prelude.{◌≡◌, ℕ, true, List, ◌++◌, None, Result, Ok, Err}
use Rattle.cc_base.specs.declared.why.Why.{Why}
use Rattle.mcc_files.specs.Payloads.{IsPayload, Payload, payload_bytes}
use Rattle.mcc_files.specs.PayloadReading.{Open, joined}
use Rattle.mcc_files.specs.declared.payload_reader.Offence.{Offence}
use Rattle.mcc_files.specs.declared.payload_reader.PayloadReader.{PayloadReader}

-- the bytes of an item more were taken, or one of them offends and nothing changed
abbrev pub TakesItem : PayloadReader → List ℕ → PayloadReader → Result (Unit {0}) Why → Type 0
TakesItem old brought new (Ok _) =
    (joined true old.bytes.items brought ≡ Ok new.bytes.items) × (new.digit ≡ None)
TakesItem old brought new (Err reason) = (joined true old.bytes.items brought ≡ Err reason) × (new ≡ old)

-- what is open in a reader
abbrev pub open_of : PayloadReader → Open
open_of reader = record { digit = reader.digit; bytes = reader.bytes.items }

-- a byte of the text more was taken, to which this is due; or it offends and nothing changed
abbrev pub StepsTo : Result Open Offence → PayloadReader → PayloadReader → Result (Unit {0}) Offence → Type 0
StepsTo due old new (Ok _) = due ≡ Ok (open_of new)
StepsTo due old new (Err offence) = (due ≡ Err offence) × (new ≡ old)

-- the text begins with a payload, and a reader follows it
pub record IsBehindPayload (text rest : List ℕ) (reader : PayloadReader) : Type 0 where
  pub front : List ℕ
  pub payload : Payload
  pub is : IsPayload payload front
  pub spelled : text ≡ front ++ rest
  pub open_is : open_of reader ≡ record { digit = None; bytes = payload_bytes payload }
