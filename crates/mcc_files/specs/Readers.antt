-- Between crates: the program's answer stands on none of these definitions.
-- What a reader of MCC files makes of a byte.
use Rattle.std.specs.Prelude.{◌≡◌, ℕ, ◌-◌, ◌≤◌, Bool, true, false, List, [], ◌∷◌, ◌++◌, length, take, Some, Result, Ok, Err, unwrap_or}
use Rattle.cc_base.specs.declared.why.Why.{Why}
use Rattle.mcc_files.specs.Lines.{HaveNoLf}
use Rattle.mcc_files.specs.MccFiles.{IsMccFile, TimedPackets}
use Rattle.mcc_files.specs.Offences.{IsFirstOffence}
use Rattle.mcc_files.specs.Reading.{State, at_first, ends, ends_at_lf, payload_in, run, take_byte}
use Rattle.mcc_files.specs.declared.reader.MccReader.{MccReader}
use Rattle.mcc_files.specs.Payloads.{Payload, payload_bytes}
use Rattle.mcc_files.specs.declared.phase.Phase.{Phase}
use Rattle.mcc_files.specs.declared.phase.Phase.TheVariants as phase
use Rattle.mcc_files.specs.PayloadReaders.{open_of}
use Rattle.mcc_files.specs.PayloadReading.{Open, item_back, item_bytes}
use Rattle.mcc_files.specs.declared.payload_reader.Offence.{Offence}

-- what was read, where these packets were given
abbrev pub state_of : MccReader → TimedPackets → State
state_of reader placed =
    record {
      phase = reader.phase;
      two = reader.two;
      count = reader.count;
      last = reader.last;
      text = reader.text.items;
      payload = open_of reader.payload;
      placed = placed;
    }

-- a byte within a line was taken, to which this is due, or it offends
abbrev pub StepsTo : (State → Result State Offence) → MccReader → MccReader → Result (Unit {0}) Offence → Type 0
StepsTo due old new (Ok _) = (placed : TimedPackets) → due (state_of old placed) ≡ Ok (state_of new placed)
StepsTo due old new (Err offence) = (placed : TimedPackets) → due (state_of old placed) ≡ Err offence

-- the bytes for which the items of the payload stand that was read last, or is open
abbrev pub read_bytes : MccReader → List ℕ
read_bytes reader = (open_of reader.payload).bytes

-- whether a line begins
abbrev pub is_at_start : Phase → Bool
is_at_start phase.Start = true
is_at_start _ = false

-- the packet of the line that ended, or of the open one
abbrev pub packet_in : MccReader → ℕ × Payload
packet_in reader = (unwrap_or reader.last 0, payload_in (read_bytes reader))

-- the bytes are its payload's
abbrev pub HasWholeBytes : MccReader → Type 0
HasWholeBytes reader = read_bytes reader ≡ payload_bytes (packet_in reader).1

-- a byte was taken, with which the line of a packet has ended or none, or it offends
abbrev pub TakesByte : MccReader → MccReader → ℕ → Result Bool Offence → Type 0
TakesByte old new byte (Ok false) = (placed : TimedPackets) → take_byte (state_of old placed) byte ≡ Ok (state_of new placed)
TakesByte old new byte (Ok true) =
    (placed : TimedPackets) → (take_byte (state_of old placed) byte ≡ Ok (state_of new (placed ++ packet_in new ∷ [])))
    × (ends_at_lf old.phase (ends (state_of old placed)) ≡ Some true) × (read_bytes new ≡ read_bytes old)
TakesByte old new byte (Err offence) = (placed : TimedPackets) → take_byte (state_of old placed) byte ≡ Err offence

-- the reader took these bytes, and their lines that ended had these packets
abbrev pub HasRead : List ℕ → TimedPackets → MccReader → Type 0
HasRead before placed reader = run at_first before ≡ Ok (state_of reader placed)

-- the first offence after bytes, whatever follows
abbrev pub OffendsBehind : List ℕ → ℕ → Offence → Type 0
OffendsBehind before byte offence =
    (rest : List ℕ) → IsFirstOffence (before ++ byte ∷ rest) (record { place = length before - offence.back; why = offence.why })

-- a byte more was taken after bytes: no packet's line has ended with it, or the line of this packet; or it offends
abbrev pub TakesOn : List ℕ → TimedPackets → ℕ → MccReader → Result Bool Offence → Type 0
TakesOn before placed byte reader (Ok false) = HasRead (before ++ byte ∷ []) placed reader
TakesOn before placed byte reader (Ok true) =
    HasRead (before ++ byte ∷ []) (placed ++ packet_in reader ∷ []) reader × HasWholeBytes reader
TakesOn before placed byte reader (Err offence) = OffendsBehind before byte offence

-- after a reader stands another, which took a packet's line more, the line of this many bytes with which these begin
pub record IsBehindLine (old : MccReader) (bytes : List ℕ) (count : ℕ) (new : MccReader) : Type 0 where
  pub front : List ℕ
  pub within : count ≤ length bytes
  pub spelled : take count bytes ≡ front ++ 10 ∷ []
  pub no_lf : HaveNoLf front
  pub goes : (placed : TimedPackets) → run (state_of old placed) (take count bytes) ≡ Ok (state_of new (placed ++ packet_in new ∷ []))
  pub whole : HasWholeBytes new
  pub start : new.phase ≡ phase.Start

-- the bytes of the item of an open payload that ends with a byte, if one does, down to one that offends
abbrev pub item_in : Phase → Open → ℕ → List ℕ
item_in phase.Payload payload byte = item_bytes payload byte
item_in _ payload byte = []

-- how many bytes before its last one it begins
abbrev pub back_in : Phase → Open → ℕ
back_in phase.Payload payload = item_back payload.digit
back_in _ payload = 0

-- the bytes end: they are a file of the packets, the last of them perhaps the open line's; or they end too soon
abbrev pub Finishes : List ℕ → TimedPackets → MccReader → Result Bool Why → Type 0
Finishes before placed reader (Ok false) = IsMccFile placed before
Finishes before placed reader (Ok true) = IsMccFile (placed ++ packet_in reader ∷ []) before × HasWholeBytes reader
Finishes before placed reader (Err reason) = IsFirstOffence before (record { place = length before; why = reason })
