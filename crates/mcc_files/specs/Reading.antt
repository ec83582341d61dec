-- Between crates: the program's answer stands on none of these definitions.
-- MCC files read byte by byte: the packets at their frames, or the first offence.
use Rattle.std.specs.Prelude.{ℕ, ◌+◌, ◌-◌, ◌==◌, ◌&&◌, ◌||◌, not, Bool, true, false, if◌then◌else◌, nat_lt, List, [], ◌∷◌, ◌++◌, codes, drop, length, slice_index, take, Option, Some, None, Result, Ok, Err, is_some, unwrap_or}
use Rattle.cc_base.specs.declared.refusal.Refusal.{Refusal}
use Rattle.cc_base.specs.declared.why.Why.{Why}
use Rattle.cc_base.specs.declared.why.Why.TheVariants as why
use Rattle.scc_files.specs.Phases.{is_blank}
use Rattle.time_codes.specs.Texts.{is_digit, time_of_text}
use Rattle.time_codes.specs.declared.counting.Counting.{Counting}
use Rattle.time_codes.specs.declared.time_code.TimeCode.{TimeCode}
use Rattle.mcc_files.specs.Lines.{format_text, is_letter, is_name_byte, one}
use Rattle.mcc_files.specs.MccFiles.{TimedPackets, frame_after}
use Rattle.mcc_files.specs.Phases.{matched, rate_count, rate_moved, why_in}
use Rattle.mcc_files.specs.declared.phase.Phase.{Phase}
use Rattle.mcc_files.specs.declared.phase.Phase.TheVariants as phase
use Rattle.mcc_files.specs.declared.phase.RateText.{RateText}
use Rattle.mcc_files.specs.declared.phase.RateText.TheVariants as rate_text
use Rattle.mcc_files.specs.Payloads.{Payload}
use Rattle.mcc_files.specs.PayloadReading.{Open, is_whole, nothing_open, step}
use Rattle.mcc_files.specs.declared.payload_reader.Offence.{Offence}

-- what was read: where the bytes have ended, whether the first line is of version 2, the time code rate, the frame of the last time code,
-- the bytes of an open time code's text, the open payload, and the packets of the lines that ended
pub record State : Type 0 where
  pub phase : Phase
  pub two : Bool
  pub count : Option Counting
  pub last : Option ℕ
  pub text : List ℕ
  pub payload : Open
  pub placed : TimedPackets

-- nothing was read
abbrev pub at_first : State
at_first = record { phase = phase.First 0; two = false; count = None; last = None; text = []; payload = nothing_open; placed = [] }

-- within a phase
abbrev pub in_phase : State → Phase → State
in_phase s to = record s { phase = to }

-- no line goes on
abbrev pub no_line : State → Result State Offence
no_line s = Err (record { back = 0; why = why_in s.phase })

-- what is next where a test passes
abbrev pub taken : State → Bool → State → Result State Offence
taken s test next = if test then Ok next else no_line s

-- what the bytes of a whole packet say: the identifiers, and as many user bytes as the count says
abbrev pub payload_in : List ℕ → Payload
payload_in (did ∷ sdid ∷ count ∷ rest) = record { did = did; sdid = sdid; user = take count rest }
payload_in _ = record { did = 0; sdid = 0; user = [] }

-- the packet of a line
abbrev pub packet_of : State → ℕ × Payload
packet_of s = (unwrap_or s.last 0, payload_in s.payload.bytes)

-- the packets, with the packet of the line that ends, if it is a packet's
abbrev pub placed_with : State → Bool → TimedPackets
placed_with s false = s.placed
placed_with s true = s.placed ++ packet_of s ∷ []

-- whether the line may end, and whether it is a packet's
abbrev pub ends_payload : Bool → Option Bool
ends_payload whole = if whole then Some true else None

abbrev pub ends_rate : Option Counting → Option Bool
ends_rate None = None
ends_rate (Some count) = Some false

abbrev pub ends_in : Phase → List ℕ → Option Bool
ends_in phase.FirstSpaces bytes = Some false
ends_in phase.Start bytes = Some false
ends_in phase.Blank bytes = Some false
ends_in phase.Comment bytes = Some false
ends_in phase.Value bytes = Some false
ends_in (phase.Rate text) bytes = ends_rate (rate_count text)
ends_in phase.RateSpaces bytes = Some false
ends_in phase.Payload bytes = ends_payload (is_whole bytes)
ends_in phase.Behind bytes = Some true
ends_in _ bytes = None

abbrev pub ends : State → Option Bool
ends s = ends_in s.phase s.payload.bytes

-- after a CR it has to end
abbrev pub ends_at_lf : Phase → Option Bool → Option Bool
ends_at_lf phase.FirstEnd may = Some false
ends_at_lf (phase.End packet) may = Some packet
ends_at_lf _ may = may

-- a line has ended
abbrev pub started : State → Bool → State
started s packet = record s { phase = phase.Start; placed = placed_with s packet }

abbrev pub ended_by_lf : State → Option Bool → Result State Offence
ended_by_lf s (Some packet) = Ok (started s packet)
ended_by_lf s None = no_line s

-- its CR was read
abbrev pub behind_cr : Phase → Bool → Phase
behind_cr phase.FirstSpaces packet = phase.FirstEnd
behind_cr _ packet = phase.End packet

abbrev pub ended_by_cr : State → Option Bool → Result State Offence
ended_by_cr s (Some packet) = Ok (in_phase s (behind_cr s.phase packet))
ended_by_cr s None = no_line s

-- within the first line's text, whose 29th byte says the version
abbrev pub behind_first : ℕ → Phase
behind_first at = if at == 30 then phase.FirstSpaces else phase.First (at + 1)

abbrev pub first_read : State → ℕ → ℕ → Result State Offence
first_read s at byte =
    if (at == 28) && (byte == 50) then Ok (record s { phase = phase.First 29; two = true })
    else taken s (byte == slice_index (format_text one) at) (in_phase s (behind_first at))

-- a line begins: blank, a comment, an attribute before the first packet, or a time code after the rate
abbrev pub begun : State → ℕ → Result State Offence
begun s byte =
    if is_blank byte then Ok (in_phase s phase.Blank)
    else if byte == 47 then Ok (in_phase s phase.Slash)
    else if is_letter byte then taken s (not (is_some s.last)) (in_phase s (phase.Name (if byte == 84 then 1 else 0)))
    else taken s (is_digit byte && is_some s.count) (record s { phase = phase.Time; text = byte ∷ [] })

-- the name of an attribute has ended: the rate's, of which there is one, or another
abbrev pub named : State → ℕ → Result State Offence
named s matched =
    if matched == 14
    then (if is_some s.count then Err (record { back = 14; why = why.MccSyntax }) else Ok (in_phase s (phase.Rate rate_text.Empty)))
    else Ok (in_phase s phase.Value)

abbrev pub name_read : State → ℕ → ℕ → Result State Offence
name_read s before byte =
    if byte == 61 then named s before else taken s (is_name_byte byte) (in_phase s (phase.Name (matched before byte)))

-- within the text of a count, or after it
abbrev pub rate_read : State → RateText → Option RateText → ℕ → Result State Offence
rate_read s text (Some next) byte = Ok (record s { phase = phase.Rate next; count = rate_count next })
rate_read s text None byte = taken s (is_some (rate_count text) && (byte == 32)) (in_phase s phase.RateSpaces)

-- some time code's text begins so
abbrev pub begins_time : List ℕ → Bool
begins_time text = is_some (time_of_text (text ++ drop (length text) (codes "00:00:00:00")))

-- the frame of a time code; else its text offends, from its first byte on
abbrev pub or_offends : Result ℕ Why → Result ℕ Offence
or_offends (Ok frame) = Ok frame
or_offends (Err reason) = Err (record { back = 10; why = reason })

abbrev pub no_time : Result ℕ Offence
no_time = Err (record { back = 0; why = why.MccSyntax })

abbrev pub judged_frame : Option Counting → Option ℕ → Option TimeCode → Result ℕ Offence
judged_frame None last time = no_time
judged_frame (Some count) last None = no_time
judged_frame (Some count) last (Some time) = or_offends (frame_after count (unwrap_or last 0) time)

abbrev pub timed : State → List ℕ → Result ℕ Offence → Result State Offence
timed s text (Ok frame) = Ok (record s { phase = phase.Timed; text = text; last = Some frame })
timed s text (Err offence) = Err offence

abbrev pub time_read : State → List ℕ → Result State Offence
time_read s text =
    if length text == 11 then timed s text (judged_frame s.count s.last (time_of_text text))
    else taken s (begins_time text) (record s { phase = phase.Time; text = text })

-- a payload begins after a TAB
abbrev pub awaits_payload : Phase → Bool
awaits_payload phase.Timed = true
awaits_payload phase.Field = true
awaits_payload (phase.Digits count) = nat_lt 0 count
awaits_payload _ = false

abbrev pub payload_begins : State → State
payload_begins s = record s { phase = phase.Payload; payload = nothing_open }

-- within a payload
abbrev pub payload_goes : State → Result Open Offence → Result State Offence
payload_goes s (Ok next) = Ok (record s { payload = next })
payload_goes s (Err offence) = Err offence

abbrev pub payload_read : State → ℕ → Result State Offence
payload_read s byte =
    if is_whole s.payload.bytes then taken s (is_blank byte) (in_phase s phase.Behind) else payload_goes s (step true s.payload byte)

-- a byte within a line
abbrev pub goes : State → Phase → ℕ → Result State Offence
goes s (phase.First at) byte = first_read s at byte
goes s phase.FirstSpaces byte = taken s (byte == 32) (in_phase s phase.FirstSpaces)
goes s phase.FirstEnd byte = no_line s
goes s phase.Start byte = begun s byte
goes s phase.Blank byte = taken s (is_blank byte) (in_phase s phase.Blank)
goes s phase.Slash byte = taken s (byte == 47) (in_phase s phase.Comment)
goes s phase.Comment byte = Ok (in_phase s phase.Comment)
goes s (phase.Name before) byte = name_read s before byte
goes s phase.Value byte = Ok (in_phase s phase.Value)
goes s (phase.Rate text) byte = rate_read s text (rate_moved text byte) byte
goes s phase.RateSpaces byte = taken s (byte == 32) (in_phase s phase.RateSpaces)
goes s phase.Time byte = time_read s (s.text ++ byte ∷ [])
goes s phase.Timed byte = taken s (s.two && (byte == 46)) (in_phase s phase.Dot)
goes s phase.Dot byte = taken s ((byte == 48) || (byte == 49)) (in_phase s phase.Field)
goes s phase.Field byte = taken s (byte == 44) (in_phase s (phase.Digits 0))
goes s (phase.Digits count) byte = taken s (nat_lt count 5 && is_digit byte) (in_phase s (phase.Digits (count + 1)))
goes s phase.Payload byte = payload_read s byte
goes s phase.Behind byte = taken s (is_blank byte) (in_phase s phase.Behind)
goes s (phase.End packet) byte = no_line s

abbrev pub within : State → Phase → ℕ → Result State Offence
within s in_it byte = if awaits_payload in_it && (byte == 9) then Ok (payload_begins s) else goes s in_it byte

-- a byte more
abbrev pub take_byte : State → ℕ → Result State Offence
take_byte s byte =
    if byte == 10 then ended_by_lf s (ends_at_lf s.phase (ends s))
    else if byte == 13 then ended_by_cr s (ends s)
    else within s s.phase byte

-- bytes one after another
abbrev pub then_run : Result State Offence → (State → Result State Offence) → Result State Offence
then_run (Ok s) rest = rest s
then_run (Err offence) rest = Err offence

abbrev pub run : State → List ℕ → Result State Offence
run s [] = Ok s
run s (byte ∷ bytes) = then_run (take_byte s byte) (λ next. run next bytes)

-- the packets of bytes that are read from a place on, or the first offence
abbrev pub at_end : State → Option Bool → ℕ → Result TimedPackets Refusal
at_end s (Some packet) place = Ok (placed_with s packet)
at_end s None place = Err (record { place = place; why = why_in s.phase })

abbrev pub behind : ℕ → Result State Offence → (State → Result TimedPackets Refusal) → Result TimedPackets Refusal
behind place (Err offence) rest = Err (record { place = place - offence.back; why = offence.why })
behind place (Ok next) rest = rest next

abbrev pub read_from : ℕ → State → List ℕ → Result TimedPackets Refusal
read_from place s [] = at_end s (ends s) place
read_from place s (byte ∷ bytes) = behind place (take_byte s byte) (λ next. read_from (place + 1) next bytes)

-- of a whole file
abbrev pub read_file : List ℕ → Result TimedPackets Refusal
read_file bytes = read_from 0 at_first bytes
