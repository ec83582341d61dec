-- Believed in part: the program's answer stands on some of these definitions.
-- SCC files read byte by byte: the pairs at their frames, or the first offence.
use Rattle.std.specs.Prelude.{◌≡◌, ℕ, ◌+◌, ◌-◌, ◌<◌, Bool, true, false, if◌then◌else◌, nat_lt, max, List, [], ◌∷◌, Option, Some, None, Result, Ok, Err, unwrap_or, is_some, ⊤, ◌≤◌}
use Rattle.std.specs.Option.{option_and_then}
use Rattle.std.specs.Result.{result_ok}
use Rattle.cc_base.specs.declared.refusal.Refusal.{Refusal}
use Rattle.cc_base.specs.declared.why.Why.TheVariants as why
use Rattle.line21_codes.specs.declared.pairs.Pair.{Pair}
use Rattle.time_codes.specs.Frames.{frame_of}
use Rattle.time_codes.specs.Texts.{time_of_text}
use Rattle.scc_files.specs.Phases.{may_end, phase_after, why_in}
use Rattle.cc_base.specs.declared.limit_of.LimitOf.TheVariants as limit
use Rattle.scc_files.specs.declared.fault.SccFault.{SccFault}
use Rattle.scc_files.specs.declared.fault.SccFault.TheVariants as fault
use Rattle.scc_files.specs.declared.phase.Phase.{Phase}
use Rattle.scc_files.specs.declared.phase.Phase.TheVariants as phase
use Rattle.scc_files.specs.declared.reader.Offence.{Offence}
use Rattle.scc_files.specs.declared.reader.Position.{Position}
use Rattle.scc_files.specs.declared.reader.Reader.{Reader}

-- the frame of the day of a time code's text, if a frame has it
abbrev pub frame_of_text : List ℕ → Option ℕ
frame_of_text text = option_and_then (λ t. result_ok (frame_of t)) (time_of_text text)

-- where the first pair stands, if frame 0 is at this frame of the day, or at the first line's
abbrev pub at_first_frame : Option ℕ → Position
at_first_frame opening = record { start = opening; last = unwrap_or opening 0; next = 0 }

-- where bytes begin to be read
abbrev pub at_first : Option ℕ → Reader
at_first opening = record { phase = phase.First 0; position = at_first_frame opening }

-- where the first pair of a line stands whose time code has this frame of the day
abbrev pub line_at : Position → ℕ → Position
line_at p frame =
    record { start = Some (unwrap_or p.start frame); last = frame; next = max (frame - unwrap_or p.start frame) p.next }

-- where this many pairs later stand
abbrev pub pairs_on : Position → ℕ → Position
pairs_on p count = record p { next = p.next + count }

-- a line of this frame of the day begins, unless there is none or it is before the previous line's
abbrev pub timed : Position → Option ℕ → Result Position Offence
timed p None = Err (record { back = 10; why = why.NoSuchTime })
timed p (Some frame) = if nat_lt frame p.last then Err (record { back = 10; why = why.Backwards }) else Ok (line_at p frame)

-- the same where only the form of files is judged
abbrev pub timed_form : Position → Bool → Result Position Offence
timed_form p false = Err (record { back = 10; why = why.NoSuchTime })
timed_form p true = Ok p

-- whether time codes are judged, or only the form
abbrev pub judged : Bool → Position → List ℕ → Result Position Offence
judged true p text = timed p (frame_of_text text)
judged false p text = timed_form p (is_some (time_of_text text))

-- a reader, and the pair at its frame that the last byte made whole
abbrev pub Stepped : Type 0
Stepped = Reader × Option (ℕ × Pair)

-- what reaching a phase does: a text is judged, a pair is placed
abbrev pub text_done : Phase → Result Position Offence → Result Stepped Offence
text_done to (Err offence) = Err offence
text_done to (Ok p) = Ok (record { phase = to; position = p }, None)

abbrev pub reached : Bool → Position → Phase → Result Stepped Offence
reached judging p (phase.Timed text) = text_done (phase.Timed text) (judged judging p text)
reached judging p (phase.Whole pair) = Ok (record { phase = phase.Whole pair; position = pairs_on p 1 }, Some (p.next, pair))
reached judging p other = Ok (record { phase = other; position = p }, None)

abbrev pub step_to : Bool → Reader → Option Phase → Result Stepped Offence
step_to judging r None = Err (record { back = 0; why = why_in r.phase })
step_to judging r (Some to) = reached judging r.position to

-- a byte more
abbrev pub step : Bool → Reader → ℕ → Result Stepped Offence
step judging r byte = step_to judging r (phase_after r.phase byte)

-- a pair more in front, if there is one
abbrev pub with_pair : Option (ℕ × Pair) → Result (List (ℕ × Pair)) Refusal → Result (List (ℕ × Pair)) Refusal
with_pair None rest = rest
with_pair (Some placed) (Ok pairs) = Ok (placed ∷ pairs)
with_pair (Some placed) (Err refusal) = Err refusal

-- the pairs after a step at a place, or the offence
abbrev pub behind : ℕ → Result Stepped Offence → (Reader → Result (List (ℕ × Pair)) Refusal) → Result (List (ℕ × Pair)) Refusal
behind place (Err offence) rest = Err (record { place = place - offence.back; why = offence.why })
behind place (Ok (r, given)) rest = with_pair given (rest r)

-- the pairs of bytes that are read from a place on, or the first offence
abbrev pub read_from : Bool → ℕ → Reader → List ℕ → Result (List (ℕ × Pair)) Refusal
read_from judging place r [] = if may_end r.phase then Ok [] else Err (record { place = place; why = why_in r.phase })
read_from judging place r (byte ∷ bytes) = behind place (step judging r byte) (λ s. read_from judging (place + 1) s bytes)

-- of a whole file
abbrev pub read_file : Option ℕ → List ℕ → Result (List (ℕ × Pair)) Refusal
read_file opening bytes = read_from true 0 (at_first opening) bytes

-- how many frames pairs at frames in order take: the frames up to the last pair's
abbrev pub frames_to : ℕ → List (ℕ × Pair) → ℕ
frames_to frames [] = frames
frames_to frames (placed ∷ pairs) = frames_to (placed.0 + 1) pairs

abbrev pub frames_of : List (ℕ × Pair) → ℕ
frames_of pairs = frames_to 0 pairs

-- an answer: the pairs, or that they take too many frames, or the first offence; or that memory ran out
abbrev pub AnswersPairs : Result (List (ℕ × Pair)) Refusal → Result (List (ℕ × Pair)) SccFault → Type 0
AnswersPairs due (Ok pairs) = (due ≡ Ok pairs) × (frames_of pairs ≤ 2592000)
AnswersPairs due (Err (fault.Memory error)) = ⊤
AnswersPairs due (Err (fault.Limit limit.Frames)) = (pairs : List (ℕ × Pair)) × (due ≡ Ok pairs) × (2592000 < frames_of pairs)
AnswersPairs due (Err (fault.Limit _)) = ⊥
AnswersPairs due (Err (fault.Malformed refusal)) = due ≡ Err refusal
