-- Believed: the program's answer stands on these definitions.
-- Which bytes are an MCC file of which packets at which frames. The time code rate stands once, attributes before the first packet, and
-- packets after the time code rate. No packet's time code is before the previous packet's, unless midnight lies between them, once in a file.
use Rattle.std.specs.Prelude.{◌≡◌, ℕ, ◌+◌, ◌==◌, ◌&&◌, Bool, if◌then◌else◌, nat_le, nat_lt, List, [], ◌∷◌, Result, Ok, Err}
use Rattle.cc_base.specs.declared.why.Why.{Why}
use Rattle.cc_base.specs.declared.why.Why.TheVariants as why
use Rattle.time_codes.specs.Countings.{day_frames_in, frame_in, time_in}
use Rattle.time_codes.specs.declared.time_code.TimeCode.{TimeCode}
use Rattle.time_codes.specs.declared.counting.Counting.{Counting}
use Rattle.mcc_files.specs.Lines.{IsMccForm, Line, Version, attribute, nothing, packet, rate}
use Rattle.mcc_files.specs.Payloads.{Payload}

-- packets, each at its frame of the day; after midnight frames are counted on from the day's number of frames
abbrev pub TimedPackets : Type 0
TimedPackets = List (ℕ × Payload)

-- the first frame of the day of a frame: 0, or after midnight the day's number of frames
abbrev pub day_begins : Counting → ℕ → ℕ
day_begins count last = if nat_lt last (day_frames_in count) then 0 else day_frames_in count

-- midnight lies between a frame and a time code: the frame's hour is 23, and the time code's is 00; no midnight came before
abbrev pub goes_over_midnight : Counting → ℕ → TimeCode → Bool
goes_over_midnight count last time = nat_lt last (day_frames_in count) && ((time_in count last).h == 23) && (time.h == 0)

-- where a time code stands after the frame `last`, if this is its frame of the day
abbrev pub stands_after : Counting → ℕ → TimeCode → Result ℕ Why → Result ℕ Why
stands_after count last time (Ok frame) =
    if nat_le last (day_begins count last + frame) then Ok (day_begins count last + frame)
    else if goes_over_midnight count last time then Ok (day_frames_in count + frame)
    else Err why.Backwards
stands_after count last time (Err reason) = Err reason

-- the frame of a time code after `last`
abbrev pub frame_after : Counting → ℕ → TimeCode → Result ℕ Why
frame_after count last time = stands_after count last time (frame_in count time)

-- lines after a packet of this frame: further packets, none before it
abbrev pub SayPackets : Counting → ℕ → List Line → TimedPackets → Type 0
SayPackets count last [] placed = placed ≡ []
SayPackets count last (nothing ∷ lines) placed = SayPackets count last lines placed
SayPackets count last (attribute ∷ lines) placed = ⊥
SayPackets count last (rate other ∷ lines) placed = ⊥
SayPackets count last (packet time payload ∷ lines) placed =
    (frame : ℕ) × (rest : TimedPackets) × (frame_after count last time ≡ Ok frame) × SayPackets count frame lines rest × (placed ≡ (frame, payload) ∷ rest)

-- lines after the time code rate
abbrev pub SayCounted : Counting → List Line → TimedPackets → Type 0
SayCounted count [] placed = placed ≡ []
SayCounted count (nothing ∷ lines) placed = SayCounted count lines placed
SayCounted count (attribute ∷ lines) placed = SayCounted count lines placed
SayCounted count (rate other ∷ lines) placed = ⊥
SayCounted count (packet time payload ∷ lines) placed = SayPackets count 0 (packet time payload ∷ lines) placed

-- lines of a whole file
abbrev pub Say : List Line → TimedPackets → Type 0
Say [] placed = placed ≡ []
Say (nothing ∷ lines) placed = Say lines placed
Say (attribute ∷ lines) placed = Say lines placed
Say (rate count ∷ lines) placed = SayCounted count lines placed
Say (packet time payload ∷ lines) placed = ⊥

-- the bytes are an MCC file of the packets
pub record IsMccFile (placed : TimedPackets) (bytes : List ℕ) : Type 0 where
  pub version : Version
  pub lines : List Line
  pub form : IsMccForm version lines bytes
  pub say : Say lines placed
