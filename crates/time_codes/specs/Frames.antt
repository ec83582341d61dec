-- Believed: the program's answer stands on these definitions.
-- Frames and time codes computed: the frame of a time code, and the time code of a frame.
use Rattle.std.specs.Prelude.{ℕ, ◌+◌, ◌-◌, ◌*◌, ◌/◌, ◌%◌, Bool, if◌then◌else◌, Result, Ok, Err}
use Rattle.cc_base.specs.declared.why.Why.{Why}
use Rattle.cc_base.specs.declared.why.Why.TheVariants as why
use Rattle.time_codes.specs.TimeCodes.{is_time_code, time_code_at}
use Rattle.time_codes.specs.declared.time_code.TimeCode.{TimeCode}

-- the minutes of the day before a time code's own
abbrev pub minutes_before : TimeCode → ℕ
minutes_before t = 60 * t.h + t.m

-- its place in the count that leaves none out
abbrev pub counted_place : TimeCode → ℕ
counted_place t = 1800 * minutes_before t + 30 * t.s + t.f

-- its frame; with drop frame 2 fewer for each minute begun but every tenth
abbrev pub frame_number : TimeCode → ℕ
frame_number t = if t.drop_frame then counted_place t - 2 * (minutes_before t - minutes_before t / 10) else counted_place t

-- the frame of a time code, or that there is no such time
abbrev pub frame_of : TimeCode → Result ℕ Why
frame_of t = if is_time_code t then Ok (frame_number t) else Err why.NoSuchTime

-- the place of a frame in the count that leaves none out: ten minutes of drop frame have 17,982 frames, of which the first minute
-- has 1,800 and each of the others 1,798
abbrev pub place_at : ℕ → Bool → ℕ
place_at frame drop_frame = if drop_frame then frame + 18 * (frame / 17982) + 2 * ((frame % 17982 - 2) / 1798) else frame

-- the time code of a frame
abbrev pub time_at : ℕ → Bool → TimeCode
time_at frame drop_frame = time_code_at drop_frame (place_at frame drop_frame)
