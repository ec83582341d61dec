-- Believed in part: the library's answers stand on some of these definitions.
-- What a call is given.
use Rattle.std.specs.Prelude.{◌≡◌, ℕ, Bool, true, false, Option, Some, None, if◌then◌else◌, ◌==◌}
use Rattle.time_codes.specs.Countings.{frames_a_second, has_drop_frame, is_time_code_in}
use Rattle.time_codes.specs.declared.counting.Counting.{Counting}
use Rattle.time_codes.specs.declared.counting.Counting.TheVariants as counting
use Rattle.time_codes.specs.declared.time_code.TimeCode.{TimeCode}
use Rattle.ccsuite_c.specs.declared.calls.StartTime.{StartTime}

abbrev pub start_of : StartTime → TimeCode
start_of start = record { h = start.hours; m = start.minutes; s = start.seconds; f = start.frames; drop_frame = start.drop_frame }

-- time codes that count like this have this many frames a second, and drop frame or none
pub record CountsSo (frames : ℕ) (drop_frame : Bool) (count : Counting) : Type 0 where
  pub frames_are : frames_a_second count ≡ frames
  pub drop : has_drop_frame count ≡ drop_frame

-- an MCC file with this many frames a second may begin at this time: time codes count like this, and a frame of the day has it
pub record IsMccStart (frames : ℕ) (start : StartTime) (count : Counting) : Type 0 where
  pub counts : CountsSo frames start.drop_frame count
  pub time : is_time_code_in count (start_of start) ≡ true

-- the one that does, if one does
abbrev pub counting_at : ℕ → Bool → Option Counting
counting_at frames true = if frames == 30 then Some counting.F30Drop else if frames == 60 then Some counting.F60Drop else None
counting_at frames false =
    if frames == 24
    then Some counting.F24
    else if frames == 25
    then Some counting.F25
    else if frames == 30
    then Some counting.F30
    else if frames == 50 then Some counting.F50 else if frames == 60 then Some counting.F60 else None
