-- Believed in part: the program's answer stands on some of these definitions.
-- Time codes at 24, 25, 30, 50 and 60 frames a second, at 30 and 60 also with drop frame (SMPTE ST 12-1; ST 12-3 above 30). With drop
-- frame the first frame numbers of each minute, two at 30 frames a second and four at 60, are left out of the count, except for minutes
-- 00, 10, 20, 30, 40 and 50. So the frame of a time code is how many of the time codes before it aren't left out. Whether its text has a
-- semicolon says nothing here.
use Rattle.std.specs.Prelude.{◌≡◌, ℕ, zero, suc, ◌+◌, ◌-◌, ◌*◌, ◌/◌, ◌%◌, ◌<◌, ◌==◌, ◌&&◌, Bool, true, not, false, if◌then◌else◌, nat_lt, List, codes, Result, Ok, Err}
use Rattle.cc_base.specs.declared.why.Why.{Why}
use Rattle.cc_base.specs.declared.why.Why.TheVariants as why
use Rattle.time_codes.specs.declared.counting.Counting.{Counting}
use Rattle.time_codes.specs.declared.counting.Counting.TheVariants as counting
use Rattle.time_codes.specs.declared.time_code.TimeCode.{TimeCode}

-- how many frames a second has
abbrev pub frames_a_second : Counting → ℕ
frames_a_second counting.F24 = 24
frames_a_second counting.F25 = 25
frames_a_second counting.F30 = 30
frames_a_second counting.F30Drop = 30
frames_a_second counting.F50 = 50
frames_a_second counting.F60 = 60
frames_a_second counting.F60Drop = 60

-- whether it counts with drop frame
abbrev pub has_drop_frame : Counting → Bool
has_drop_frame counting.F30Drop = true
has_drop_frame counting.F60Drop = true
has_drop_frame _ = false

-- how many frame numbers are left out at the start of a minute where some are
abbrev pub numbers_left_out : Counting → ℕ
numbers_left_out counting.F30Drop = 2
numbers_left_out counting.F60Drop = 4
numbers_left_out _ = 0

-- the time code at a place of the count that leaves none out
abbrev pub time_code_in : Counting → ℕ → TimeCode
time_code_in count place =
    record {
      h = place / frames_a_second count / 3600;
      m = place / frames_a_second count / 60 % 60;
      s = place / frames_a_second count % 60;
      f = place % frames_a_second count;
      drop_frame = has_drop_frame count;
    }

-- drop frame leaves it out: the first frame numbers of each minute, except for minutes 00, 10, 20, 30, 40 and 50
abbrev pub is_left_out_in : Counting → TimeCode → Bool
is_left_out_in count t = has_drop_frame count && (t.s == 0) && nat_lt t.f (numbers_left_out count) && not (t.m % 10 == 0)

-- a frame of the day has it
abbrev pub is_time_code_in : Counting → TimeCode → Bool
is_time_code_in count t =
    nat_lt t.h 24 && nat_lt t.m 60 && nat_lt t.s 60 && nat_lt t.f (frames_a_second count) && not (is_left_out_in count t)

-- how many of the time codes before a place aren't left out
unfoldable pub codes_before_in : Counting → ℕ → ℕ
codes_before_in count zero = 0
codes_before_in count (suc place) =
    codes_before_in count place + (if is_left_out_in count (time_code_in count place) then 0 else 1)

-- the frame that a time code of the day names: how many time codes of the day stand before it
pub record IsFrameIn (count : Counting) (t : TimeCode) (frame : ℕ) : Type 0 where
  pub place : ℕ
  pub is : record t { drop_frame = has_drop_frame count } ≡ time_code_in count place
  pub within : place < 86400 * frames_a_second count
  pub stands : is_left_out_in count t ≡ false
  pub counted : frame ≡ codes_before_in count place

-- how many frames a day has: 86,400 seconds of them, or with drop frame fewer by those left out in each minute but every tenth
abbrev pub day_frames_in : Counting → ℕ
day_frames_in counting.F24 = 2073600
day_frames_in counting.F25 = 2160000
day_frames_in counting.F30 = 2592000
day_frames_in counting.F30Drop = 2589408
day_frames_in counting.F50 = 4320000
day_frames_in counting.F60 = 5184000
day_frames_in counting.F60Drop = 5178816

-- the frame of a time code that the day has, where this many minutes begin before its own
abbrev pub number_in : Counting → ℕ → ℕ → ℕ → ℕ
number_in count minutes s f =
    60 * frames_a_second count * minutes + frames_a_second count * s + f - numbers_left_out count * (minutes - minutes / 10)

abbrev pub frame_number_in : Counting → TimeCode → ℕ
frame_number_in count t = number_in count (60 * t.h + t.m) t.s t.f

-- the frame of a time code, or that there is no such time
abbrev pub frame_in : Counting → TimeCode → Result ℕ Why
frame_in count t = if is_time_code_in count t then Ok (frame_number_in count t) else Err why.NoSuchTime

-- the place of a frame in the count that leaves none out: at 30 frames a second ten minutes of drop frame have 17,982 frames, of which the
-- first minute has 1,800 and each of the others 1,798; at 60 they have 35,964, 3,600 and 3,596
abbrev pub place_in : Counting → ℕ → ℕ
place_in counting.F30Drop frame = frame + 18 * (frame / 17982) + 2 * ((frame % 17982 - 2) / 1798)
place_in counting.F60Drop frame = frame + 36 * (frame / 35964) + 4 * ((frame % 35964 - 4) / 3596)
place_in _ frame = frame

-- the time code of a frame
abbrev pub time_in : Counting → ℕ → TimeCode
time_in count frame = time_code_in count (place_in count frame)

-- the count of time codes at 30 frames a second, with drop frame or without
abbrev pub counting_at_30 : Bool → Counting
counting_at_30 drop_frame = if drop_frame then counting.F30Drop else counting.F30

-- the text of a count, as files of packets name it
abbrev pub counting_text : Counting → List ℕ
counting_text counting.F24 = codes "24"
counting_text counting.F25 = codes "25"
counting_text counting.F30 = codes "30"
counting_text counting.F30Drop = codes "30DF"
counting_text counting.F50 = codes "50"
counting_text counting.F60 = codes "60"
counting_text counting.F60Drop = codes "60DF"
