-- Believed in part: the program's answer stands on some of these definitions.
-- Time codes of a day (SMPTE ST 12-1): hours, minutes, seconds and frames at 30 frames a second. With drop frame the first two frame
-- numbers, 00 and 01, are left out of the count at the start of each minute, except for minutes 00, 10, 20, 30, 40 and 50. So the
-- frame of a time code is how many of the time codes before it aren't left out.
use Rattle.std.specs.Prelude.{◌≡◌, ℕ, zero, suc, ◌+◌, ◌*◌, ◌/◌, ◌%◌, ◌<◌, ◌==◌, ◌&&◌, Bool, not, false, if◌then◌else◌, nat_lt}
use Rattle.time_codes.specs.declared.time_code.TimeCode.{TimeCode}

-- the time code at a place of the count that leaves none out: 30 frames a second, 60 seconds a minute, 60 minutes an hour
abbrev pub time_code_at : Bool → ℕ → TimeCode
time_code_at drop_frame place =
    record { h = place / 108000; m = place / 1800 % 60; s = place / 30 % 60; f = place % 30; drop_frame = drop_frame }

-- drop frame leaves it out: frames 00 and 01 at the start of each minute, except for minutes 00, 10, 20, 30, 40 and 50
abbrev pub is_left_out : TimeCode → Bool
is_left_out t = t.drop_frame && (t.s == 0) && nat_lt t.f 2 && not (t.m % 10 == 0)

-- a frame of the day has it
abbrev pub is_time_code : TimeCode → Bool
is_time_code t = nat_lt t.h 24 && nat_lt t.m 60 && nat_lt t.s 60 && nat_lt t.f 30 && not (is_left_out t)

-- how many of the time codes before a place aren't left out
unfoldable pub codes_before : Bool → ℕ → ℕ
codes_before drop_frame zero = 0
codes_before drop_frame (suc place) = codes_before drop_frame place + (if is_left_out (time_code_at drop_frame place) then 0 else 1)

-- the frame that a time code of the day names: how many time codes of the day stand before it
pub record IsFrameOf (t : TimeCode) (frame : ℕ) : Type 0 where
  pub place : ℕ
  pub is : t ≡ time_code_at t.drop_frame place
  pub within : place < 24 * 108000
  pub stands : is_left_out t ≡ false
  pub count : frame ≡ codes_before t.drop_frame place

-- how many frames a day has: 24 hours of 108,000, or with drop frame 2 fewer for each minute but every tenth
abbrev pub day_frames : Bool → ℕ
day_frames drop_frame = if drop_frame then 2589408 else 2592000
