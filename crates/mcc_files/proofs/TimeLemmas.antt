-- The time codes that are written.
use Rattle.std.proofs.Common.{◌≡◌, ℕ, ◌+◌, ◌/◌, ◌%◌, ◌≤◌, ◌<◌, ◌==◌, ◌&&◌, Bool, true, false, cond, nat_le, nat_lt, Result, Ok, Err, ap, ◌∙◌, subst, refl, arith, rules, length}
use Rattle.cc_base.specs.declared.why.Why.{Why}
use Rattle.cc_base.specs.declared.why.Why.TheVariants as why
use Rattle.mcc_files.specs.MccFiles.{day_begins, frame_after, goes_over_midnight, stands_after}
use Rattle.std.proofs.lemmas.Grind.{common_steps}
use Rattle.time_codes.specs.Countings.{counting_text, day_frames_in, frame_in, frames_a_second, place_in, time_in}
use Rattle.time_codes.specs.Texts.{HasTwoDigits}
use Rattle.time_codes.specs.declared.counting.Counting.{Counting}
use Rattle.time_codes.specs.declared.counting.Counting.TheVariants as counting
use Rattle.time_codes.specs.declared.time_code.TimeCode.{TimeCode}

-- the time code of a frame with a colon before the frames
abbrev pub colon_time : Counting → ℕ → TimeCode
colon_time count frame = record (time_in count frame) { drop_frame = false }

-- the numbers of a place within the day have two digits
pub record IsShort (frames place : ℕ) : Type 0 where
  pub hours : place / frames / 3600 < 24
  pub rest : place % frames < 60

pub short : (count : Counting) (frame : ℕ) → frame < day_frames_in count → IsShort (frames_a_second count) (place_in count frame)
short counting.F24 frame below = record { hours = omega arith; rest = omega arith }
short counting.F25 frame below = record { hours = omega arith; rest = omega arith }
short counting.F30 frame below = record { hours = omega arith; rest = omega arith }
short counting.F30Drop frame below = record { hours = omega arith; rest = omega arith }
short counting.F50 frame below = record { hours = omega arith; rest = omega arith }
short counting.F60 frame below = record { hours = omega arith; rest = omega arith }
short counting.F60Drop frame below = record { hours = omega arith; rest = omega arith }

pub two_digits : (count : Counting) (frame : ℕ) → frame < day_frames_in count → HasTwoDigits (colon_time count frame)
two_digits count frame below =
    let fits = short count frame below in
    let hours = fits.hours in
    let rest = fits.rest in
    record { h = omega (arith, hours); m = omega arith; s = omega arith; f = omega (arith, rest) }

-- the frame of it
pub frame_again : (count : Counting) (frame : ℕ) → frame < day_frames_in count → frame_in count (colon_time count frame) ≡ Ok frame
frame_again counting.F24 frame below = first_of (search rules, grind (arith, common_steps))
frame_again counting.F25 frame below = first_of (search rules, grind (arith, common_steps))
frame_again counting.F30 frame below = first_of (search rules, grind (arith, common_steps))
frame_again counting.F30Drop frame below = first_of (search rules, grind (arith, common_steps))
frame_again counting.F50 frame below = first_of (search rules, grind (arith, common_steps))
frame_again counting.F60 frame below = first_of (search rules, grind (arith, common_steps))
frame_again counting.F60Drop frame below = first_of (search rules, grind (arith, common_steps))

-- it stands after no later frame of the day
pub frame_on_day : (count : Counting) (last frame : ℕ) → last ≤ frame → frame < day_frames_in count → frame_after count last (colon_time count frame) ≡ Ok frame
frame_on_day count last frame low below =
    let time = colon_time count frame in
    let early : nat_lt last (day_frames_in count) ≡ true = grind (arith, common_steps) in
    let first : day_begins count last ≡ 0 = ap (λ (t : Bool). cond t 0 (day_frames_in count)) early in
    let here : day_begins count last + frame ≡ frame = omega (arith, first) in
    let test : nat_le last frame ≡ true = grind (arith, common_steps) in
    ap (stands_after count last time) (frame_again count frame below)
    ∙ (ap (λ (n : ℕ). cond {A = Result ℕ Why} (nat_le last n) (Ok n)
    (cond {A = Result ℕ Why} (goes_over_midnight count last time) (Ok (day_frames_in count + frame)) (Err why.Backwards))) here
    ∙ ap (λ (t : Bool). cond {A = Result ℕ Why} t (Ok frame)
    (cond {A = Result ℕ Why} (goes_over_midnight count last time) (Ok (day_frames_in count + frame)) (Err why.Backwards))) test)

-- no frame stands before the one that it is after
pub stands_low : (count : Counting) (last at over frame : ℕ) (late midnight : Bool) → nat_le last at ≡ late → (midnight ≡ true → last ≤ over)
    → cond {A = Result ℕ Why} late (Ok at) (cond {A = Result ℕ Why} midnight (Ok over) (Err why.Backwards)) ≡ Ok frame → last ≤ frame
stands_low count last at over frame true midnight test low is =
    let same : at ≡ frame = cc in
    let after : last ≤ at = grind (arith, common_steps) in
    subst (λ (n : ℕ). last ≤ n) same after
stands_low count last at over frame false true test low is =
    let same : over ≡ frame = cc in
    subst (λ (n : ℕ). last ≤ n) same (low refl)
stands_low count last at over frame false false test low is = absurd (cc)

first_of_three : (a b c : Bool) → (a && b && c) ≡ true → a ≡ true
first_of_three true b c is = refl
first_of_three false b c is = absurd (cc)

pub frame_low : (count : Counting) (last : ℕ) (time : TimeCode) (frame : ℕ) → frame_after count last time ≡ Ok frame → last ≤ frame
frame_low count last time frame is =
    let cases : (found : Result ℕ Why) → stands_after count last time found ≡ Ok frame → last ≤ frame =
    elim [
      | Ok other ↦ λ is'.
          stands_low count last (day_begins count last + other) (day_frames_in count + other) frame (nat_le last (day_begins count last + other)) (goes_over_midnight count last time) refl
          (λ over.
          let early : nat_lt last (day_frames_in count) ≡ true = first_of_three (nat_lt last (day_frames_in count)) ((time_in count last).h == 23) (time.h == 0) over in
          let below : last < day_frames_in count = grind (arith, common_steps) in
          omega (arith, below))
          is'
      | Err reason ↦ λ is'. absurd (cc)
    ] in
    cases (frame_in count time) is

-- the text of a count has at most four bytes
pub short_text : (count : Counting) → length (counting_text count) ≤ 4
short_text counting.F24 = omega arith
short_text counting.F25 = omega arith
short_text counting.F30 = omega arith
short_text counting.F30Drop = omega arith
short_text counting.F50 = omega arith
short_text counting.F60 = omega arith
short_text counting.F60Drop = omega arith
