-- Frames and time codes at each rate.
use Rattle.std.proofs.Common.{◌≡◌, ◌==◌, ◌&&◌, not, ℕ, zero, suc, ◌+◌, ◌-◌, ◌*◌, ◌/◌, ◌%◌, ◌<◌, Bool, true, false, cond, nat_lt, nat_eq, refl, sym, ◌∙◌, ap, subst, add-one, arith, Ok, Err}
use Rattle.std.proofs.lemmas.Grind.{common_steps}
use Rattle.time_codes.specs.Countings.{IsFrameIn, codes_before_in, counting_at_30, day_frames_in, frame_in, frame_number_in, frames_a_second, has_drop_frame, is_left_out_in, is_time_code_in, number_in, numbers_left_out, place_in, time_code_in, time_in}
use Rattle.time_codes.specs.Frames.{frame_of, time_at, place_at}
use Rattle.time_codes.specs.TimeCodes.{is_time_code, time_code_at}
use Rattle.cc_base.specs.declared.why.Why.TheVariants as why
use Rattle.time_codes.specs.declared.counting.Counting.{Counting}
use Rattle.time_codes.specs.declared.counting.Counting.TheVariants as counting
use Rattle.time_codes.specs.declared.time_code.TimeCode.{TimeCode}
use Rattle.time_codes.proofs.CountLemmas.{count_more}

-- the place of a time code in the count that leaves none out
abbrev pub counted_place_in : Counting → TimeCode → ℕ
counted_place_in count t = 60 * frames_a_second count * (60 * t.h + t.m) + frames_a_second count * t.s + t.f

-- this many for each minute before but every tenth, and up to as many of the minute itself
abbrev pub left_out_in : Counting → ℕ → ℕ → ℕ
left_out_in count minute rest =
    numbers_left_out count * (minute - (minute + 9) / 10) + cond (nat_eq (minute % 10) 0) 0 (cond (nat_lt rest (numbers_left_out count)) rest (numbers_left_out count))

abbrev pub left_out_before_in : Counting → ℕ → ℕ
left_out_before_in count place = left_out_in count (place / (60 * frames_a_second count)) (place % (60 * frames_a_second count))

abbrev pub one_more_in : Counting → ℕ → ℕ
one_more_in count place = cond (is_left_out_in count (time_code_in count place)) 1 0

pub step_30 : (place : ℕ) → left_out_before_in counting.F30Drop (place + 1) ≡ left_out_before_in counting.F30Drop place + one_more_in counting.F30Drop place
step_30 place = grind arith

pub step_60 : (place : ℕ) → left_out_before_in counting.F60Drop (place + 1) ≡ left_out_before_in counting.F60Drop place + one_more_in counting.F60Drop place
step_60 place = grind arith

-- a count that leaves some out
abbrev pub IsStep : Counting → Type 0
IsStep count = (place : ℕ) → left_out_before_in count (place + 1) ≡ left_out_before_in count place + one_more_in count place

pub next_of : (count : Counting) → IsStep count → (place : ℕ) → left_out_before_in count (suc place) ≡ left_out_before_in count place + one_more_in count place
next_of count steps place = subst (λ next. left_out_before_in count next ≡ left_out_before_in count place + one_more_in count place) (add-one place) (steps place)

pub codes_count_in : (count : Counting) → left_out_before_in count 0 ≡ 0 → IsStep count → (place : ℕ) → codes_before_in count place + left_out_before_in count place ≡ place
unfolding codes_before_in
codes_count_in count none steps zero = rw none refl
codes_count_in count none steps (suc place) =
    count_more (codes_before_in count place) (left_out_before_in count place) (left_out_before_in count (suc place)) place (is_left_out_in count (time_code_in count place))
    (codes_count_in count none steps place) (next_of count steps place)

pub all_count_in : (count : Counting) → has_drop_frame count ≡ false → (place : ℕ) → codes_before_in count place ≡ place
unfolding codes_before_in
all_count_in count none zero = refl
all_count_in count none (suc place) =
    let below = all_count_in count none place in
    rw none (omega (arith, below))

-- what is known of a time code of the day
pub record IsOfDayIn (count : Counting) (t : TimeCode) : Type 0 where
  pub h : t.h < 24
  pub m : t.m < 60
  pub s : t.s < 60
  pub f : t.f < frames_a_second count
  pub stands : is_left_out_in count t ≡ false

pub of_day_in : (count : Counting) (t : TimeCode) → is_time_code_in count t ≡ true → IsOfDayIn count t
of_day_in count t is = record { h = grind (arith, common_steps); m = grind (arith, common_steps); s = grind (arith, common_steps); f = grind (arith, common_steps); stands = grind (arith, common_steps) }

pub is_of_day_in : (count : Counting) (t : TimeCode) → IsOfDayIn count t → is_time_code_in count t ≡ true
is_of_day_in count t day =
    let h = day.h in let m = day.m in let s = day.s in let f = day.f in let stands = day.stands in
    grind (arith, common_steps)

-- the numbers of a place, and the place of the numbers
pub record HasNumbers (frames : ℕ) (place h m s f : ℕ) : Type 0 where
  pub hours : place / frames / 3600 ≡ h
  pub minutes : place / frames / 60 % 60 ≡ m
  pub seconds : place / frames % 60 ≡ s
  pub rest : place % frames ≡ f
  pub within : place < 86400 * frames

pub numbers : (count : Counting) (h m s f : ℕ) → h < 24 → m < 60 → s < 60 → f < frames_a_second count
    → HasNumbers (frames_a_second count) (60 * frames_a_second count * (60 * h + m) + frames_a_second count * s + f) h m s f
numbers counting.F24 h m s f h_fits m_fits s_fits f_fits = record { hours = omega arith; minutes = omega arith; seconds = omega arith; rest = omega arith; within = omega arith }
numbers counting.F25 h m s f h_fits m_fits s_fits f_fits = record { hours = omega arith; minutes = omega arith; seconds = omega arith; rest = omega arith; within = omega arith }
numbers counting.F30 h m s f h_fits m_fits s_fits f_fits = record { hours = omega arith; minutes = omega arith; seconds = omega arith; rest = omega arith; within = omega arith }
numbers counting.F30Drop h m s f h_fits m_fits s_fits f_fits = record { hours = omega arith; minutes = omega arith; seconds = omega arith; rest = omega arith; within = omega arith }
numbers counting.F50 h m s f h_fits m_fits s_fits f_fits = record { hours = omega arith; minutes = omega arith; seconds = omega arith; rest = omega arith; within = omega arith }
numbers counting.F60 h m s f h_fits m_fits s_fits f_fits = record { hours = omega arith; minutes = omega arith; seconds = omega arith; rest = omega arith; within = omega arith }
numbers counting.F60Drop h m s f h_fits m_fits s_fits f_fits = record { hours = omega arith; minutes = omega arith; seconds = omega arith; rest = omega arith; within = omega arith }

pub place_again : (count : Counting) (place : ℕ) → place < 86400 * frames_a_second count → counted_place_in count (time_code_in count place) ≡ place
place_again counting.F24 place within = omega arith
place_again counting.F25 place within = omega arith
place_again counting.F30 place within = omega arith
place_again counting.F30Drop place within = omega arith
place_again counting.F50 place within = omega arith
place_again counting.F60 place within = omega arith
place_again counting.F60Drop place within = omega arith

-- the time code, with the mark of its count
abbrev pub marked : Counting → TimeCode → TimeCode
marked count t = record t { drop_frame = has_drop_frame count }

pub code_again_in : (count : Counting) (t : TimeCode) → IsOfDayIn count t → marked count t ≡ time_code_in count (counted_place_in count t)
code_again_in count t day =
    let all = numbers count t.h t.m t.s t.f day.h day.m day.s day.f in
    rw (all.hours, all.minutes, all.seconds, all.rest) refl

-- the count of those before, with drop frame and without
pub known_30 : (minutes s f : ℕ) → (60 * 30 * minutes + 30 * s + f) / 1800 ≡ minutes → (60 * 30 * minutes + 30 * s + f) % 1800 ≡ 30 * s + f
    → ((s == 0) && nat_lt f 2 && not (minutes % 10 == 0)) ≡ false → left_out_before_in counting.F30Drop (60 * 30 * minutes + 30 * s + f) ≡ 2 * (minutes - minutes / 10)
known_30 minutes s f at rest stands = rw (at, rest) (grind (arith, common_steps))

pub known_60 : (minutes s f : ℕ) → (60 * 60 * minutes + 60 * s + f) / 3600 ≡ minutes → (60 * 60 * minutes + 60 * s + f) % 3600 ≡ 60 * s + f
    → ((s == 0) && nat_lt f 4 && not (minutes % 10 == 0)) ≡ false → left_out_before_in counting.F60Drop (60 * 60 * minutes + 60 * s + f) ≡ 4 * (minutes - minutes / 10)
known_60 minutes s f at rest stands = rw (at, rest) (grind (arith, common_steps))

pub counts_30 : (h m s f : ℕ) → h < 24 → m < 60 → s < 60 → f < 30
    → is_left_out_in counting.F30Drop (record { h = h; m = m; s = s; f = f; drop_frame = true }) ≡ false
    → number_in counting.F30Drop (60 * h + m) s f ≡ codes_before_in counting.F30Drop (60 * 30 * (60 * h + m) + 30 * s + f)
counts_30 h m s f h_fits m_fits s_fits f_fits stands =
    let tens : (60 * h + m) % 10 ≡ m % 10 = omega arith in
    let known = known_30 (60 * h + m) s f (omega arith) (omega arith) (rw tens stands) in
    let count = codes_count_in counting.F30Drop refl step_30 (60 * 30 * (60 * h + m) + 30 * s + f) in
    omega (arith, known, count)

pub counts_60 : (h m s f : ℕ) → h < 24 → m < 60 → s < 60 → f < 60
    → is_left_out_in counting.F60Drop (record { h = h; m = m; s = s; f = f; drop_frame = true }) ≡ false
    → number_in counting.F60Drop (60 * h + m) s f ≡ codes_before_in counting.F60Drop (60 * 60 * (60 * h + m) + 60 * s + f)
counts_60 h m s f h_fits m_fits s_fits f_fits stands =
    let tens : (60 * h + m) % 10 ≡ m % 10 = omega arith in
    let known = known_60 (60 * h + m) s f (omega arith) (omega arith) (rw tens stands) in
    let count = codes_count_in counting.F60Drop refl step_60 (60 * 60 * (60 * h + m) + 60 * s + f) in
    omega (arith, known, count)

-- without drop frame all are counted
pub counts_all : (count : Counting) (minutes s f : ℕ) → has_drop_frame count ≡ false → numbers_left_out count ≡ 0
    → number_in count minutes s f ≡ codes_before_in count (60 * frames_a_second count * minutes + frames_a_second count * s + f)
counts_all count minutes s f none zero_out =
    let all = all_count_in count none (60 * frames_a_second count * minutes + frames_a_second count * s + f) in
    rw zero_out (omega (arith, all))

pub frame_counts_in : (count : Counting) (t : TimeCode) → IsOfDayIn count t → frame_number_in count t ≡ codes_before_in count (counted_place_in count t)
frame_counts_in counting.F24 t day = counts_all counting.F24 (60 * t.h + t.m) t.s t.f refl refl
frame_counts_in counting.F25 t day = counts_all counting.F25 (60 * t.h + t.m) t.s t.f refl refl
frame_counts_in counting.F30 t day = counts_all counting.F30 (60 * t.h + t.m) t.s t.f refl refl
frame_counts_in counting.F30Drop t day = counts_30 t.h t.m t.s t.f day.h day.m day.s day.f day.stands
frame_counts_in counting.F50 t day = counts_all counting.F50 (60 * t.h + t.m) t.s t.f refl refl
frame_counts_in counting.F60 t day = counts_all counting.F60 (60 * t.h + t.m) t.s t.f refl refl
frame_counts_in counting.F60Drop t day = counts_60 t.h t.m t.s t.f day.h day.m day.s day.f day.stands

-- what `frame_in` says of a time code: it is one of the day, and has this frame
pub record HasFrame (count : Counting) (t : TimeCode) (frame : ℕ) : Type 0 where
  pub day : IsOfDayIn count t
  pub number : frame_number_in count t ≡ frame

pub has_frame : (count : Counting) (t : TimeCode) (frame : ℕ) → frame_in count t ≡ Ok frame → HasFrame count t frame
has_frame count t frame is =
    let cases : (b : Bool) → is_time_code_in count t ≡ b → HasFrame count t frame =
    elim [
      | true ↦ λ good. record { day = of_day_in count t good; number = cc }
      | false ↦ λ bad. absurd (grind (arith, common_steps))
    ] in
    cases (is_time_code_in count t) refl

pub counts_in : (count : Counting) (t : TimeCode) (frame : ℕ) → frame_in count t ≡ Ok frame → IsFrameIn count t frame
counts_in count t frame is =
    let has = has_frame count t frame is in
    record {
      place = counted_place_in count t;
      is = code_again_in count t has.day;
      within = (numbers count t.h t.m t.s t.f has.day.h has.day.m has.day.s has.day.f).within;
      stands = has.day.stands;
      counted = sym has.number ∙ frame_counts_in count t has.day;
    }

pub remainder_fits : (count : Counting) (place : ℕ) → place < 86400 * frames_a_second count
    → (place / frames_a_second count / 3600 < 24) × (place % frames_a_second count < frames_a_second count)
remainder_fits counting.F24 place within = (omega arith, omega arith)
remainder_fits counting.F25 place within = (omega arith, omega arith)
remainder_fits counting.F30 place within = (omega arith, omega arith)
remainder_fits counting.F30Drop place within = (omega arith, omega arith)
remainder_fits counting.F50 place within = (omega arith, omega arith)
remainder_fits counting.F60 place within = (omega arith, omega arith)
remainder_fits counting.F60Drop place within = (omega arith, omega arith)

pub counted_in : (count : Counting) (t : TimeCode) (frame : ℕ) → IsFrameIn count t frame → frame_in count t ≡ Ok frame
counted_in count t frame named =
    let place = named.place in
    let h : t.h ≡ place / frames_a_second count / 3600 = ap (λ u. u.h) named.is in
    let m : t.m ≡ place / frames_a_second count / 60 % 60 = ap (λ u. u.m) named.is in
    let s : t.s ≡ place / frames_a_second count % 60 = ap (λ u. u.s) named.is in
    let f : t.f ≡ place % frames_a_second count = ap (λ u. u.f) named.is in
    let fits = remainder_fits count place named.within in
    let day : IsOfDayIn count t = record { h = omega (arith, h, fits.0); m = omega (arith, m); s = omega (arith, s); f = omega (arith, f, fits.1); stands = named.stands } in
    let at : counted_place_in count t ≡ place = ap (λ u. counted_place_in count u) named.is ∙ place_again count place named.within in
    let same : frame_number_in count t ≡ frame =
    frame_counts_in count t day ∙ (ap (λ p. codes_before_in count p) at ∙ sym named.counted) in
    let good : is_time_code_in count t ≡ true = is_of_day_in count t day in
    rw good (ap (λ n. Ok n) same)

-- the place of the frame of a time code of the day is its own
pub place_of_number_30 : (h m s f : ℕ) → h < 24 → m < 60 → s < 60 → f < 30
    → is_left_out_in counting.F30Drop (record { h = h; m = m; s = s; f = f; drop_frame = true }) ≡ false
    → place_in counting.F30Drop (number_in counting.F30Drop (60 * h + m) s f) ≡ 60 * 30 * (60 * h + m) + 30 * s + f
place_of_number_30 h m s f h_fits m_fits s_fits f_fits stands = grind (arith, common_steps)

pub place_of_number_60 : (h m s f : ℕ) → h < 24 → m < 60 → s < 60 → f < 60
    → is_left_out_in counting.F60Drop (record { h = h; m = m; s = s; f = f; drop_frame = true }) ≡ false
    → place_in counting.F60Drop (number_in counting.F60Drop (60 * h + m) s f) ≡ 60 * 60 * (60 * h + m) + 60 * s + f
place_of_number_60 h m s f h_fits m_fits s_fits f_fits stands = grind (arith, common_steps)

pub place_of_number : (count : Counting) (t : TimeCode) → IsOfDayIn count t → place_in count (frame_number_in count t) ≡ counted_place_in count t
place_of_number counting.F24 t day = omega arith
place_of_number counting.F25 t day = omega arith
place_of_number counting.F30 t day = omega arith
place_of_number counting.F30Drop t day = place_of_number_30 t.h t.m t.s t.f day.h day.m day.s day.f day.stands
place_of_number counting.F50 t day = omega arith
place_of_number counting.F60 t day = omega arith
place_of_number counting.F60Drop t day = place_of_number_60 t.h t.m t.s t.f day.h day.m day.s day.f day.stands

pub time_again_in : (count : Counting) (t : TimeCode) (frame : ℕ) → frame_in count t ≡ Ok frame → time_in count frame ≡ marked count t
time_again_in count t frame is =
    let has = has_frame count t frame is in
    ap (λ p. time_code_in count p) (ap (λ n. place_in count n) (sym has.number) ∙ place_of_number count t has.day) ∙ sym (code_again_in count t has.day)

pub number_fits : (count : Counting) (t : TimeCode) → IsOfDayIn count t → frame_number_in count t < day_frames_in count
number_fits counting.F24 t day = omega (arith, day.h, day.m, day.s, day.f)
number_fits counting.F25 t day = omega (arith, day.h, day.m, day.s, day.f)
number_fits counting.F30 t day = omega (arith, day.h, day.m, day.s, day.f)
number_fits counting.F30Drop t day = omega (arith, day.h, day.m, day.s, day.f)
number_fits counting.F50 t day = omega (arith, day.h, day.m, day.s, day.f)
number_fits counting.F60 t day = omega (arith, day.h, day.m, day.s, day.f)
number_fits counting.F60Drop t day = omega (arith, day.h, day.m, day.s, day.f)

pub day_has_frame : (count : Counting) (t : TimeCode) (frame : ℕ) → frame_in count t ≡ Ok frame → frame < day_frames_in count
day_has_frame count t frame is =
    let has = has_frame count t frame is in
    let fits = number_fits count t has.day in
    omega (arith, fits, has.number)

-- at 30 frames a second each count says what the calls for that rate say
pub frame_at_30_of : (h m s f : ℕ) (drop_frame : Bool)
    → frame_in (counting_at_30 drop_frame) (record { h = h; m = m; s = s; f = f; drop_frame = drop_frame }) ≡ frame_of (record { h = h; m = m; s = s; f = f; drop_frame = drop_frame })
frame_at_30_of h m s f true = ap (λ n. cond (is_time_code (record { h = h; m = m; s = s; f = f; drop_frame = true })) (Ok n) (Err why.NoSuchTime)) (omega arith)
frame_at_30_of h m s f false = ap (λ n. cond (is_time_code (record { h = h; m = m; s = s; f = f; drop_frame = false })) (Ok n) (Err why.NoSuchTime)) (omega arith)

pub frame_at_30 : (t : TimeCode) → frame_in (counting_at_30 t.drop_frame) t ≡ frame_of t
frame_at_30 t = frame_at_30_of t.h t.m t.s t.f t.drop_frame

pub same_code : (drop_frame : Bool) (place : ℕ) → time_code_in (counting_at_30 drop_frame) place ≡ time_code_at drop_frame place
same_code true place =
    let h : place / 30 / 3600 ≡ place / 108000 = omega arith in
    let m : place / 30 / 60 ≡ place / 1800 = omega arith in
    rw (h, m) refl
same_code false place =
    let h : place / 30 / 3600 ≡ place / 108000 = omega arith in
    let m : place / 30 / 60 ≡ place / 1800 = omega arith in
    rw (h, m) refl

pub time_at_30 : (frame : ℕ) (drop_frame : Bool) → time_in (counting_at_30 drop_frame) frame ≡ time_at frame drop_frame
time_at_30 frame true = same_code true (place_at frame true)
time_at_30 frame false = same_code false (place_at frame false)
