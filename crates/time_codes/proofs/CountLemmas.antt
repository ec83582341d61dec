-- How many time codes drop frame leaves out before a place.
use Rattle.std.proofs.Common.{◌≡◌, ℕ, zero, suc, ◌+◌, ◌-◌, ◌*◌, ◌/◌, ◌%◌, ◌<◌, Bool, true, false, cond, nat_lt, nat_eq, refl, sym, ◌∙◌, ap, subst, add-one, arith, Ok}
use Rattle.std.proofs.lemmas.Grind.{common_steps}
use Rattle.time_codes.specs.TimeCodes.{IsFrameOf, codes_before, is_left_out, is_time_code, time_code_at}
use Rattle.time_codes.specs.Frames.{frame_of, frame_number, counted_place}
use Rattle.time_codes.specs.declared.time_code.TimeCode.{TimeCode}

-- two for each minute before but every tenth, and up to two of the minute itself
abbrev pub left_out : ℕ → ℕ → ℕ
left_out minute rest = 2 * (minute - (minute + 9) / 10) + cond (nat_eq (minute % 10) 0) 0 (cond (nat_lt rest 2) rest 2)

abbrev pub left_out_before : ℕ → ℕ
left_out_before place = left_out (place / 1800) (place % 1800)

-- one more where the time code at the place is left out
abbrev pub one_more : ℕ → ℕ
one_more place = cond (is_left_out (time_code_at true place)) 1 0

pub left_out_step : (place : ℕ) → left_out_before (place + 1) ≡ left_out_before place + one_more place
left_out_step place = grind arith

pub left_out_next : (place : ℕ) → left_out_before (suc place) ≡ left_out_before place + one_more place
left_out_next place = subst (λ next. left_out_before next ≡ left_out_before place + one_more place) (add-one place) (left_out_step place)

pub count_more : (before out more place : ℕ) (b : Bool) → before + out ≡ place → more ≡ out + cond b 1 0 → before + cond b 0 1 + more ≡ suc place
count_more before out more place true is next = omega arith
count_more before out more place false is next = omega arith

pub codes_count : (place : ℕ) → codes_before true place + left_out_before place ≡ place
unfolding codes_before
codes_count zero = refl
codes_count (suc place) =
    count_more (codes_before true place) (left_out_before place) (left_out_before (suc place)) place (is_left_out (time_code_at true place)) (codes_count place)
    (left_out_next place)

pub all_count : (place : ℕ) → codes_before false place ≡ place
unfolding codes_before
all_count zero = refl
all_count (suc place) = omega (arith, all_count place)

-- what is known of a time code of the day
pub record IsOfDay (t : TimeCode) : Type 0 where
  pub h : t.h < 24
  pub m : t.m < 60
  pub s : t.s < 60
  pub f : t.f < 30
  pub stands : is_left_out t ≡ false

pub of_day : (t : TimeCode) → is_time_code t ≡ true → IsOfDay t
of_day t is = record { h = grind (arith, common_steps); m = grind (arith, common_steps); s = grind (arith, common_steps); f = grind (arith, common_steps); stands = grind (arith, common_steps) }

pub is_of_day : (t : TimeCode) → IsOfDay t → is_time_code t ≡ true
is_of_day t day =
    let h = day.h in let m = day.m in let s = day.s in let f = day.f in let stands = day.stands in
    grind (arith, common_steps)

-- the numbers of a time code of the day are its place's
pub code_again : (t : TimeCode) → IsOfDay t → t ≡ time_code_at t.drop_frame (counted_place t)
code_again t day =
    let h : counted_place t / 108000 ≡ t.h = omega (arith, day.h, day.m, day.s, day.f) in
    let m : counted_place t / 1800 % 60 ≡ t.m = omega (arith, day.h, day.m, day.s, day.f) in
    let s : counted_place t / 30 % 60 ≡ t.s = omega (arith, day.h, day.m, day.s, day.f) in
    let f : counted_place t % 30 ≡ t.f = omega (arith, day.h, day.m, day.s, day.f) in
    rw (h, m, s, f) refl

-- the time codes before one of the day, in drop frame and without
pub drop_frame_count : (h m s f : ℕ) → h < 24 → m < 60 → s < 60 → f < 30
    → is_left_out (record { h = h; m = m; s = s; f = f; drop_frame = true }) ≡ false
    → codes_before true (1800 * (60 * h + m) + 30 * s + f) ≡ 1800 * (60 * h + m) + 30 * s + f - 2 * (60 * h + m - (60 * h + m) / 10)
drop_frame_count h m s f h_fits m_fits s_fits f_fits stands =
    let place = 1800 * (60 * h + m) + 30 * s + f in
    let minute : place / 1800 ≡ 60 * h + m = omega arith in
    let rest : place % 1800 ≡ 30 * s + f = omega arith in
    let known : left_out (60 * h + m) (30 * s + f) ≡ 2 * (60 * h + m - (60 * h + m) / 10) = grind (arith, common_steps) in
    let count : codes_before true place + left_out (60 * h + m) (30 * s + f) ≡ place = rw (minute, rest) at (codes_count place) in
    omega (arith, known, count)

pub frame_counts : (h m s f : ℕ) (drop_frame : Bool) → IsOfDay (record { h = h; m = m; s = s; f = f; drop_frame = drop_frame })
    → frame_number (record { h = h; m = m; s = s; f = f; drop_frame = drop_frame })
    ≡ codes_before drop_frame (1800 * (60 * h + m) + 30 * s + f)
frame_counts h m s f true day = sym (drop_frame_count h m s f day.h day.m day.s day.f day.stands)
frame_counts h m s f false day = sym (all_count (1800 * (60 * h + m) + 30 * s + f))

-- the frame of a time code is how many stand before it
pub counts : (t : TimeCode) (frame : ℕ) → frame_of t ≡ Ok frame → IsFrameOf t frame
counts t frame is =
    let cases : (b : Bool) → is_time_code t ≡ b → IsFrameOf t frame =
    elim [
      | true ↦ λ good.
          let day = of_day t good in
          let number : frame_number t ≡ frame = cc in
          record {
            place = counted_place t;
            is = code_again t day;
            within = omega (arith, day.h, day.m, day.s, day.f);
            stands = day.stands;
            count = sym number ∙ frame_counts t.h t.m t.s t.f t.drop_frame day;
          }
      | false ↦ λ bad. absurd (grind (arith, common_steps))
    ] in
    cases (is_time_code t) refl

pub counted : (t : TimeCode) (frame : ℕ) → IsFrameOf t frame → frame_of t ≡ Ok frame
counted t frame named =
    let place = named.place in
    let h : t.h ≡ place / 108000 = ap (λ u. u.h) named.is in
    let m : t.m ≡ place / 1800 % 60 = ap (λ u. u.m) named.is in
    let s : t.s ≡ place / 30 % 60 = ap (λ u. u.s) named.is in
    let f : t.f ≡ place % 30 = ap (λ u. u.f) named.is in
    let within : place < 24 * 108000 = named.within in
    let day : IsOfDay t = record { h = omega (arith, h); m = omega (arith, m); s = omega (arith, s); f = omega (arith, f); stands = named.stands } in
    let at : counted_place t ≡ place = omega (arith, h, m, s, f) in
    let number = frame_counts t.h t.m t.s t.f t.drop_frame day in
    let good : is_time_code t ≡ true = is_of_day t day in
    let same : frame_number t ≡ frame = number ∙ (ap (λ p. codes_before t.drop_frame p) at ∙ sym named.count) in
    rw good (ap (λ n. Ok n) same)
