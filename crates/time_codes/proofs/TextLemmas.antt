-- Texts of time codes, read and spelled.
use Rattle.std.proofs.Common.{◌≡◌, ℕ, ◌<◌, ◌≤◌, ◌==◌, ◌&&◌, ◌||◌, Bool, true, false, cond, refl, sym, subst, arith, List, [], ◌∷◌, Some, None}
use Rattle.std.proofs.lemmas.Bool.{eqb-true}
use Rattle.std.proofs.lemmas.Grind.{common_steps}
use Rattle.time_codes.specs.Texts.{IsTimeText, is_digit, mark, ones, tens, text_of, time_of_text, two_digit_number}
use Rattle.time_codes.specs.declared.time_code.TimeCode.{TimeCode}

pub tens_digit : (n : ℕ) → n < 100 → is_digit (tens n) ≡ true
tens_digit n small = grind arith

pub ones_digit : (n : ℕ) → is_digit (ones n) ≡ true
ones_digit n = grind arith

pub number_again : (n : ℕ) → two_digit_number (tens n) (ones n) ≡ n
number_again n = omega arith

pub digit_again : (a b : ℕ) → is_digit a ≡ true → is_digit b ≡ true → (two_digit_number a b < 100) × (tens (two_digit_number a b) ≡ a) × (ones (two_digit_number a b) ≡ b)
digit_again a b ten one =
    let low : 48 ≤ a = grind (arith, common_steps) in
    let high : a ≤ 57 = grind (arith, common_steps) in
    let low' : 48 ≤ b = grind (arith, common_steps) in
    let high' : b ≤ 57 = grind (arith, common_steps) in
    (omega arith, omega arith, omega arith)

pub read_again : (h m s f : ℕ) (drop_frame : Bool) → h < 100 → m < 100 → s < 100 → f < 100
    → time_of_text (text_of (record { h = h; m = m; s = s; f = f; drop_frame = drop_frame })) ≡ Some (record { h = h; m = m; s = s; f = f; drop_frame = drop_frame })
read_again h m s f true h_fits m_fits s_fits f_fits =
    rw (
      tens_digit h h_fits,
      ones_digit h,
      tens_digit m m_fits,
      ones_digit m,
      tens_digit s s_fits,
      ones_digit s,
      tens_digit f f_fits,
      ones_digit f,
      number_again h,
      number_again m,
      number_again s,
      number_again f,
    ) refl
read_again h m s f false h_fits m_fits s_fits f_fits =
    rw (
      tens_digit h h_fits,
      ones_digit h,
      tens_digit m m_fits,
      ones_digit m,
      tens_digit s s_fits,
      ones_digit s,
      tens_digit f f_fits,
      ones_digit f,
      number_again h,
      number_again m,
      number_again s,
      number_again f,
    ) refl

-- a text that is spelled is read
pub spelled_is_read : (t : TimeCode) (bytes : List ℕ) → IsTimeText t bytes → time_of_text bytes ≡ Some t
spelled_is_read t bytes text =
    rw text.spelled (read_again t.h t.m t.s t.f t.drop_frame text.digits.h text.digits.m text.digits.s text.digits.f)

-- both of two tests pass
pub both : (p q : Bool) → (p && q) ≡ true → (p ≡ true) × (q ≡ true)
both true q is = (refl, is)
both false q is = absurd (cc)

-- a value that is given where a test passes
pub given : (p : Bool) (t u : TimeCode) → cond p (Some t) None ≡ Some u → (p ≡ true) × (t ≡ u)
given true t u is = (refl, cc)
given false t u is = absurd (cc)

-- a mark before the frames says whether it is drop frame
pub mark_again : (z : ℕ) → ((z == 58) || (z == 59)) ≡ true → z ≡ mark (z == 59)
mark_again z is = grind (arith, common_steps)

-- lists of eleven equal bytes are equal
pub eleven : (a b x c d y e f z g h : ℕ) (a' b' c' d' e' f' z' g' h' : ℕ)
    → a ≡ a' → b ≡ b' → x ≡ 58 → c ≡ c' → d ≡ d' → y ≡ 58 → e ≡ e' → f ≡ f' → z ≡ z' → g ≡ g' → h ≡ h'
    → (a ∷ b ∷ x ∷ c ∷ d ∷ y ∷ e ∷ f ∷ z ∷ g ∷ h ∷ []) ≡ (a' ∷ b' ∷ 58 ∷ c' ∷ d' ∷ 58 ∷ e' ∷ f' ∷ z' ∷ g' ∷ h' ∷ [])
eleven a b x c d y e f z g h a' b' c' d' e' f' z' g' h' ea eb ex ec ed ey ee ef ez eg eh = rw (ea, eb, ex, ec, ed, ey, ee, ef, ez, eg, eh) refl

-- a text that is read is spelled so
pub read_is_spelled : (t : TimeCode) (bytes : List ℕ) → time_of_text bytes ≡ Some t → IsTimeText t bytes
read_is_spelled t [] is = absurd (cc)
read_is_spelled t (a ∷ []) is = absurd (cc)
read_is_spelled t (a ∷ b ∷ []) is = absurd (cc)
read_is_spelled t (a ∷ b ∷ x ∷ []) is = absurd (cc)
read_is_spelled t (a ∷ b ∷ x ∷ c ∷ []) is = absurd (cc)
read_is_spelled t (a ∷ b ∷ x ∷ c ∷ d ∷ []) is = absurd (cc)
read_is_spelled t (a ∷ b ∷ x ∷ c ∷ d ∷ y ∷ []) is = absurd (cc)
read_is_spelled t (a ∷ b ∷ x ∷ c ∷ d ∷ y ∷ e ∷ []) is = absurd (cc)
read_is_spelled t (a ∷ b ∷ x ∷ c ∷ d ∷ y ∷ e ∷ f ∷ []) is = absurd (cc)
read_is_spelled t (a ∷ b ∷ x ∷ c ∷ d ∷ y ∷ e ∷ f ∷ z ∷ []) is = absurd (cc)
read_is_spelled t (a ∷ b ∷ x ∷ c ∷ d ∷ y ∷ e ∷ f ∷ z ∷ g ∷ []) is = absurd (cc)
read_is_spelled t (a ∷ b ∷ x ∷ c ∷ d ∷ y ∷ e ∷ f ∷ z ∷ g ∷ h ∷ []) is =
    let (tests, same) = given _ _ t is in
    let (t10, h_digit) = both _ _ tests in
    let (t9, g_digit) = both _ _ t10 in
    let (t8, z_mark) = both _ _ t9 in
    let (t7, f_digit) = both _ _ t8 in
    let (t6, e_digit) = both _ _ t7 in
    let (t5, y_colon) = both _ _ t6 in
    let (t4, d_digit) = both _ _ t5 in
    let (t3, c_digit) = both _ _ t4 in
    let (t2, x_colon) = both _ _ t3 in
    let (a_digit, b_digit) = both _ _ t2 in
    let hours = digit_again a b a_digit b_digit in
    let minutes = digit_again c d c_digit d_digit in
    let seconds = digit_again e f e_digit f_digit in
    let frames = digit_again g h g_digit h_digit in
    let x_is : x ≡ 58 = eqb-true x 58 x_colon in
    let y_is : y ≡ 58 = eqb-true y 58 y_colon in
    let z_is = mark_again z z_mark in
    let whole : IsTimeText (record { h = two_digit_number a b; m = two_digit_number c d; s = two_digit_number e f; f = two_digit_number g h; drop_frame = z == 59 })
    (a ∷ b ∷ x ∷ c ∷ d ∷ y ∷ e ∷ f ∷ z ∷ g ∷ h ∷ []) =
    record {
      digits = record { h = hours.0; m = minutes.0; s = seconds.0; f = frames.0 };
      spelled = eleven a b x c d y e f z g h _ _ _ _ _ _ _ _ _ (sym hours.1) (sym hours.2) x_is (sym minutes.1) (sym minutes.2) y_is (sym seconds.1) (sym seconds.2) z_is
          (sym frames.1) (sym frames.2);
    } in
    subst (λ u. IsTimeText u (a ∷ b ∷ x ∷ c ∷ d ∷ y ∷ e ∷ f ∷ z ∷ g ∷ h ∷ [])) same whole
read_is_spelled t (a ∷ b ∷ x ∷ c ∷ d ∷ y ∷ e ∷ f ∷ z ∷ g ∷ h ∷ i ∷ rest) is = absurd (cc)
