-- Believed: the program's answer stands on these definitions.
-- The text of a time code: HH:MM:SS:FF, or HH:MM:SS;FF with drop frame, two digits each.
use Rattle.std.specs.Prelude.{◌≡◌, ℕ, ◌+◌, ◌-◌, ◌*◌, ◌/◌, ◌%◌, ◌<◌, ◌==◌, ◌&&◌, ◌||◌, Bool, if◌then◌else◌, nat_le, List, [], ◌∷◌, Option, Some, None}
use Rattle.time_codes.specs.declared.time_code.TimeCode.{TimeCode}

-- each number has two digits
pub record HasTwoDigits (t : TimeCode) : Type 0 where
  pub h : t.h < 100
  pub m : t.m < 100
  pub s : t.s < 100
  pub f : t.f < 100

-- the decimal digits of a number of two digits
abbrev pub tens : ℕ → ℕ
tens n = 48 + n / 10

abbrev pub ones : ℕ → ℕ
ones n = 48 + n % 10

-- what stands before the frames: a semicolon (59) for drop frame, else a colon (58)
abbrev pub mark : Bool → ℕ
mark drop_frame = if drop_frame then 59 else 58

-- the text of a time code whose numbers have two digits
abbrev pub text_of : TimeCode → List ℕ
text_of t =
    tens t.h ∷ ones t.h ∷ 58 ∷ tens t.m ∷ ones t.m ∷ 58 ∷ tens t.s ∷ ones t.s ∷ mark t.drop_frame ∷ tens t.f ∷ ones t.f ∷ []

-- the bytes are the text of the time code
pub record IsTimeText (t : TimeCode) (bytes : List ℕ) : Type 0 where
  pub digits : HasTwoDigits t
  pub spelled : bytes ≡ text_of t

-- a decimal digit (48 to 57)
abbrev pub is_digit : ℕ → Bool
is_digit byte = nat_le 48 byte && nat_le byte 57

-- the number of two digits
abbrev pub two_digit_number : ℕ → ℕ → ℕ
two_digit_number ten one = 10 * (ten - 48) + (one - 48)

-- the time code that a text spells, if it spells one
abbrev pub time_of_text : List ℕ → Option TimeCode
time_of_text (a ∷ b ∷ x ∷ c ∷ d ∷ y ∷ e ∷ f ∷ z ∷ g ∷ h ∷ []) =
    if is_digit a && is_digit b && (x == 58) && is_digit c && is_digit d && (y == 58) && is_digit e && is_digit f && ((z == 58) || (z == 59)) && is_digit g && is_digit h
    then Some (record { h = two_digit_number a b; m = two_digit_number c d; s = two_digit_number e f; f = two_digit_number g h; drop_frame = z == 59 })
    else None
time_of_text _ = None
