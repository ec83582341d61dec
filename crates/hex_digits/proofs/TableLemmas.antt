-- The values of all bytes, listed: the table that is read is this list, by computation.
use Rattle.std.proofs.Common.{◌≡◌, ◌≢◌, ◌<◌, ℕ, List, Option, Some, None, IfSome, unwrap_or, get_or, map, refl, arith, sym, subst, ◌∙◌}
use Rattle.std.proofs.lemmas.Bool.Decides.{nat_tests}
use Rattle.std.proofs.lemmas.List.FromFn.{get_or-map-range_with_len}
use Rattle.std.specs.List.{range_with_len}
use Rattle.hex_digits.specs.HexDigits.{hex_value}

-- the value of a digit, and 255 for another byte
abbrev value_or_none : ℕ → ℕ
value_or_none byte = unwrap_or (hex_value byte) 255

-- the value of each byte
abbrev pub values : List ℕ
values = map value_or_none (range_with_len 0 256)

values-at : (byte : ℕ) → byte < 256 → get_or values byte 0 ≡ value_or_none byte
values-at byte below = get_or-map-range_with_len value_or_none 0 256 byte byte 0 below (omega arith)

hex_value-small : (byte : ℕ) → IfSome (hex_value byte) (λ value. value < 16)
hex_value-small byte = grind (arith, nat_tests)

-- what is 255 is none
is_none : (found : Option ℕ) → IfSome found (λ value. value < 16) → unwrap_or found 255 ≡ 255 → None ≡ found
is_none None small is = refl
is_none (Some value) small is = absurd (omega arith)

-- and what is another one is a value
is_some : (found : Option ℕ) → unwrap_or found 255 ≢ 255 → Some (unwrap_or found 255) ≡ found
is_some None other = absurd (other refl)
is_some (Some value) other = refl

pub no_digit : (byte : ℕ) → byte < 256 → get_or values byte 0 ≡ 255 → None ≡ hex_value byte
no_digit byte below is = is_none (hex_value byte) (hex_value-small byte) (sym (values-at byte below) ∙ is)

pub digit : (byte : ℕ) → byte < 256 → get_or values byte 0 ≢ 255 → Some (get_or values byte 0) ≡ hex_value byte
digit byte below other =
    let value = values-at byte below in
    subst (λ v. Some v ≡ hex_value byte) (sym value) (is_some (hex_value byte) (λ is. other (value ∙ is)))

pub digit-small : (byte : ℕ) → byte < 256 → get_or values byte 0 ≢ 255 → get_or values byte 0 < 16
digit-small byte below other =
    subst (λ found. IfSome found (λ value. value < 16)) (sym (digit byte below other)) (hex_value-small byte)
