-- Which letters there are.
use Rattle.std.proofs.Common.{◌≡◌, ℕ, zero, suc, ◌+◌, ◌-◌, ◌*◌, ◌≤◌, ◌<◌, ◌==◌, ◌&&◌, nat_le, Bool, true, false, cond, List, [], ◌∷◌, ◌++◌, length, Option, Some, None, refl, ap, sym, ◌∙◌, arith}
use Rattle.std.proofs.lemmas.Bool.{eqb-true}
use Rattle.std.proofs.lemmas.Grind.{common_steps}
use Rattle.hex_digits.specs.HexDigits.{hex_value}
use Rattle.mcc_files.specs.Letters.{fillers, letter_bytes}

-- a letter, and the bytes for which it stands
pub data IsKnown (letter : ℕ) (stands : List ℕ) : Type 0 where
  fills : (more : ℕ) → more < 9 → letter ≡ 71 + more → stands ≡ 0xFA ∷ 0x00 ∷ 0x00 ∷ fillers more → IsKnown letter stands
  blank : letter ≡ 80 → stands ≡ 0xFB ∷ 0x80 ∷ 0x80 ∷ [] → IsKnown letter stands
  first : letter ≡ 81 → stands ≡ 0xFC ∷ 0x80 ∷ 0x80 ∷ [] → IsKnown letter stands
  second : letter ≡ 82 → stands ≡ 0xFD ∷ 0x80 ∷ 0x80 ∷ [] → IsKnown letter stands
  identifier : letter ≡ 83 → stands ≡ 0x96 ∷ 0x69 ∷ [] → IsKnown letter stands
  captions : letter ≡ 84 → stands ≡ 0x61 ∷ 0x01 ∷ [] → IsKnown letter stands
  long : letter ≡ 85 → stands ≡ 0xE1 ∷ 0x00 ∷ 0x00 ∷ 0x00 ∷ [] → IsKnown letter stands
  zeros : letter ≡ 90 → stands ≡ 0x00 ∷ [] → IsKnown letter stands

pub known_fills : (letter : ℕ) (stands : List ℕ) → (nat_le 71 letter && nat_le letter 79) ≡ true → Some (fillers (letter - 70)) ≡ Some stands → IsKnown letter stands
known_fills letter stands within is =
    let low : 71 ≤ letter = grind (arith, common_steps) in
    let high : letter ≤ 79 = grind (arith, common_steps) in
    let next : letter - 70 ≡ suc (letter - 71) = omega arith in
    let same : stands ≡ fillers (letter - 70) = cc in
    fills (letter - 71) (omega arith) (omega arith) (same ∙ ap fillers next)

pub inner : (xs ys : List ℕ) → Some xs ≡ Some ys → ys ≡ xs
inner xs ys is = cc

-- what comes of the tests one after another
pub known_by : (letter : ℕ) (stands : List ℕ) (fill blanks firsts seconds identifies captions' longs zeros' : Bool)
    → (nat_le 71 letter && nat_le letter 79) ≡ fill → (letter == 80) ≡ blanks → (letter == 81) ≡ firsts → (letter == 82) ≡ seconds
    → (letter == 83) ≡ identifies → (letter == 84) ≡ captions' → (letter == 85) ≡ longs → (letter == 90) ≡ zeros'
    → cond fill (Some (fillers (letter - 70))) (cond blanks (Some (0xFB ∷ 0x80 ∷ 0x80 ∷ [])) (cond firsts (Some (0xFC ∷ 0x80 ∷ 0x80 ∷ [])) (cond seconds (Some (0xFD ∷ 0x80 ∷ 0x80 ∷ []))
    (cond identifies (Some (0x96 ∷ 0x69 ∷ [])) (cond captions' (Some (0x61 ∷ 0x01 ∷ [])) (cond longs (Some (0xE1 ∷ 0x00 ∷ 0x00 ∷ 0x00 ∷ [])) (cond zeros' (Some (0x00 ∷ [])) None))))))) ≡ Some stands
    → IsKnown letter stands
known_by letter stands true b c d e f g h ta tb tc td te tf tg th is = known_fills letter stands ta is
known_by letter stands false true c d e f g h ta tb tc td te tf tg th is = blank (eqb-true letter 80 tb) (inner _ stands is)
known_by letter stands false false true d e f g h ta tb tc td te tf tg th is = first (eqb-true letter 81 tc) (inner _ stands is)
known_by letter stands false false false true e f g h ta tb tc td te tf tg th is = second (eqb-true letter 82 td) (inner _ stands is)
known_by letter stands false false false false true f g h ta tb tc td te tf tg th is = identifier (eqb-true letter 83 te) (inner _ stands is)
known_by letter stands false false false false false true g h ta tb tc td te tf tg th is = captions (eqb-true letter 84 tf) (inner _ stands is)
known_by letter stands false false false false false false true h ta tb tc td te tf tg th is = long (eqb-true letter 85 tg) (inner _ stands is)
known_by letter stands false false false false false false false true ta tb tc td te tf tg th is = zeros (eqb-true letter 90 th) (inner _ stands is)
known_by letter stands false false false false false false false false ta tb tc td te tf tg th is = absurd (cc)

pub known : (letter : ℕ) (stands : List ℕ) → letter_bytes letter ≡ Some stands → IsKnown letter stands
known letter stands is =
    known_by letter stands (nat_le 71 letter && nat_le letter 79) (letter == 80) (letter == 81) (letter == 82) (letter == 83) (letter == 84) (letter == 85) (letter == 90)
    refl refl refl refl refl refl refl refl is

-- each letter stands for a byte at least, and for 27 at most
pub length_fillers : (count : ℕ) → length (fillers count) ≡ 3 * count
length_fillers zero = refl
length_fillers (suc count) = omega (arith, length_fillers count)

-- as many times FA 00 00 as stand at the front of bytes at most, where as many stand there that after these none does
pub fewer : (count more : ℕ) (rest behind : List ℕ) → fillers count ++ rest ≡ fillers more ++ behind
    → ((others : List ℕ) → behind ≡ 0xFA ∷ 0x00 ∷ 0x00 ∷ others → ⊥) → count ≤ more
fewer zero more rest behind same none = omega arith
fewer (suc count) zero rest behind same none = absurd (none (fillers count ++ rest) (sym same))
fewer (suc count) (suc more) rest behind same none =
    let tails : fillers count ++ rest ≡ fillers more ++ behind = cc in
    let below = fewer count more rest behind tails none in
    omega (arith, below)

-- a letter isn't a digit
pub known_no_digit : (letter : ℕ) (stands : List ℕ) → IsKnown letter stands → hex_value letter ≡ None
known_no_digit letter stands (fills more few is same) = grind (arith, common_steps)
known_no_digit letter stands (blank is same) = rw is refl
known_no_digit letter stands (first is same) = rw is refl
known_no_digit letter stands (second is same) = rw is refl
known_no_digit letter stands (identifier is same) = rw is refl
known_no_digit letter stands (captions is same) = rw is refl
known_no_digit letter stands (long is same) = rw is refl
known_no_digit letter stands (zeros is same) = rw is refl

pub no_letter_is_digit : (digit value : ℕ) → hex_value digit ≡ Some value → letter_bytes digit ≡ None
no_letter_is_digit digit value is =
    let cases : (found : Option (List ℕ)) → letter_bytes digit ≡ found → letter_bytes digit ≡ None =
    elim [
      | Some stands ↦ λ e. let none = known_no_digit digit stands (known digit stands e) in absurd (cc)
      | None ↦ λ e. e
    ] in
    cases (letter_bytes digit) refl

-- a letter stands for a byte at least
pub known_has_byte : (letter : ℕ) (stands : List ℕ) → IsKnown letter stands → (byte : ℕ) × (bytes : List ℕ) × (stands ≡ byte ∷ bytes)
known_has_byte letter stands (fills more few is same) = (_, _, same)
known_has_byte letter stands (blank is same) = (_, _, same)
known_has_byte letter stands (first is same) = (_, _, same)
known_has_byte letter stands (second is same) = (_, _, same)
known_has_byte letter stands (identifier is same) = (_, _, same)
known_has_byte letter stands (captions is same) = (_, _, same)
known_has_byte letter stands (long is same) = (_, _, same)
known_has_byte letter stands (zeros is same) = (_, _, same)
