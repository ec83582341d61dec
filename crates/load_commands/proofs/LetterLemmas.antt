-- The letters of a load have codes: in line 21 they are basic characters.
use Rattle.std.proofs.Common.{◌≡◌, ℕ, ◌+◌, ◌<◌, ◌%◌, Bool, true, false, Option, Some, None, IsSome, is_some, refl, arith}
use Rattle.line21_codes.specs.Spellings.{spelling_of}
use Rattle.line21_codes.specs.declared.characters.Spelling.{Spelling}
use Rattle.line21_codes.specs.declared.characters.Spelling.TheVariants.{Basic, Special, Extended}
use Rattle.line21_codes.proofs.Tables.{all_below, at_each}
use Rattle.dtvcc_codes.specs.CharacterSpellings.{dtvcc_spelling as dtv_spelling_of}

-- the capital letter of a number
abbrev pub letter : ℕ → ℕ
letter n = 65 + n % 26

-- a spelling by a basic character
abbrev pub is_basic : Option Spelling → Bool
is_basic None = false
is_basic (Some (Basic byte)) = true
is_basic (Some (Special byte)) = false
is_basic (Some (Extended fallback set byte)) = false

basic_some : (spelling : Option Spelling) → is_basic spelling ≡ true → IsSome spelling
basic_some None is = is
basic_some (Some spelling) is = refl

-- the letter of a number below 26
letters_basic : all_below (λ n. is_basic (spelling_of (65 + n))) 26 ≡ true
unfolding all_below spelling_of
letters_basic = refl

letters_spelled : all_below (λ n. is_some (dtv_spelling_of (65 + n))) 26 ≡ true
unfolding all_below dtv_spelling_of
letters_spelled = refl

below_26 : (n : ℕ) → n % 26 < 26
below_26 n = omega arith

pub letter_basic : (n : ℕ) → is_basic (spelling_of (letter n)) ≡ true
letter_basic n = at_each (λ m. is_basic (spelling_of (65 + m))) 26 letters_basic (n % 26) (below_26 n)

pub letter_coded : (n : ℕ) → IsSome (spelling_of (letter n))
letter_coded n = basic_some (spelling_of (letter n)) (letter_basic n)

pub letter_spelled : (n : ℕ) → IsSome (dtv_spelling_of (letter n))
letter_spelled n = at_each (λ m. is_some (dtv_spelling_of (65 + m))) 26 letters_spelled (n % 26) (below_26 n)
