-- How many bytes a command has, as far as its first bytes tell.
use Rattle.std.proofs.Common.{◌≡◌, ◌≢◌, ℕ, ◌+◌, ◌%◌, ◌<◌, ◌≤◌, ◌==◌, ◌&&◌, not, ◌||◌, nat_le, Bool, true, false, if◌then◌else◌, List, [], ◌∷◌, ◌++◌, length, Option, Some, None, refl, sym, ap, ◌∙◌, arith}
use Rattle.std.proofs.lemmas.Bool.{and_parts}
use Rattle.std.proofs.lemmas.Bool.Decides.{nat_tests}
use Rattle.dtvcc_codes.specs.declared.commands.Command.TheVariants.{Skipped}
use Rattle.dtvcc_codes.specs.CodeTables.{Row, base_codes, extended_codes, holds_code, is_counted, row_at}
use Rattle.dtvcc_codes.specs.Reading.{count_at, extended_size, said_at, spelled_command, told_size}
use Rattle.dtvcc_codes.proofs.CharacterLemmas.{all_below, at_each}

-- no row has more parameters
at_most : ℕ → List Row → Bool
at_most n [] = true
at_most n (row ∷ rows) = nat_le row.count n && at_most n rows

le_of : (a b : ℕ) → nat_le a b ≡ true → a ≤ b
le_of a b is = grind (arith, nat_tests)

count_at-small : (rows : List Row) (n : ℕ) → at_most n rows ≡ true → (code : ℕ) → count_at rows code ≤ n
unfolding at_most
count_at-small [] n all code = omega arith
count_at-small (row ∷ rows) n all code =
    let parts = and_parts (nat_le row.count n) (at_most n rows) all in
    elim (holds_code row code) as (λ t. (if t then row.count else count_at rows code) ≤ n) [
      | true ↦ le_of row.count n parts.0
      | false ↦ count_at-small rows n parts.1 code
    ]

pub base_count-small : (code : ℕ) → count_at base_codes code ≤ 6
unfolding at_most
base_count-small code = count_at-small base_codes 6 refl code

pub extended_count-small : (code : ℕ) → count_at extended_codes code ≤ 5
unfolding at_most
extended_count-small code = count_at-small extended_codes 5 refl code

-- a row's number of parameters, and what it says
pub count_at-row : (rows : List Row) (code : ℕ) (row : Row) → row_at rows code ≡ Some row → count_at rows code ≡ row.count
count_at-row [] code row at = absurd cc
count_at-row (first ∷ rows) code row at = by_test (holds_code first code) at (count_at-row rows code row) where
  by_test : (t : Bool) → (if t then Some first else row_at rows code) ≡ Some row
      → (row_at rows code ≡ Some row → count_at rows code ≡ row.count)
      → (if t then first.count else count_at rows code) ≡ row.count
  by_test true is rest = let same : first ≡ row = cc in ap (λ (r : Row). r.count) same
  by_test false is rest = rest is

pub said_at-row : (rows : List Row) (code : ℕ) (parameters : List ℕ) (row : Row) → row_at rows code ≡ Some row
    → said_at rows code parameters ≡ row.says code parameters
said_at-row [] code parameters row at = absurd cc
said_at-row (first ∷ rows) code parameters row at = by_test (holds_code first code) at (said_at-row rows code parameters row) where
  by_test : (t : Bool) → (if t then Some first else row_at rows code) ≡ Some row
      → (row_at rows code ≡ Some row → said_at rows code parameters ≡ row.says code parameters)
      → (if t then first.says code parameters else said_at rows code parameters) ≡ row.says code parameters
  by_test true is rest = let same : first ≡ row = cc in ap (λ (r : Row). r.says code parameters) same
  by_test false is rest = rest is

-- a code in no row is skipped
pub said_at-none : (rows : List Row) (code : ℕ) (parameters : List ℕ) → row_at rows code ≡ None → said_at rows code parameters ≡ Skipped
said_at-none [] code parameters at = refl
said_at-none (first ∷ rows) code parameters at = by_test (holds_code first code) at (said_at-none rows code parameters) where
  by_test : (t : Bool) → (if t then Some first else row_at rows code) ≡ None
      → (row_at rows code ≡ None → said_at rows code parameters ≡ Skipped)
      → (if t then first.says code parameters else said_at rows code parameters) ≡ Skipped
  by_test true is rest = absurd cc
  by_test false is rest = rest is

-- each byte but EXT1 is in a row
has_row : Option Row → Bool
has_row None = false
has_row (Some row) = true

the_row : (found : Option Row) → has_row found ≡ true → (row : Row) × (found ≡ Some row)
unfolding has_row
the_row None is = absurd cc
the_row (Some row) is = (row, refl)

no_row : (found : Option Row) → has_row found ≡ false → found ≡ None
unfolding has_row
no_row None is = refl
no_row (Some row) is = absurd cc

all_base : all_below (λ code. (code == 16) || has_row (row_at base_codes code)) 256 ≡ true
unfolding all_below has_row
all_base = refl

pub or_other : (a b : Bool) → (a || b) ≡ true → a ≡ false → b ≡ true
or_other true b is fails = absurd cc
or_other false b is fails = is

pub base_row : (code : ℕ) → code < 256 → code ≢ 16 → (row : Row) × (row_at base_codes code ≡ Some row)
base_row code byte other =
    let test : (code == 16) ≡ false = grind (arith, nat_tests) in
    the_row (row_at base_codes code)
    (or_other (code == 16) _ (at_each (λ code. (code == 16) || has_row (row_at base_codes code)) 256 all_base code byte) test)

all_extended : all_below (λ code. is_counted code || has_row (row_at extended_codes code)) 256 ≡ true
unfolding all_below has_row
all_extended = refl

pub extended_row : (code : ℕ) → code < 256 → is_counted code ≡ false → (row : Row) × (row_at extended_codes code ≡ Some row)
extended_row code byte test =
    the_row (row_at extended_codes code)
    (or_other (is_counted code) _ (at_each (λ code. is_counted code || has_row (row_at extended_codes code)) 256 all_extended code byte) test)

-- a counted code is in none
none_counted : all_below (λ code. not (is_counted code) || not (has_row (row_at extended_codes code))) 160 ≡ true
unfolding all_below has_row
none_counted = refl

counted_below : (code : ℕ) → is_counted code ≡ true → code < 160
counted_below code is = grind (arith, nat_tests)

not_false : (b : Bool) → not b ≡ true → b ≡ false
not_false true is = absurd cc
not_false false is = refl

pub counted_row : (code : ℕ) → is_counted code ≡ true → row_at extended_codes code ≡ None
counted_row code is =
    let test : not (is_counted code) ≡ false = ap not is in
    no_row (row_at extended_codes code)
    (not_false _ (or_other (not (is_counted code)) _
    (at_each (λ code. not (is_counted code) || not (has_row (row_at extended_codes code))) 160 none_counted code (counted_below code is)) test))

-- and EXT1 is in no row of the codes of a single byte
pub ext1_row : row_at base_codes 16 ≡ None
ext1_row = refl

-- the tests of the first byte
pub is_ext1 : (code : ℕ) → code ≡ 16 → (code == 16) ≡ true
is_ext1 code is = grind (arith, nat_tests)

pub isnt_ext1 : (code : ℕ) → code ≢ 16 → (code == 16) ≡ false
isnt_ext1 code other = grind (arith, nat_tests)

pub from_test : (code : ℕ) → (code == 16) ≡ true → code ≡ 16
from_test code is = grind (arith, nat_tests)

-- told_size, by cases
pub told_size_empty : told_size [] ≡ 1
unfolding told_size
told_size_empty = refl

pub told_size-base : (code : ℕ) (rest : List ℕ) → (code == 16) ≡ false → told_size (code ∷ rest) ≡ 1 + count_at base_codes code
unfolding told_size
told_size-base code rest test = rw test refl

pub told_size-ext1 : (code : ℕ) (rest : List ℕ) → (code == 16) ≡ true → told_size (code ∷ rest) ≡ 1 + extended_size rest
unfolding told_size
told_size-ext1 code rest test = rw test refl

pub extended_size-row : (code : ℕ) (rest : List ℕ) → is_counted code ≡ false → extended_size (code ∷ rest) ≡ 1 + count_at extended_codes code
extended_size-row code rest test = rw test refl

pub extended_size-counted : (code count : ℕ) (rest : List ℕ) → is_counted code ≡ true → extended_size (code ∷ count ∷ rest) ≡ 2 + count % 32
extended_size-counted code count rest test = rw test (omega arith)

pub extended_size-one : (code : ℕ) → is_counted code ≡ true → extended_size (code ∷ []) ≡ 2
extended_size-one code test = rw test refl

-- each command has a byte
pub told_size-some : (bytes : List ℕ) → 1 ≤ told_size bytes
told_size-some [] = omega (arith, told_size_empty)
told_size-some (code ∷ rest) = by_test (code == 16) refl where
  by_test : (t : Bool) → (code == 16) ≡ t → 1 ≤ told_size (code ∷ rest)
  by_test true is = omega (arith, told_size-ext1 code rest is)
  by_test false is = omega (arith, told_size-base code rest is)

-- once the bytes are as many as they tell, more bytes tell the same
extended_size-fixed : (bytes more : List ℕ) → extended_size bytes ≤ length bytes → extended_size (bytes ++ more) ≡ extended_size bytes
extended_size-fixed [] more all = absurd (omega arith)
extended_size-fixed (code ∷ []) more all = by_test (is_counted code) refl where
  by_test : (t : Bool) → is_counted code ≡ t → extended_size ((code ∷ []) ++ more) ≡ extended_size (code ∷ [])
  by_test true is = absurd (omega (arith, extended_size-one code is))
  by_test false is = extended_size-row code more is ∙ sym (extended_size-row code [] is)
extended_size-fixed (code ∷ count ∷ rest) more all = refl

pub told_size-fixed : (bytes more : List ℕ) → told_size bytes ≤ length bytes → told_size (bytes ++ more) ≡ told_size bytes
told_size-fixed [] more all = absurd (omega (arith, told_size_empty))
told_size-fixed (code ∷ rest) more all = by_test (code == 16) refl where
  by_test : (t : Bool) → (code == 16) ≡ t → told_size ((code ∷ rest) ++ more) ≡ told_size (code ∷ rest)
  by_test true is =
      let told = told_size-ext1 code rest is in
      let fewer : extended_size rest ≤ length rest = omega arith in
      told_size-ext1 code (rest ++ more) is ∙ ap (λ n. 1 + n) (extended_size-fixed rest more fewer) ∙ sym told
  by_test false is = told_size-base code (rest ++ more) is ∙ sym (told_size-base code rest is)

-- a further byte tells no less
extended_size-grows : (bytes : List ℕ) (byte : ℕ) → extended_size bytes ≤ extended_size (bytes ++ byte ∷ [])
extended_size-grows [] byte = elim (is_counted byte) as (λ t. 1 ≤ (if t then 2 else 1 + count_at extended_codes byte)) [ true ↦ omega arith | false ↦ omega arith ]
extended_size-grows (code ∷ []) byte = by_test (is_counted code) refl where
  by_test : (t : Bool) → is_counted code ≡ t → extended_size (code ∷ []) ≤ extended_size (code ∷ byte ∷ [])
  by_test true is = omega (arith, extended_size-one code is, extended_size-counted code byte [] is)
  by_test false is = omega (arith, extended_size-row code [] is, extended_size-row code (byte ∷ []) is)
extended_size-grows (code ∷ count ∷ rest) byte = omega arith

pub told_size-grows : (bytes : List ℕ) (byte : ℕ) → told_size bytes ≤ told_size (bytes ++ byte ∷ [])
told_size-grows [] byte = by_test (byte == 16) refl where
  by_test : (t : Bool) → (byte == 16) ≡ t → told_size [] ≤ told_size (byte ∷ [])
  by_test true is = omega (arith, told_size_empty, told_size-ext1 byte [] is)
  by_test false is = omega (arith, told_size_empty, told_size-base byte [] is)
told_size-grows (code ∷ rest) byte = by_test (code == 16) refl where
  by_test : (t : Bool) → (code == 16) ≡ t → told_size (code ∷ rest) ≤ told_size ((code ∷ rest) ++ byte ∷ [])
  by_test true is = omega (arith, told_size-ext1 code rest is, told_size-ext1 code (rest ++ byte ∷ []) is, extended_size-grows rest byte)
  by_test false is = omega (arith, told_size-base code rest is, told_size-base code (rest ++ byte ∷ []) is)

-- a command of more than seven bytes is a counted one: further bytes tell nothing more, and it is skipped
extended_size-long : (rest : List ℕ) → 7 ≤ extended_size rest
    → (code : ℕ) × (count : ℕ) × (skipped : List ℕ) × (rest ≡ code ∷ count ∷ skipped) × (is_counted code ≡ true)
extended_size-long [] long = absurd (omega arith)
extended_size-long (code ∷ []) long = by_test (is_counted code) refl where
  by_test : (t : Bool) → is_counted code ≡ t
      → (c : ℕ) × (count : ℕ) × (skipped : List ℕ) × (code ∷ [] ≡ c ∷ count ∷ skipped) × (is_counted c ≡ true)
  by_test true is = absurd (omega (arith, extended_size-one code is))
  by_test false is = absurd (omega (arith, extended_size-row code [] is, extended_count-small code))
extended_size-long (code ∷ count ∷ skipped) long = by_test (is_counted code) refl where
  by_test : (t : Bool) → is_counted code ≡ t
      → (c : ℕ) × (n : ℕ) × (s : List ℕ) × (code ∷ count ∷ skipped ≡ c ∷ n ∷ s) × (is_counted c ≡ true)
  by_test true is = (code, count, skipped, refl, is)
  by_test false is = absurd (omega (arith, extended_size-row code (count ∷ skipped) is, extended_count-small code))

-- such a command after one more byte
pub record IsPassedOver (front : List ℕ) (byte : ℕ) : Type 0 where
  pub size : told_size (front ++ byte ∷ []) ≡ told_size front
  pub says : spelled_command (front ++ byte ∷ []) ≡ Skipped

pub command_of-counted : (code count : ℕ) (rest : List ℕ) → is_counted code ≡ true → spelled_command (16 ∷ code ∷ count ∷ rest) ≡ Skipped
unfolding spelled_command
command_of-counted code count rest is = said_at-none extended_codes code (count ∷ rest) (counted_row code is)

pub passed_over : (front : List ℕ) (byte : ℕ) → 7 < told_size front → IsPassedOver front byte
passed_over [] byte long = absurd (omega (arith, told_size_empty))
passed_over (first ∷ rest) byte long = by_test (first == 16) refl where
  by_test : (t : Bool) → (first == 16) ≡ t → IsPassedOver (first ∷ rest) byte
  by_test false is = absurd (omega (arith, told_size-base first rest is, base_count-small first))
  by_test true is =
      let long_rest : 7 ≤ extended_size rest = omega (arith, told_size-ext1 first rest is) in
      let (code, count, skipped, spelled, counted) = extended_size-long rest long_rest in
      let more : rest ++ byte ∷ [] ≡ code ∷ count ∷ (skipped ++ byte ∷ []) = ap (λ xs. xs ++ byte ∷ []) spelled in
      let told : extended_size (rest ++ byte ∷ []) ≡ extended_size rest = ap (λ xs. extended_size xs) more ∙ sym (ap (λ xs. extended_size xs) spelled) in
      record {
        size = told_size-ext1 first (rest ++ byte ∷ []) is ∙ ap (λ n. 1 + n) told ∙ sym (told_size-ext1 first rest is);
        says = ap (λ xs. spelled_command (first ∷ xs)) more ∙ ap (λ c. spelled_command (c ∷ code ∷ count ∷ (skipped ++ byte ∷ []))) (from_test first is)
            ∙ command_of-counted code count (skipped ++ byte ∷ []) counted;
      }
