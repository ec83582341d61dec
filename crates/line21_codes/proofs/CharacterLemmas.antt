-- A spelled character is shown again by its table, and one without a spelling stands in none.
use Rattle.std.proofs.Common.{◌≡◌, ◌≢◌, ℕ, ◌+◌, ◌-◌, ◌<◌, ◌≤◌, ◌⊎◌, inl, inr, ◌==◌, Bool, true, false, nat_lt, nat_le, if◌then◌else◌, List, Option, Some, None, IfSome, IfNone, length, get_or, slice_get, refl, sym, ap, subst, ◌∙◌, ◌&&◌, ◌||◌, lit≤, arith}
use Rattle.std.proofs.lemmas.Bool.{cases_lt, cases_eq, true≢false}
use Rattle.std.proofs.lemmas.List.{get_or_past}
use Rattle.std.proofs.lemmas.Bool.Decides.{nat_tests, Decides-eqb}
use Rattle.std.proofs.lemmas.List.Quantifiers.{position-Some}
use Rattle.std.proofs.lemmas.List.Sums.{fails_before_first}
use Rattle.std.proofs.lemmas.Option.{slice_get-get_or, slice_get_within, get_or_from_slice_get}
use Rattle.std.specs.List.{position, position_or_len}
use Rattle.std.specs.Option.{option_map, option_or}
use Rattle.line21_codes.specs.declared.characters.Spelling.{Spelling}
use Rattle.line21_codes.specs.declared.characters.Spelling.TheVariants.{Basic, Special, Extended}
use Rattle.line21_codes.specs.BasicCharacters.{basic_characters, basic_of}
use Rattle.line21_codes.specs.SpecialCharacters.{special_characters, special_of, is_entry}
use Rattle.line21_codes.specs.ExtendedCharacters.{extended_set, extended_of}
use Rattle.line21_codes.specs.Spellings.{basic_spelling, special_spelling, extended_spelling, spelling_of, Shows, HasNoCode}
use Rattle.line21_codes.proofs.Tables.{all_below, at_each}

-- what is past no answer is before the first that passes
none_within : (n m k : ℕ) → (if nat_lt n m then Some n else None) ≡ None → k < m → k < n
none_within n m k none below = grind (arith, nat_tests, none)

-- where nothing passes, each element fails
position-None : {X : Type 0} (p : X → Bool) (xs : List X) → position p xs ≡ None → (k : ℕ) (d : X) → k < length xs → p (get_or xs k d) ≡ false
position-None p xs none k d below = fails_before_first p xs k d (none_within (position_or_len p xs) (length xs) k none below)

-- a choice of two answers
first_or_second : {X : Type 0} (o p : Option X) (x : X) → option_or o p ≡ Some x → (o ≡ Some x) ⊎ (p ≡ Some x)
first_or_second None p x is = inr is
first_or_second (Some y) p x is = inl is

-- two choices that give nothing
neither : {X : Type 0} (o p : Option X) → option_or o p ≡ None → (o ≡ None) × (p ≡ None)
neither None p is = (refl, is)
neither (Some x) p is = cc

-- what a mapped answer comes from
mapped_from : {X Y : Type 0} (f : X → Y) (o : Option X) (y : Y) → option_map f o ≡ Some y → (x : X) × (o ≡ Some x) × (f x ≡ y)
mapped_from f None y is = cc
mapped_from f (Some x) y is = (x, refl, cc)

-- nothing comes from nothing
unmapped : {X Y : Type 0} (f : X → Y) (o : Option X) → option_map f o ≡ None → o ≡ None
unmapped f None is = refl
unmapped f (Some x) is = cc

-- a look-up from a base byte on
looked_up : {Y : Type 0} (base place : ℕ) (f : ℕ → Y) (d : Y) → (if nat_le base (base + place) then f (base + place - base) else d) ≡ f place
looked_up base place f d =
    let at : base + place - base ≡ place = omega arith in
    let from : nat_le base (base + place) ≡ true = grind (arith, nat_tests) in
    rw (at, from) refl

-- what a guarded look-up finds, the look-up finds
found_if : {X : Type 0} (b : Bool) (o : Option X) (x : X) → (if b then o else None) ≡ Some x → o ≡ Some x
found_if true o x is = is
found_if false o x is = cc

-- what is found from a base byte on stands at a place
found_from : {X : Type 0} (base byte : ℕ) (f : ℕ → Option X) (x : X) → (if nat_le base byte then f (byte - base) else None) ≡ Some x → f (byte - base) ≡ Some x
found_from base byte f x is = found_if (nat_le base byte) (f (byte - base)) x is

-- an entry that passes is the character
is_entry-true : (ch : ℕ) (entry : Option ℕ) → is_entry ch entry ≡ true → entry ≡ Some ch
is_entry-true ch None is = cc
is_entry-true ch (Some c) is = ap Some ((Decides-eqb c ch).0 is)

-- the character passes as an entry
is_entry-self : (ch : ℕ) → is_entry ch (Some ch) ≡ true
is_entry-self ch = (Decides-eqb ch ch).1 refl

-- a basic spelling is shown
basic_of-place : (place : ℕ) → basic_of (0x20 + place) ≡ slice_get basic_characters place
unfolding basic_of
basic_of-place place = looked_up 0x20 place (slice_get basic_characters) None

-- the byte of a basic place shows the character there
basic_at : (ch place : ℕ) → position (λ c. c == ch) basic_characters ≡ Some place → Shows ch (Basic (0x20 + place))
basic_at ch place at =
    let found = position-Some (λ c. c == ch) basic_characters place 0 at in
    let is : get_or basic_characters place 0 ≡ ch = (Decides-eqb (get_or basic_characters place 0) ch).0 found.1 in
    (omega arith, omega (arith, found.0), basic_of-place place ∙ slice_get-get_or basic_characters place 0 found.0 ∙ ap Some is)

-- a basic spelling shows its character
basic_shows : (ch : ℕ) (spelling : Spelling) → basic_spelling ch ≡ Some spelling → Shows ch spelling
basic_shows ch spelling is =
    let from = mapped_from (λ place. Basic (0x20 + place)) (position (λ c. c == ch) basic_characters) spelling is in
    subst (Shows ch) from.2 (basic_at ch from.0 from.1)

-- a special spelling is shown
special_of-place : (place : ℕ) → special_of (0x30 + place) ≡ get_or special_characters place None
unfolding special_of
special_of-place place = looked_up 0x30 place (λ k. get_or special_characters k None) None

-- the byte of a special place shows the character there
special_at : (ch place : ℕ) → position (is_entry ch) special_characters ≡ Some place → Shows ch (Special (0x30 + place))
special_at ch place at =
    let found = position-Some (is_entry ch) special_characters place None at in
    (omega arith, omega (arith, found.0), special_of-place place ∙ is_entry-true ch (get_or special_characters place None) found.1)

-- a special spelling shows its character
special_shows : (ch : ℕ) (spelling : Spelling) → special_spelling ch ≡ Some spelling → Shows ch spelling
special_shows ch spelling is =
    let from = mapped_from (λ place. Special (0x30 + place)) (position (is_entry ch) special_characters) spelling is in
    subst (Shows ch) from.2 (special_at ch from.0 from.1)

-- an extended spelling is shown, and its fallback is a basic character
fallback_fits : ℕ → ℕ → Bool
fallback_fits set place = nat_le 0x20 (get_or (extended_set set) place (0, 0)).1 && nat_lt (get_or (extended_set set) place (0, 0)).1 0x80

-- the fallbacks of the first set
fallbacks_12 : all_below (fallback_fits 0x12) 32 ≡ true
unfolding all_below fallback_fits
fallbacks_12 = refl

-- the fallbacks of the second set
fallbacks_13 : all_below (fallback_fits 0x13) 32 ≡ true
unfolding all_below fallback_fits
fallbacks_13 = refl

-- the extended character at a place
extended_of-place : (set place : ℕ) → extended_of set (0x20 + place) ≡ option_map (λ entry. entry.0) (slice_get (extended_set set) place)
unfolding extended_of
extended_of-place set place = looked_up 0x20 place (λ k. option_map (λ entry. entry.0) (slice_get (extended_set set) k)) None

module _ (set : ℕ) (from : 0x12 ≤ set) (to : set ≤ 0x13) (entries : length (extended_set set) ≡ 32) (fallbacks : all_below (fallback_fits set) 32 ≡ true) where
  fallback_from : (place : ℕ) → place < 32 → 0x20 ≤ (get_or (extended_set set) place (0, 0)).1
  unfolding fallback_fits
  fallback_from place below = grind (arith, nat_tests, at_each (fallback_fits set) 32 fallbacks place below)

  fallback_to : (place : ℕ) → place < 32 → (get_or (extended_set set) place (0, 0)).1 < 0x80
  unfolding fallback_fits
  fallback_to place below = grind (arith, nat_tests, at_each (fallback_fits set) 32 fallbacks place below)

  extended_at : (ch place : ℕ) → position (λ entry. entry.0 == ch) (extended_set set) ≡ Some place → Shows ch (Extended (get_or (extended_set set) place (0, 0)).1 set (0x20 + place))
  extended_at ch place at =
      let found = position-Some (λ entry. entry.0 == ch) (extended_set set) place (0, 0) at in
      let below : place < 32 = omega (arith, found.0, entries) in
      let is : (get_or (extended_set set) place (0, 0)).0 ≡ ch = (Decides-eqb (get_or (extended_set set) place (0, 0)).0 ch).0 found.1 in (
        fallback_from place below,
        fallback_to place below,
        from,
        to,
        omega arith,
        omega arith,
        extended_of-place set place ∙ ap (option_map (λ entry. entry.0)) (slice_get-get_or (extended_set set) place (0, 0) found.0) ∙ ap Some is,
      )

  extended_shows : (ch : ℕ) (spelling : Spelling) → extended_spelling set ch ≡ Some spelling → Shows ch spelling
  extended_shows ch spelling is =
      let got = mapped_from (λ place. Extended (get_or (extended_set set) place (0, 0)).1 set (0x20 + place)) (position (λ entry. entry.0 == ch) (extended_set set)) spelling is in
      subst (Shows ch) got.2 (extended_at ch got.0 got.1)

-- a spelled character is shown again by its table
pub spelling_of-shows : (ch : ℕ) (spelling : Spelling) → spelling_of ch ≡ Some spelling → Shows ch spelling
unfolding spelling_of
spelling_of-shows ch spelling is =
    elim (first_or_second (basic_spelling ch) (option_or (special_spelling ch) (option_or (extended_spelling 0x12 ch) (extended_spelling 0x13 ch))) spelling is) [
      | inl basic ↦ basic_shows ch spelling basic
      | inr other ↦
          elim (first_or_second (special_spelling ch) (option_or (extended_spelling 0x12 ch) (extended_spelling 0x13 ch)) spelling other) [
            | inl special ↦ special_shows ch spelling special
            | inr extended ↦
                elim (first_or_second (extended_spelling 0x12 ch) (extended_spelling 0x13 ch) spelling extended) [
                  | inl in_12 ↦ extended_shows 0x12 (lit≤ tt) (lit≤ tt) refl fallbacks_12 ch spelling in_12
                  | inr in_13 ↦ extended_shows 0x13 (lit≤ tt) (lit≤ tt) refl fallbacks_13 ch spelling in_13
                ]
          ]
    ]

-- a number that is the character doesn't fail the test for it
same_fails : (c ch : ℕ) → c ≡ ch → (c == ch) ≡ false → ⊥
same_fails c ch is fails = let holds : (c == ch) ≡ true = (Decides-eqb c ch).1 is in cc

-- a character without a basic spelling is no basic character
basic_none : (ch : ℕ) → basic_spelling ch ≡ None → (byte : ℕ) → basic_of byte ≢ Some ch
unfolding basic_of
basic_none ch none byte is =
    let at = found_from 0x20 byte (slice_get basic_characters) ch is in
    let within = slice_get_within basic_characters (byte - 0x20) ch at in
    let fails = position-None (λ c. c == ch) basic_characters (unmapped (λ place. Basic (0x20 + place)) (position (λ c. c == ch) basic_characters) none) (byte - 0x20) 0 within in
    same_fails (get_or basic_characters (byte - 0x20) 0) ch (get_or_from_slice_get basic_characters (byte - 0x20) ch 0 at) fails

-- a character without a special spelling is no special character
entry_within : (entries : List (Option ℕ)) (place ch : ℕ) → get_or entries place None ≡ Some ch → place < length entries
entry_within entries place ch at =
    elim (cases_lt place (length entries)) [
      | inl within ↦ within
      | inr past ↦ let none : get_or entries place None ≡ None = get_or_past entries place None past in cc
    ]

-- a character without a special spelling is no special character
special_none : (ch : ℕ) → special_spelling ch ≡ None → (byte : ℕ) → special_of byte ≢ Some ch
unfolding special_of
special_none ch none byte is =
    let at = found_from 0x30 byte (λ k. get_or special_characters k None) ch is in
    let within = entry_within special_characters (byte - 0x30) ch at in
    let fails = position-None (is_entry ch) special_characters (unmapped (λ place. Special (0x30 + place)) (position (is_entry ch) special_characters) none) (byte - 0x30) None within in
    let holds : is_entry ch (get_or special_characters (byte - 0x30) None) ≡ true = ap (is_entry ch) at ∙ is_entry-self ch in
    true≢false (sym holds ∙ fails)

-- a character without an extended spelling is no extended character of that first byte
extended_none : (set ch : ℕ) → extended_spelling set ch ≡ None → (byte : ℕ) → extended_of set byte ≢ Some ch
unfolding extended_of
extended_none set ch none byte is =
    let found = found_from 0x20 byte (λ k. option_map (λ entry. entry.0) (slice_get (extended_set set) k)) ch is in
    let entry = mapped_from (λ (entry : ℕ × ℕ). entry.0) (slice_get (extended_set set) (byte - 0x20)) ch found in
    let within = slice_get_within (extended_set set) (byte - 0x20) entry.0 entry.1 in
    let fails = position-None (λ (entry : ℕ × ℕ). entry.0 == ch) (extended_set set) (unmapped (λ place. Extended (get_or (extended_set set) place (0, 0)).1 set (0x20 + place)) (position (λ entry. entry.0 == ch) (extended_set set)) none) (byte - 0x20) (0, 0) within in
    same_fails (get_or (extended_set set) (byte - 0x20) (0, 0)).0 ch (ap (λ (entry : ℕ × ℕ). entry.0) (get_or_from_slice_get (extended_set set) (byte - 0x20) entry.0 (0, 0) entry.1) ∙ entry.2) fails

-- there is no third set
unfoldable is_set : ℕ → Bool
is_set set = set == 0x12 || set == 0x13

-- two numbers are no set
not_set : (set : ℕ) → set ≢ 0x12 → set ≢ 0x13 → is_set set ≡ false
unfolding is_set
not_set set not_12 not_13 = grind (arith, nat_tests)

-- a choice of two equal values
either_way : {X : Type 0} (b : Bool) (x : X) → (if b then x else x) ≡ x
either_way true x = refl
either_way false x = refl

-- another first byte has no characters
other_set : (set byte : ℕ) → is_set set ≡ false → extended_of set byte ≡ None
unfolding extended_of is_set
other_set set byte other =
    let not_12 : (set == 0x12) ≡ false = grind (arith, nat_tests, other) in
    let not_13 : (set == 0x13) ≡ false = grind (arith, nat_tests, other) in
    rw (not_12, not_13) (either_way {X = Option ℕ} (nat_le 0x20 byte) None)

-- a character without an extended spelling is no extended character
sets_none : (ch : ℕ) → extended_spelling 0x12 ch ≡ None → extended_spelling 0x13 ch ≡ None → (set byte : ℕ) → extended_of set byte ≢ Some ch
sets_none ch none_12 none_13 set byte is =
    elim (cases_eq set 0x12) [
      | inl in_12 ↦ extended_none 0x12 ch none_12 byte (subst (λ s. extended_of s byte ≡ Some ch) in_12 is)
      | inr not_12 ↦
          elim (cases_eq set 0x13) [
            | inl in_13 ↦ extended_none 0x13 ch none_13 byte (subst (λ s. extended_of s byte ≡ Some ch) in_13 is)
            | inr not_13 ↦ let none = other_set set byte (not_set set not_12 not_13) in cc
          ]
    ]

-- a character without a spelling stands in no table
pub spelling_of-none : (ch : ℕ) → spelling_of ch ≡ None → HasNoCode ch
unfolding spelling_of
spelling_of-none ch none =
    let basic = neither (basic_spelling ch) (option_or (special_spelling ch) (option_or (extended_spelling 0x12 ch) (extended_spelling 0x13 ch))) none in
    let special = neither (special_spelling ch) (option_or (extended_spelling 0x12 ch) (extended_spelling 0x13 ch)) basic.1 in
    let extended = neither (extended_spelling 0x12 ch) (extended_spelling 0x13 ch) special.1 in
    record { basic = basic_none ch basic.0; special = special_none ch special.0; extended = sets_none ch extended.0 extended.1 }

-- the same of any answer that is the spelling
pub shown_by : (ch : ℕ) (answer : Option Spelling) → answer ≡ spelling_of ch → IfSome answer (Shows ch)
shown_by ch (Some spelling) is = spelling_of-shows ch spelling (sym is)
shown_by ch None is = tt

-- a character whose answer is none has no code
pub none_by : (ch : ℕ) (answer : Option Spelling) → answer ≡ spelling_of ch → IfNone answer (HasNoCode ch)
none_by ch (Some spelling) is = tt
none_by ch None is = spelling_of-none ch (sym is)
