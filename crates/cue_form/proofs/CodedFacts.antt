-- Each character that line 21 has a code for is a Unicode scalar value: its tables are checked whole.
use Rattle.std.proofs.Common.{◌≡◌, ℕ, ◌<◌, ◌≤◌, ◌==◌, ◌&&◌, ◌⊎◌, nat_lt, nat_le, eqb-true, leb-true, ltb-true, Bool, true, List, [], ◌∷◌, All, IsSome, Option, Some, None, refl, arith, inl, inr}
use Rattle.std.specs.Str.{all_scalars}
use Rattle.std.proofs.lemmas.Bool.{cases_lt}
use Rattle.std.specs.List.{list_all}
use Rattle.std.proofs.lemmas.List.Elements.{All-head, All-tail}
use lib.Utf8.{scalar}
use Rattle.line21_codes.specs.declared.characters.Spelling.{Spelling}
use Rattle.line21_codes.specs.declared.characters.Spelling.TheVariants as spelling
use Rattle.line21_codes.specs.BasicCharacters.{basic_of}
use Rattle.line21_codes.specs.ExtendedCharacters.{extended_of}
use Rattle.line21_codes.specs.SpecialCharacters.{special_of}
use Rattle.line21_codes.specs.Spellings.{Shows, spelling_of}
use Rattle.line21_codes.proofs.CharacterLemmas.{spelling_of-shows}
use Rattle.line21_codes.proofs.Tables.{all_below, at_each}
use Rattle.std.proofs.Math.Utf8.{low_scalar}
use Rattle.std.specs.Prelude.{find, option_map}
use Rattle.dtvcc_codes.specs.Characters.{g2_characters}
use Rattle.dtvcc_codes.specs.CharacterSpellings.{dtvcc_spelling as dtv_spelling_of}
use Rattle.dtvcc_codes.specs.CodeTables.{ext1}
use Rattle.cue_form.proofs.Passing.{both_of, on_test}
use Rattle.cue_form.specs.Form.{is_coded}
use Rattle.cue_types.specs.Lane.{is_line21}
use Rattle.cue_types.specs.declared.cue.Kind.{Kind}
use Rattle.cue_types.specs.declared.cue.Kind.TheVariants as kind
use Rattle.cue_types.specs.declared.cue.WinCue.{WinCue}

-- an entry of a table is a character, or none
is_scalar_entry : Option ℕ → Bool
is_scalar_entry None = true
is_scalar_entry (Some ch) = scalar ch

all_basic : all_below (λ byte. is_scalar_entry (basic_of byte)) 128 ≡ true
unfolding all_below basic_of is_scalar_entry
all_basic = refl

all_special : all_below (λ byte. is_scalar_entry (special_of byte)) 64 ≡ true
unfolding all_below special_of is_scalar_entry
all_special = refl

all_extended_12 : all_below (λ byte. is_scalar_entry (extended_of 0x12 byte)) 64 ≡ true
unfolding all_below extended_of is_scalar_entry
all_extended_12 = refl

all_extended_13 : all_below (λ byte. is_scalar_entry (extended_of 0x13 byte)) 64 ≡ true
unfolding all_below extended_of is_scalar_entry
all_extended_13 = refl

-- a character at a byte of a table
scalar_at : (table : ℕ → Option ℕ) (bound : ℕ) → all_below (λ byte. is_scalar_entry (table byte)) bound ≡ true
    → (ch byte : ℕ) → byte < bound → table byte ≡ Some ch → scalar ch ≡ true
unfolding is_scalar_entry
scalar_at table bound each ch byte below at = rw at at (at_each (λ byte. is_scalar_entry (table byte)) bound each byte below)

-- the two first bytes of extended characters
one_of_two : (set : ℕ) → 0x12 ≤ set → set ≤ 0x13 → (set ≡ 0x12) ⊎ (set ≡ 0x13)
one_of_two set low high = elim (cases_lt set 0x13) [ inl less ↦ inl (omega arith) | inr more ↦ inr (omega arith) ]

scalar_shown : (ch : ℕ) (s : Spelling) → Shows ch s → scalar ch ≡ true
scalar_shown ch (spelling.Basic byte) shows = scalar_at basic_of 128 all_basic ch byte shows.1 shows.2
scalar_shown ch (spelling.Special byte) shows = scalar_at special_of 64 all_special ch byte shows.1 shows.2
scalar_shown ch (spelling.Extended fallback set byte) shows =
    elim (one_of_two set shows.2 shows.3) [
      | inl in_12 ↦ scalar_at (extended_of 0x12) 64 all_extended_12 ch byte shows.5 (rw in_12 at shows.6)
      | inr in_13 ↦ scalar_at (extended_of 0x13) 64 all_extended_13 ch byte shows.5 (rw in_13 at shows.6)
    ]

scalar_coded : (ch : ℕ) (o : Option Spelling) → spelling_of ch ≡ o → IsSome o → scalar ch ≡ true
scalar_coded ch (Some s) is some = scalar_shown ch s (spelling_of-shows ch s is)
scalar_coded ch None is some = cc

-- a coded text is one of characters
pub coded_scalars : (text : List ℕ) → All (λ ch. IsSome (spelling_of ch)) text → all_scalars text ≡ true
coded_scalars [] each = refl
coded_scalars (ch ∷ chs) each =
    let first = scalar_coded ch (spelling_of ch) refl (All-head (λ ch. IsSome (spelling_of ch)) ch chs each) in
    let rest = coded_scalars chs (All-tail (λ ch. IsSome (spelling_of ch)) ch chs each) in
    rw (first, rest) refl

-- a line 21 cue's characters pass the test for codes
line21_test : (k : Kind) (ch : ℕ) → is_line21 k ≡ true → IsSome (spelling_of ch) → is_coded k ch ≡ true
unfolding is_coded
line21_test (kind.Pop channel) ch line21 e = e
line21_test (kind.Paint channel) ch line21 e = e
line21_test (kind.Roll channel rows) ch line21 e = e
line21_test (kind.Win window) ch line21 e = cc

pub coded_tests : (k : Kind) → is_line21 k ≡ true → (text : List ℕ) → All (λ ch. IsSome (spelling_of ch)) text → list_all (is_coded k) text ≡ true
coded_tests k line21 [] each = refl
coded_tests k line21 (ch ∷ chs) each =
    let first = line21_test k ch line21 (All-head (λ ch. IsSome (spelling_of ch)) ch chs each) in
    let rest = coded_tests k line21 chs (All-tail (λ ch. IsSome (spelling_of ch)) ch chs each) in
    rw (first, rest) refl

-- and so do a window's
window_test : (window : WinCue) (ch : ℕ) → IsSome (dtv_spelling_of ch) → is_coded (kind.Win window) ch ≡ true
unfolding is_coded
window_test window ch e = e

pub window_tests : (window : WinCue) (text : List ℕ) → All (λ ch. IsSome (dtv_spelling_of ch)) text → list_all (is_coded (kind.Win window)) text ≡ true
window_tests window [] each = refl
window_tests window (ch ∷ chs) each =
    let first = window_test window ch (All-head (λ ch. IsSome (dtv_spelling_of ch)) ch chs each) in
    let rest = window_tests window chs (All-tail (λ ch. IsSome (dtv_spelling_of ch)) ch chs each) in
    rw (first, rest) refl

-- each character that a service has a code for is a Unicode scalar value
all_low : List (ℕ × ℕ) → Bool
all_low [] = true
all_low (entry ∷ table) = nat_lt entry.1 55296 && all_low table

found_low : (table : List (ℕ × ℕ)) (ch : ℕ) → all_low table ≡ true → IsSome (option_map (λ entry. ext1 ∷ entry.0 ∷ []) (find (λ entry. entry.1 == ch) table)) → ch < 55296
unfolding all_low
found_low [] ch low some = cc
found_low (entry ∷ table) ch low some =
    let (here, rest) = both_of (nat_lt entry.1 55296) (all_low table) low in
    on_test _ (entry.1 == ch)
    (λ other. found_low table ch rest (rw other at some))
    (λ same. let is = eqb-true entry.1 ch same in let below = ltb-true entry.1 55296 here in omega arith)

g2_low : all_low g2_characters ≡ true
unfolding all_low
g2_low = refl

window_scalar : (ch : ℕ) → IsSome (dtv_spelling_of ch) → scalar ch ≡ true
unfolding dtv_spelling_of
window_scalar ch some =
    on_test _ (ch == 0x266A)
    (λ not_note. on_test _ (nat_le 0x20 ch && nat_lt ch 0x7F)
    (λ not_ascii. on_test _ (nat_le 0xA0 ch && nat_le ch 0xFF)
    (λ not_latin. low_scalar ch (found_low g2_characters ch g2_low (rw (not_note, not_ascii, not_latin) at some)))
    (λ latin. let (from, to) = both_of (nat_le 0xA0 ch) (nat_le ch 0xFF) latin in let most = leb-true ch 0xFF to in low_scalar ch (omega arith)))
    (λ ascii. let (from, to) = both_of (nat_le 0x20 ch) (nat_lt ch 0x7F) ascii in let most = ltb-true ch 0x7F to in low_scalar ch (omega arith)))
    (λ note. let is = eqb-true ch 0x266A note in low_scalar ch (omega arith))

pub window_scalars : (text : List ℕ) → All (λ ch. IsSome (dtv_spelling_of ch)) text → all_scalars text ≡ true
window_scalars [] each = refl
window_scalars (ch ∷ chs) each =
    let first = window_scalar ch (All-head (λ ch. IsSome (dtv_spelling_of ch)) ch chs each) in
    let rest = window_scalars chs (All-tail (λ ch. IsSome (dtv_spelling_of ch)) ch chs each) in
    rw (first, rest) refl
