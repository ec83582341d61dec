-- The codes of a text write its characters, one in each column, however they are spelled and paired.
use Rattle.std.proofs.Common.{◌≡◌, ℕ, suc, ◌+◌, ◌-◌, ◌<◌, ◌≤◌, ◌==◌, ◌&&◌, nat_le, nat_lt, Bool, true, false, if◌then◌else◌, Option, Some, None, IsSome, List, [], ◌∷◌, ◌++◌, All, length, get_or, refl, sym, ap, ◌∙◌, arith}
use Rattle.std.specs.List.{filter_map, cons_option}
use Rattle.std.proofs.lemmas.Bool.Decides.{nat_tests}
use Rattle.std.proofs.lemmas.List.Elements.{All-head, All-tail}
use Rattle.std.proofs.lemmas.Option.{slice_get-get_or}
use Rattle.line21_codes.specs.declared.characters.Spelling.{Spelling}
use Rattle.line21_codes.specs.declared.characters.Spelling.TheVariants.{Basic, Special, Extended}
use Rattle.line21_codes.specs.declared.codes.Code.{Code}
use Rattle.line21_codes.specs.declared.codes.Control.TheVariants.{Special as special_character, Extended as extended_character}
use Rattle.line21_codes.specs.declared.styles.Cell.{Cell}
use Rattle.line21_codes.specs.declared.styles.Style.{Style}
use Rattle.line21_codes.specs.BasicCharacters.{basic_characters, basic_of}
use Rattle.line21_codes.specs.Spellings.{spelling_of, Shows}
use Rattle.line21_codes.proofs.CharacterLemmas.{spelling_of-shows}
use Rattle.frame_scheduler.specs.FirstChannel.{first_channel}
use Rattle.frame_scheduler.specs.TextCodes.{packed, text_codes}
use Rattle.line21_screen.specs.Channels.{ChannelState}
use Rattle.line21_screen.specs.Fields.{after_character, after_text}
use Rattle.line21_screen.specs.Grid.{Grid, with_cell}
use Rattle.line21_shown.specs.Doing.{does, does_all}
use Rattle.line21_shown.proofs.CanvasLemmas.{Captions, canvas, pen_at, cell_of, character_on, special_on, extended_on}

-- codes after codes
pub does_all-append : (codes more : List Code) (s : ChannelState) → does_all (codes ++ more) s ≡ does_all more (does_all codes s)
does_all-append [] more s = refl
does_all-append (code ∷ codes) more s = does_all-append codes more (does code s)

-- the null byte prints nothing
null_byte : basic_of 0 ≡ None
unfolding basic_of
null_byte = refl

-- what a spelling does by itself
abbrev does_spelling : Spelling → ChannelState → ChannelState
does_spelling (Basic byte) s = after_character (basic_of byte) s
does_spelling (Special byte) s = does (first_channel (special_character byte)) s
does_spelling (Extended fallback set byte) s =
    does (first_channel (extended_character set byte)) (after_character (basic_of fallback) s)

-- spellings, one after another
abbrev do_spellings : List Spelling → ChannelState → ChannelState
do_spellings [] s = s
do_spellings (spelling ∷ rest) s = do_spellings rest (does_spelling spelling s)

-- a character that waits for its second, as if it were sent at once
abbrev does_waiting : Option ℕ → ChannelState → ChannelState
does_waiting None s = s
does_waiting (Some first) s = after_character (basic_of first) s

-- a character beside the null byte does what it does alone
alone_does : (first : ℕ) (s : ChannelState) → after_text first 0 s ≡ after_character (basic_of first) s
alone_does first s = ap (λ shown. after_character shown (after_character (basic_of first) s)) null_byte

-- in pairs, spellings do what they do one by one
packed_does : (waiting : Option ℕ) (spellings : List Spelling) (s : ChannelState)
    → does_all (packed waiting spellings) s ≡ do_spellings spellings (does_waiting waiting s)
packed_does None [] s = refl
packed_does (Some first) [] s = alone_does first s
packed_does None (Basic byte ∷ rest) s = packed_does (Some byte) rest s
packed_does (Some first) (Basic byte ∷ rest) s = packed_does None rest (after_text first byte s)
packed_does None (Special byte ∷ rest) s = packed_does None rest (does (first_channel (special_character byte)) s)
packed_does (Some first) (Special byte ∷ rest) s =
    packed_does None rest (does (first_channel (special_character byte)) (after_text first 0 s))
    ∙ ap (λ x. do_spellings rest (does (first_channel (special_character byte)) x)) (alone_does first s)
packed_does None (Extended fallback set byte ∷ rest) s =
    packed_does None rest (does (first_channel (extended_character set byte)) (after_text fallback 0 s))
    ∙ ap (λ x. do_spellings rest (does (first_channel (extended_character set byte)) x)) (alone_does fallback s)
packed_does (Some first) (Extended fallback set byte ∷ rest) s =
    packed_does None rest (does (first_channel (extended_character set byte)) (after_text first fallback s))

-- a byte of a text pair from 20 on shows a character
basic_shown : (byte : ℕ) → 0x20 ≤ byte → byte < 0x80 → (ch : ℕ) × (basic_of byte ≡ Some ch)
unfolding basic_of
basic_shown byte from to =
    let at : nat_le 0x20 byte ≡ true = grind (arith, nat_tests) in (
      get_or basic_characters (byte - 0x20) 0,
      rw at (slice_get-get_or basic_characters (byte - 0x20) 0 (omega arith)),
    )

-- a spelling writes the character that it shows
spelling_on : (k : Captions) (o : Grid) (b : ℕ) (g : Grid) (row col : ℕ) (style : Style) (ch : ℕ) (spelling : Spelling)
    → Shows ch spelling → col < 32
    → does_spelling spelling (canvas k o b g (pen_at row col style))
    ≡ canvas k o b (with_cell g row col (cell_of ch style)) (pen_at row (col + 1) style)
spelling_on k o b g row col style ch (Basic byte) shows below = character_on k o b g row col style ch (basic_of byte) shows.2 below
spelling_on k o b g row col style ch (Special byte) shows below = special_on k o b g row col style ch byte shows.2 below
spelling_on k o b g row col style ch (Extended fallback set byte) shows below =
    let basic = basic_shown fallback shows.0 shows.1 in
    ap (does (first_channel (extended_character set byte))) (character_on k o b g row col style basic.0 (basic_of fallback) basic.1 below)
    ∙ extended_on k o b g row col style basic.0 ch set byte shows.6 below

-- a memory with the characters of a text, from a column of a row on
abbrev pub with_text : Grid → ℕ → ℕ → Style → List ℕ → Grid
with_text g row col style [] = g
with_text g row col style (ch ∷ text) = with_text (with_cell g row col (cell_of ch style)) row (col + 1) style text

-- a character and those after it
next_on : (k : Captions) (o : Grid) (b : ℕ) (g : Grid) (row col : ℕ) (style : Style) (ch : ℕ) (rest : List Spelling) (spelling : Option Spelling)
    → spelling_of ch ≡ spelling → IsSome spelling → col < 32
    → do_spellings (cons_option spelling rest) (canvas k o b g (pen_at row col style))
    ≡ do_spellings rest (canvas k o b (with_cell g row col (cell_of ch style)) (pen_at row (col + 1) style))
next_on k o b g row col style ch rest None is some below = cc
next_on k o b g row col style ch rest (Some spelling) is some below =
    ap (do_spellings rest) (spelling_on k o b g row col style ch spelling (spelling_of-shows ch spelling is) below)

-- the spellings of a text write it
spellings_on : (text : List ℕ) (k : Captions) (o : Grid) (b : ℕ) (g : Grid) (row col : ℕ) (style : Style)
    → All (λ ch. IsSome (spelling_of ch)) text → col + length text ≤ 32
    → do_spellings (filter_map spelling_of text) (canvas k o b g (pen_at row col style))
    ≡ canvas k o b (with_text g row col style text) (pen_at row (col + length text) style)
spellings_on [] k o b g row col style coded fits =
    let same : col + 0 ≡ col = omega arith in rw same refl
spellings_on (ch ∷ text) k o b g row col style coded fits =
    let far : col + 1 + length text ≡ col + suc (length text) = omega arith in
    next_on k o b g row col style ch (filter_map spelling_of text) (spelling_of ch) refl
    (All-head (λ ch. IsSome (spelling_of ch)) ch text coded) (omega arith)
    ∙ spellings_on text k o b (with_cell g row col (cell_of ch style)) row (col + 1) style
    (All-tail (λ ch. IsSome (spelling_of ch)) ch text coded) (omega arith)
    ∙ ap (λ n. canvas k o b (with_text g row col style (ch ∷ text)) (pen_at row n style)) far

-- the codes of a text write it
pub text_on : (text : List ℕ) (k : Captions) (o : Grid) (b : ℕ) (g : Grid) (row col : ℕ) (style : Style)
    → All (λ ch. IsSome (spelling_of ch)) text → col + length text ≤ 32
    → does_all (text_codes text) (canvas k o b g (pen_at row col style))
    ≡ canvas k o b (with_text g row col style text) (pen_at row (col + length text) style)
text_on text k o b g row col style coded fits =
    packed_does None (filter_map spelling_of text) (canvas k o b g (pen_at row col style))
    ∙ spellings_on text k o b g row col style coded fits

-- two choices in turn as one
pub joined : (a d b : Bool) (x y z w : Option Cell)
    → (a ≡ true → (b ≡ true) × (x ≡ w)) → (a ≡ false → d ≡ true → (b ≡ true) × (y ≡ w)) → (a ≡ false → d ≡ false → b ≡ false)
    → (if a then x else (if d then y else z)) ≡ (if b then w else z)
joined true d b x y z w first second none = let h = first refl in rw (h.0) (h.1)
joined false true b x y z w first second none = let h = second refl refl in rw (h.0) (h.1)
joined false false b x y z w first second none = let h = none refl refl in rw h refl

-- each cell of a memory with a text: character j stands j columns right of the first one
pub with_text_at : (text : List ℕ) (g : Grid) (row col : ℕ) (style : Style) (r c : ℕ)
    → with_text g row col style text r c
    ≡ (if r == row && (nat_le col c && nat_lt c (col + length text)) then cell_of (get_or text (c - col) 0x20) style else g r c)
with_text_at [] g row col style r c =
    let none : (r == row && (nat_le col c && nat_lt c (col + 0))) ≡ false = grind (arith, nat_tests) in rw none refl
with_text_at (ch ∷ text) g row col style r c =
    with_text_at text (with_cell g row col (cell_of ch style)) row (col + 1) style r c
    ∙ joined (r == row && (nat_le (col + 1) c && nat_lt c (col + 1 + length text))) (r == row && c == col)
    (r == row && (nat_le col c && nat_lt c (col + suc (length text))))
    (cell_of (get_or text (c - (col + 1)) 0x20) style) (cell_of ch style) (g r c) (cell_of (get_or (ch ∷ text) (c - col) 0x20) style)
    (λ inside.
    let next : c - col ≡ suc (c - (col + 1)) = grind (arith, nat_tests) in
    (grind (arith, nat_tests), ap (λ n. cell_of (get_or (ch ∷ text) n 0x20) style) (sym next)))
    (λ outside here.
    let first : c - col ≡ 0 = grind (arith, nat_tests) in
    (grind (arith, nat_tests), ap (λ n. cell_of (get_or (ch ∷ text) n 0x20) style) (sym first)))
    (λ outside elsewhere. grind (arith, nat_tests))
