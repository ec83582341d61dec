-- What is written is the spelling of the command.
use Rattle.std.proofs.Common.{◌≡◌, ℕ, zero, suc, ◌+◌, ◌-◌, ◌*◌, ◌/◌, ◌%◌, ◌<◌, ◌≤◌, ◌==◌, ◌&&◌, ◌||◌, not, nat_le, nat_lt, Bool, true, false, if◌then◌else◌, cond, List, [], ◌∷◌, length, Option, Some, None, IsSome, refl, sym, ap, subst, ◌∙◌, arith}
use Rattle.std.specs.List.{All, find}
use Rattle.std.specs.Option.{option_map, option_or}
use Rattle.std.specs.Prelude.{unwrap_or}
use Rattle.std.proofs.lemmas.Bool.{and_parts}
use Rattle.std.proofs.lemmas.Bool.Decides.{nat_tests}
use Rattle.std.proofs.lemmas.List.Elements.{All-cons, All-nil}
use Rattle.dtvcc_codes.specs.declared.commands.Command.{Command}
use Rattle.dtvcc_codes.specs.declared.commands.Command.TheVariants.{Put, Etx, Bs, Ff, Cr, Hcr, Cw, Clw, Dsw, Hdw, Tgw, Dlw, Dly, Dlc, Rst, Spa, Spc, Spl, Swa, Df, Skipped}
use Rattle.dtvcc_codes.specs.declared.pens.Fill.{Fill}
use Rattle.dtvcc_codes.specs.declared.pens.PenAttr.{PenAttr}
use Rattle.dtvcc_codes.specs.declared.pens.PenColors.{PenColors}
use Rattle.dtvcc_codes.specs.declared.pens.Rgb.{Rgb}
use Rattle.dtvcc_codes.specs.declared.windows.Definition.{Definition}
use Rattle.dtvcc_codes.specs.declared.windows.WinAttr.{WinAttr}
use Rattle.dtvcc_codes.specs.Characters.{g0_of, g2_characters, g2_of}
use Rattle.dtvcc_codes.specs.CharacterSpellings.{dtvcc_spelling, g1_spelling, g2_spelling}
use Rattle.dtvcc_codes.specs.CodeTables.{Row, base_codes, extended_codes, holds_code, row_at}
use Rattle.dtvcc_codes.specs.Parameters.{definition, fill_of, is_set, pen_attributes, pen_colors, rgb_of, window_attributes}
use Rattle.dtvcc_codes.specs.Spellable.{IsDefinition, IsFill, IsPenAttr, IsPenColors, IsRgb, IsSpellable, IsWinAttr, is_skipped}
use Rattle.dtvcc_codes.specs.Spelling.{IsSpelled, Spells}
use Rattle.dtvcc_codes.specs.Spelling.Spells.{base, extended}
use Rattle.dtvcc_codes.specs.Writing.{bit, attribute_bytes, color_bytes, definition_bytes, fill_byte, pen_bytes, rgb_byte, bytes_of_command}
use Rattle.dtvcc_codes.proofs.CharacterLemmas.{all_below, at_each}
use Rattle.dtvcc_codes.proofs.SizeLemmas.{or_other}
use Rattle.dtvcc_codes.proofs.SpellingLemmas.{IsByte}

-- the number of a code's row in a table
index_at : List Row → ℕ → ℕ
index_at [] code = 0
index_at (row ∷ rows) code = if holds_code row code then 0 else suc (index_at rows code)

row_numbered : List Row → ℕ → Option Row
row_numbered [] n = None
row_numbered (row ∷ rows) zero = Some row
row_numbered (row ∷ rows) (suc n) = row_numbered rows n

row_at-numbered : (rows : List Row) (code : ℕ) → row_at rows code ≡ row_numbered rows (index_at rows code)
unfolding index_at row_numbered
row_at-numbered [] code = refl
row_at-numbered (row ∷ rows) code = by_test (holds_code row code) (row_at-numbered rows code) where
  by_test : (t : Bool) → row_at rows code ≡ row_numbered rows (index_at rows code)
      → (if t then Some row else row_at rows code) ≡ row_numbered (row ∷ rows) (if t then 0 else suc (index_at rows code))
  by_test true rest = refl
  by_test false rest = rest

-- all codes of a range have this row
is_row_of : List Row → ℕ → ℕ → ℕ → ℕ → Bool
is_row_of rows n from to code = not (nat_le from code && nat_le code to) || (index_at rows code == n)

row_in_range : (rows : List Row) (n from to : ℕ) → all_below (is_row_of rows n from to) 256 ≡ true → to < 256
    → (code : ℕ) → from ≤ code → code ≤ to → row_at rows code ≡ row_numbered rows n
unfolding is_row_of
row_in_range rows n from to all small code above below =
    let byte : code < 256 = omega arith in
    let there : not (nat_le from code && nat_le code to) ≡ false = grind (arith, nat_tests) in
    let index : (index_at rows code == n) ≡ true = or_other (not (nat_le from code && nat_le code to)) (index_at rows code == n) (at_each (is_row_of rows n from to) 256 all code byte) there in
    let is : index_at rows code ≡ n = grind (arith, nat_tests) in
    row_at-numbered rows code ∙ ap (row_numbered rows) is

g0_rows : all_below (is_row_of base_codes 12 0x20 0x7F) 256 ≡ true
unfolding all_below is_row_of index_at
g0_rows = refl

window_rows : all_below (is_row_of base_codes 13 0x80 0x87) 256 ≡ true
unfolding all_below is_row_of index_at
window_rows = refl

define_rows : all_below (is_row_of base_codes 27 0x98 0x9F) 256 ≡ true
unfolding all_below is_row_of index_at
define_rows = refl

g1_rows : all_below (is_row_of base_codes 28 0xA0 0xFF) 256 ≡ true
unfolding all_below is_row_of index_at
g1_rows = refl

g2_rows : all_below (is_row_of extended_codes 4 0x20 0x7F) 256 ≡ true
unfolding all_below is_row_of index_at
g2_rows = refl

-- bytes
byte_list : (byte : ℕ) (bytes : List ℕ) → byte < 256 → All IsByte bytes → All IsByte (byte ∷ bytes)
byte_list byte bytes is are = All-cons IsByte byte bytes is are

no_bytes : All IsByte []
no_bytes = All-nil IsByte

-- the command is spelled by these bytes
pub record IsWritten (command : Command) (bytes : List ℕ) : Type 0 where
  pub are : All IsByte bytes
  pub spells : Spells command bytes

-- a code with one row in the table, and its parameters
written_base : (command : Command) (code : ℕ) (parameters : List ℕ) (row : Row) → row_at base_codes code ≡ Some row → code < 256
    → length parameters ≡ row.count → command ≡ row.says code parameters → All IsByte parameters → IsWritten command (code ∷ parameters)
written_base command code parameters row at byte count says are = record {
  are = byte_list code parameters byte are;
  spells = base code parameters row refl at count says;
}

-- characters
written_g0 : (ch : ℕ) → 0x20 ≤ ch → ch < 0x7F → IsWritten (Put (Some ch)) (ch ∷ [])
unfolding row_numbered
written_g0 ch from to =
    let other : (ch == 0x7F) ≡ false = grind (arith, nat_tests) in
    let same : g0_of ch ≡ ch = rw other refl in
    written_base (Put (Some ch)) ch [] _ (row_in_range base_codes 12 0x20 0x7F g0_rows (omega arith) ch from (omega arith)) (omega arith)
    refl (ap (λ c. Put (Some c)) (sym same)) no_bytes

written_note : IsWritten (Put (Some 0x266A)) (0x7F ∷ [])
written_note = written_base (Put (Some 0x266A)) 0x7F [] _ refl (omega arith) refl refl no_bytes

written_g1 : (ch : ℕ) → 0xA0 ≤ ch → ch ≤ 0xFF → IsWritten (Put (Some ch)) (ch ∷ [])
unfolding row_numbered
written_g1 ch from to =
    written_base (Put (Some ch)) ch [] _ (row_in_range base_codes 28 0xA0 0xFF g1_rows (omega arith) ch from to) (omega arith) refl refl no_bytes

-- an entry of G2 has its code there, and its character
is_some_of : Option ℕ → ℕ → Bool
is_some_of None ch = false
is_some_of (Some c) ch = c == ch

is_right : ℕ × ℕ → Bool
is_right entry = nat_le 0x20 entry.0 && (nat_le entry.0 0x7F && is_some_of (g2_of entry.0) entry.1)

all_right : List (ℕ × ℕ) → Bool
all_right [] = true
all_right (entry ∷ entries) = is_right entry && all_right entries

g2_right : all_right g2_characters ≡ true
unfolding all_right is_right is_some_of g2_of
g2_right = refl

-- what is found is the character, and right
found_is : (ch : ℕ) (entries : List (ℕ × ℕ)) (entry : ℕ × ℕ) → all_right entries ≡ true → find (λ e. e.1 == ch) entries ≡ Some entry
    → ((entry.1 == ch) ≡ true) × (is_right entry ≡ true)
unfolding all_right
found_is ch [] entry all found = absurd cc
found_is ch (first ∷ entries) entry all found =
    let (right, others) = and_parts (is_right first) (all_right entries) all in
    by_test (first.1 == ch) refl right found (found_is ch entries entry others) where
      by_test : (t : Bool) → (first.1 == ch) ≡ t → is_right first ≡ true
          → cond t (Some first) (find (λ e. e.1 == ch) entries) ≡ Some entry
          → (find (λ e. e.1 == ch) entries ≡ Some entry → ((entry.1 == ch) ≡ true) × (is_right entry ≡ true))
          → ((entry.1 == ch) ≡ true) × (is_right entry ≡ true)
      by_test true test right is rest =
          let same : first ≡ entry = cc in
          (subst (λ (e : ℕ × ℕ). (e.1 == ch) ≡ true) same test, subst (λ (e : ℕ × ℕ). is_right e ≡ true) same right)
      by_test false test right is rest = rest is

some_is : (put : Option ℕ) (ch : ℕ) → is_some_of put ch ≡ true → put ≡ Some ch
unfolding is_some_of
some_is None ch is = absurd cc
some_is (Some c) ch is = let same : c ≡ ch = grind (arith, nat_tests) in ap Some same

written_g2 : (ch : ℕ) (entry : ℕ × ℕ) → find (λ e. e.1 == ch) g2_characters ≡ Some entry → IsWritten (Put (Some ch)) (16 ∷ entry.0 ∷ [])
unfolding row_numbered is_right
written_g2 ch entry found =
    let (is_ch, right) = found_is ch g2_characters entry g2_right found in
    let (above, others) = and_parts (nat_le 0x20 entry.0) _ right in
    let (below, put) = and_parts (nat_le entry.0 0x7F) _ others in
    let from : 0x20 ≤ entry.0 = grind (arith, nat_tests, above) in
    let to : entry.0 ≤ 0x7F = grind (arith, nat_tests, below) in
    let same : entry.1 ≡ ch = grind (arith, nat_tests, is_ch) in
    let puts : g2_of entry.0 ≡ Some ch = some_is (g2_of entry.0) entry.1 put ∙ ap Some same in
    record {
      are = byte_list 16 (entry.0 ∷ []) (omega arith) (byte_list entry.0 [] (omega arith) no_bytes);
      spells = extended entry.0 [] _ refl (row_in_range extended_codes 4 0x20 0x7F g2_rows (omega arith) entry.0 from to) refl (ap Put (sym puts));
    }

-- a character's spelling
pub spelling_is_written : (ch : ℕ) (bytes : List ℕ) → dtvcc_spelling ch ≡ Some bytes → IsWritten (Put (Some ch)) bytes
unfolding dtvcc_spelling
spelling_is_written ch bytes is = by_note (ch == 0x266A) refl is where
  -- by G2
  by_entry : (found : Option (ℕ × ℕ)) → find (λ e. e.1 == ch) g2_characters ≡ found → option_map (λ e. 16 ∷ e.0 ∷ []) found ≡ Some bytes → IsWritten (Put (Some ch)) bytes
  by_entry None found some = absurd cc
  by_entry (Some entry) found some = let same : 16 ∷ entry.0 ∷ [] ≡ bytes = cc in subst (λ bs. IsWritten (Put (Some ch)) bs) same (written_g2 ch entry found)

  -- by G1
  by_latin : (t : Bool) → (nat_le 0xA0 ch && nat_le ch 0xFF) ≡ t → option_or (if t then Some (ch ∷ []) else None) (g2_spelling ch) ≡ Some bytes → IsWritten (Put (Some ch)) bytes
  by_latin true test some =
      let same : ch ∷ [] ≡ bytes = cc in
      let (above, below) = and_parts (nat_le 0xA0 ch) (nat_le ch 0xFF) test in
      subst (λ bs. IsWritten (Put (Some ch)) bs) same (written_g1 ch (grind (arith, nat_tests, above)) (grind (arith, nat_tests, below)))
  by_latin false test some = by_entry (find (λ e. e.1 == ch) g2_characters) refl some

  -- by G0
  by_ascii : (t : Bool) → (nat_le 0x20 ch && nat_lt ch 0x7F) ≡ t → option_or (if t then Some (ch ∷ []) else None) (option_or (g1_spelling ch) (g2_spelling ch)) ≡ Some bytes → IsWritten (Put (Some ch)) bytes
  by_ascii true test some =
      let same : ch ∷ [] ≡ bytes = cc in
      let (above, below) = and_parts (nat_le 0x20 ch) (nat_lt ch 0x7F) test in
      subst (λ bs. IsWritten (Put (Some ch)) bs) same (written_g0 ch (grind (arith, nat_tests, above)) (grind (arith, nat_tests, below)))
  by_ascii false test some = by_latin (nat_le 0xA0 ch && nat_le ch 0xFF) refl some

  -- by the note of G0
  by_note : (t : Bool) → (ch == 0x266A) ≡ t
      → option_or (if t then Some (0x7F ∷ []) else if nat_le 0x20 ch && nat_lt ch 0x7F then Some (ch ∷ []) else None) (option_or (g1_spelling ch) (g2_spelling ch)) ≡ Some bytes
      → IsWritten (Put (Some ch)) bytes
  by_note true test some =
      let same : 0x7F ∷ [] ≡ bytes = cc in
      let note : 0x266A ≡ ch = grind (arith, nat_tests) in
      subst (λ bs. IsWritten (Put (Some ch)) bs) same (subst (λ c. IsWritten (Put (Some c)) (0x7F ∷ [])) note written_note)
  by_note false test some = by_ascii (nat_le 0x20 ch && nat_lt ch 0x7F) refl some

-- records of equal fields
same_fill : (f : ℕ → ℕ → ℕ → ℕ → Fill) {a0 b0 : ℕ} {a1 b1 : ℕ} {a2 b2 : ℕ} {a3 b3 : ℕ}
    → a0 ≡ b0 → a1 ≡ b1 → a2 ≡ b2 → a3 ≡ b3
    → f a0 a1 a2 a3 ≡ f b0 b1 b2 b3
same_fill f e0 e1 e2 e3 = cc

same_rgb : (f : ℕ → ℕ → ℕ → Rgb) {a0 b0 : ℕ} {a1 b1 : ℕ} {a2 b2 : ℕ}
    → a0 ≡ b0 → a1 ≡ b1 → a2 ≡ b2
    → f a0 a1 a2 ≡ f b0 b1 b2
same_rgb f e0 e1 e2 = cc

same_pen : (f : ℕ → ℕ → ℕ → ℕ → Bool → Bool → ℕ → PenAttr) {a0 b0 : ℕ} {a1 b1 : ℕ} {a2 b2 : ℕ} {a3 b3 : ℕ} {a4 b4 : Bool} {a5 b5 : Bool} {a6 b6 : ℕ}
    → a0 ≡ b0 → a1 ≡ b1 → a2 ≡ b2 → a3 ≡ b3 → a4 ≡ b4 → a5 ≡ b5 → a6 ≡ b6
    → f a0 a1 a2 a3 a4 a5 a6 ≡ f b0 b1 b2 b3 b4 b5 b6
same_pen f e0 e1 e2 e3 e4 e5 e6 = cc

same_colors : (f : Fill → Fill → Rgb → PenColors) {a0 b0 : Fill} {a1 b1 : Fill} {a2 b2 : Rgb}
    → a0 ≡ b0 → a1 ≡ b1 → a2 ≡ b2
    → f a0 a1 a2 ≡ f b0 b1 b2
same_colors f e0 e1 e2 = cc

same_attributes : (f : ℕ → ℕ → ℕ → Bool → ℕ → ℕ → ℕ → Fill → ℕ → Rgb → WinAttr) {a0 b0 : ℕ} {a1 b1 : ℕ} {a2 b2 : ℕ} {a3 b3 : Bool} {a4 b4 : ℕ} {a5 b5 : ℕ} {a6 b6 : ℕ} {a7 b7 : Fill} {a8 b8 : ℕ} {a9 b9 : Rgb}
    → a0 ≡ b0 → a1 ≡ b1 → a2 ≡ b2 → a3 ≡ b3 → a4 ≡ b4 → a5 ≡ b5 → a6 ≡ b6 → a7 ≡ b7 → a8 ≡ b8 → a9 ≡ b9
    → f a0 a1 a2 a3 a4 a5 a6 a7 a8 a9 ≡ f b0 b1 b2 b3 b4 b5 b6 b7 b8 b9
same_attributes f e0 e1 e2 e3 e4 e5 e6 e7 e8 e9 = cc

same_definition : (f : ℕ → Bool → Bool → Bool → ℕ → Bool → ℕ → ℕ → ℕ → ℕ → ℕ → ℕ → ℕ → Definition) {a0 b0 : ℕ} {a1 b1 : Bool} {a2 b2 : Bool} {a3 b3 : Bool} {a4 b4 : ℕ} {a5 b5 : Bool} {a6 b6 : ℕ} {a7 b7 : ℕ} {a8 b8 : ℕ} {a9 b9 : ℕ} {a10 b10 : ℕ} {a11 b11 : ℕ} {a12 b12 : ℕ}
    → a0 ≡ b0 → a1 ≡ b1 → a2 ≡ b2 → a3 ≡ b3 → a4 ≡ b4 → a5 ≡ b5 → a6 ≡ b6 → a7 ≡ b7 → a8 ≡ b8 → a9 ≡ b9 → a10 ≡ b10 → a11 ≡ b11 → a12 ≡ b12
    → f a0 a1 a2 a3 a4 a5 a6 a7 a8 a9 a10 a11 a12 ≡ f b0 b1 b2 b3 b4 b5 b6 b7 b8 b9 b10 b11 b12
same_definition f e0 e1 e2 e3 e4 e5 e6 e7 e8 e9 e10 e11 e12 = cc

-- the fields
fill_bytes : (fill : Fill) → IsFill fill → (fill_byte fill < 256) × (fill_of (fill_byte fill) ≡ fill)
fill_bytes fill fits =
    let opacity = fits.opacity in let red = fits.r in let green = fits.g in let blue = fits.b in
    let o : fill_byte fill / 64 ≡ fill.opacity = omega arith in
    let r : fill_byte fill / 16 % 4 ≡ fill.r = omega arith in
    let g : fill_byte fill / 4 % 4 ≡ fill.g = omega arith in
    let b : fill_byte fill % 4 ≡ fill.b = omega arith in
    (omega arith, same_fill (λ o r g b. record { opacity = o; r = r; g = g; b = b }) o r g b)

rgb_bytes : (rgb : Rgb) (high : ℕ) → IsRgb rgb → (rgb_byte rgb < 64) × (rgb_of (high * 64 + rgb_byte rgb) ≡ rgb)
rgb_bytes rgb high fits =
    let red = fits.r in let green = fits.g in let blue = fits.b in
    let r : (high * 64 + rgb_byte rgb) / 16 % 4 ≡ rgb.r = omega arith in
    let g : (high * 64 + rgb_byte rgb) / 4 % 4 ≡ rgb.g = omega arith in
    let b : (high * 64 + rgb_byte rgb) % 4 ≡ rgb.b = omega arith in
    (omega arith, same_rgb (λ r g b. record { r = r; g = g; b = b }) r g b)

-- a bit as a number
digit : Bool → ℕ
digit true = 1
digit false = 0

digit-small : (on : Bool) → digit on ≤ 1
unfolding digit
digit-small true = omega arith
digit-small false = omega arith

bit-digit : (on : Bool) (value : ℕ) → bit on value ≡ digit on * value
unfolding digit
bit-digit true value = omega arith
bit-digit false value = omega arith

digit_test : (on : Bool) (n : ℕ) → n ≡ digit on → (n == 1) ≡ on
unfolding digit
digit_test true n is = grind (arith, nat_tests)
digit_test false n is = grind (arith, nat_tests)

two_bytes : (a b : ℕ) → a < 256 → b < 256 → All IsByte (a ∷ b ∷ [])
two_bytes a b first second = byte_list a (b ∷ []) first (byte_list b [] second no_bytes)

three_bytes : (a b c : ℕ) → a < 256 → b < 256 → c < 256 → All IsByte (a ∷ b ∷ c ∷ [])
three_bytes a b c first second third = byte_list a (b ∷ c ∷ []) first (two_bytes b c second third)

four_bytes : (a b c d : ℕ) → a < 256 → b < 256 → c < 256 → d < 256 → All IsByte (a ∷ b ∷ c ∷ d ∷ [])
four_bytes a b c d first second third fourth = byte_list a (b ∷ c ∷ d ∷ []) first (three_bytes b c d second third fourth)

six_bytes : (a b c d e f : ℕ) → a < 256 → b < 256 → c < 256 → d < 256 → e < 256 → f < 256 → All IsByte (a ∷ b ∷ c ∷ d ∷ e ∷ f ∷ [])
six_bytes a b c d e f first second third fourth fifth sixth =
    byte_list a (b ∷ c ∷ d ∷ e ∷ f ∷ []) first (byte_list b (c ∷ d ∷ e ∷ f ∷ []) second (four_bytes c d e f third fourth fifth sixth))

pen_is : (pen : PenAttr) → IsPenAttr pen → All IsByte (pen_bytes pen) × (pen_attributes (pen_bytes pen) ≡ pen)
pen_is pen fits =
    let size_fits = fits.size in let font_fits = fits.font in let tag_fits = fits.tag in let offset_fits = fits.offset in let edge_fits = fits.edge in
    let i = digit-small pen.italic in let u = digit-small pen.underline in
    let italic_is = bit-digit pen.italic 0x80 in let underline_is = bit-digit pen.underline 0x40 in
    let first : ℕ = pen.tag * 16 + pen.offset * 4 + pen.size in
    let second : ℕ = bit pen.italic 0x80 + bit pen.underline 0x40 + pen.edge * 8 + pen.font in
    let second_is : second ≡ digit pen.italic * 128 + digit pen.underline * 64 + pen.edge * 8 + pen.font = omega (arith, italic_is, underline_is) in
    let size : first % 4 ≡ pen.size = omega arith in
    let offset : first / 4 % 4 ≡ pen.offset = omega arith in
    let tag : first / 16 ≡ pen.tag = omega arith in
    let font : second % 8 ≡ pen.font = omega (arith, second_is) in
    let edge : second / 8 % 8 ≡ pen.edge = omega (arith, second_is) in
    let italic : is_set second 0x80 ≡ pen.italic = digit_test pen.italic (second / 0x80 % 2) (omega (arith, second_is)) in
    let underline : is_set second 0x40 ≡ pen.underline = digit_test pen.underline (second / 0x40 % 2) (omega (arith, second_is)) in (
      two_bytes first second (omega arith) (omega (arith, second_is)),
      same_pen (λ s f t o i u e. record { size = s; font = f; tag = t; offset = o; italic = i; underline = u; edge = e })
          size font tag offset italic underline edge,
    )

colors_are : (colors : PenColors) → IsPenColors colors → All IsByte (color_bytes colors) × (pen_colors (color_bytes colors) ≡ colors)
colors_are colors fits =
    let (fg_fits, fg) = fill_bytes colors.fg fits.fg in
    let (bg_fits, bg) = fill_bytes colors.bg fits.bg in
    let (edge_fits, edge) = rgb_bytes colors.edge 0 fits.edge in
    let edge_is : rgb_of (rgb_byte colors.edge) ≡ colors.edge = ap rgb_of (omega arith) ∙ edge in (
      three_bytes (fill_byte colors.fg) (fill_byte colors.bg) (rgb_byte colors.edge) fg_fits bg_fits (omega arith),
      same_colors (λ f b e. record { fg = f; bg = b; edge = e }) fg bg edge_is,
    )

attributes_are : (attributes : WinAttr) → IsWinAttr attributes
    → All IsByte (attribute_bytes attributes) × (window_attributes (attribute_bytes attributes) ≡ attributes)
attributes_are attributes fits =
    let justify_fits = fits.justify in let print_fits = fits.print in let scroll_fits = fits.scroll in let effect_fits = fits.effect in
    let dir_fits = fits.effect_dir in let speed_fits = fits.effect_speed in let kind_fits = fits.border_kind in
    let (fill_byte_fits, fill) = fill_bytes attributes.fill fits.fill in
    let (border_byte_fits, border) = rgb_bytes attributes.border (attributes.border_kind % 4) fits.border in
    let w = digit-small attributes.wrap in
    let wrap_is = bit-digit attributes.wrap 0x40 in
    let second : ℕ = attributes.border_kind % 4 * 64 + rgb_byte attributes.border in
    let third : ℕ = attributes.border_kind / 4 * 128 + bit attributes.wrap 0x40 + attributes.print * 16 + attributes.scroll * 4 + attributes.justify in
    let fourth : ℕ = attributes.effect_speed * 16 + attributes.effect_dir * 4 + attributes.effect in
    let third_is : third ≡ attributes.border_kind / 4 * 128 + digit attributes.wrap * 64 + attributes.print * 16 + attributes.scroll * 4 + attributes.justify = omega (arith, wrap_is) in
    let justify : third % 4 ≡ attributes.justify = omega (arith, third_is) in
    let print : third / 16 % 4 ≡ attributes.print = omega (arith, third_is) in
    let scroll : third / 4 % 4 ≡ attributes.scroll = omega (arith, third_is) in
    let wrap : is_set third 0x40 ≡ attributes.wrap = digit_test attributes.wrap (third / 0x40 % 2) (omega (arith, third_is)) in
    let effect : fourth % 4 ≡ attributes.effect = omega arith in
    let dir : fourth / 4 % 4 ≡ attributes.effect_dir = omega arith in
    let speed : fourth / 16 ≡ attributes.effect_speed = omega arith in
    let kind : third / 128 * 4 + second / 64 ≡ attributes.border_kind = omega (arith, third_is, border_byte_fits) in (
      four_bytes (fill_byte attributes.fill) second third fourth fill_byte_fits (omega (arith, border_byte_fits)) (omega (arith, third_is)) (omega arith),
      same_attributes (λ j p s w e d v f k b. record {
        justify = j;
        print = p;
        scroll = s;
        wrap = w;
        effect = e;
        effect_dir = d;
        effect_speed = v;
        fill = f;
        border_kind = k;
        border = b;
      }) justify print scroll wrap effect dir speed fill kind border,
    )

definition_is : (d : Definition) → IsDefinition d → All IsByte (definition_bytes d) × (definition d.id (definition_bytes d) ≡ d)
definition_is d fits =
    let priority_fits = fits.priority in let av_fits = fits.av in let ah_fits = fits.ah in let anchor_fits = fits.anchor in
    let some_rows = fits.some_rows in let rows_fit = fits.rows in let some_cols = fits.some_cols in let cols_fit = fits.cols in
    let ws_fits = fits.ws in let ps_fits = fits.ps in
    let v = digit-small d.visible in let r = digit-small d.row_lock in let c = digit-small d.col_lock in let p = digit-small d.relative in
    let visible_is = bit-digit d.visible 0x20 in let row_lock_is = bit-digit d.row_lock 0x10 in let col_lock_is = bit-digit d.col_lock 0x08 in
    let relative_is = bit-digit d.relative 0x80 in
    let first : ℕ = bit d.visible 0x20 + bit d.row_lock 0x10 + bit d.col_lock 0x08 + d.priority in
    let second : ℕ = bit d.relative 0x80 + d.av in
    let fourth : ℕ = d.anchor * 16 + (d.rows - 1) in
    let fifth : ℕ = d.cols - 1 in
    let sixth : ℕ = d.ws * 8 + d.ps in
    let first_is : first ≡ digit d.visible * 32 + digit d.row_lock * 16 + digit d.col_lock * 8 + d.priority = omega (arith, visible_is, row_lock_is, col_lock_is) in
    let second_is : second ≡ digit d.relative * 128 + d.av = omega (arith, relative_is) in
    let visible : is_set first 0x20 ≡ d.visible = digit_test d.visible (first / 0x20 % 2) (omega (arith, first_is)) in
    let row_lock : is_set first 0x10 ≡ d.row_lock = digit_test d.row_lock (first / 0x10 % 2) (omega (arith, first_is)) in
    let col_lock : is_set first 0x08 ≡ d.col_lock = digit_test d.col_lock (first / 0x08 % 2) (omega (arith, first_is)) in
    let priority : first % 8 ≡ d.priority = omega (arith, first_is) in
    let relative : is_set second 0x80 ≡ d.relative = digit_test d.relative (second / 0x80 % 2) (omega (arith, second_is)) in
    let av : second % 128 ≡ d.av = omega (arith, second_is) in
    let anchor : fourth / 16 ≡ d.anchor = omega arith in
    let rows : fourth % 16 + 1 ≡ d.rows = omega arith in
    let cols : fifth % 64 + 1 ≡ d.cols = omega arith in
    let ws : sixth / 8 % 8 ≡ d.ws = omega arith in
    let ps : sixth % 8 ≡ d.ps = omega arith in
    let same_id : d.id ≡ d.id = refl in
    let same_ah : d.ah ≡ d.ah = refl in (
      six_bytes first second d.ah fourth fifth sixth (omega (arith, first_is)) (omega (arith, second_is)) ah_fits (omega arith) (omega arith) (omega arith),
      same_definition (λ i v r c p l a h n o m w s. record {
        id = i;
        visible = v;
        row_lock = r;
        col_lock = c;
        priority = p;
        relative = l;
        av = a;
        ah = h;
        anchor = n;
        rows = o;
        cols = m;
        ws = w;
        ps = s;
      }) same_id visible row_lock col_lock priority relative av same_ah anchor rows cols ws ps,
    )

-- a command of one code, and of one code with one byte
one_code : (command : Command) (code : ℕ) (row : Row) → row_at base_codes code ≡ Some row → code < 256 → 0 ≡ row.count → command ≡ row.says code []
    → IsWritten command (code ∷ [])
one_code command code row at byte count says = written_base command code [] row at byte count says no_bytes

one_parameter : (command : Command) (code parameter : ℕ) (row : Row) → row_at base_codes code ≡ Some row → code < 256 → 1 ≡ row.count
    → command ≡ row.says code (parameter ∷ []) → parameter < 256 → IsWritten command (code ∷ parameter ∷ [])
one_parameter command code parameter row at byte count says fits =
    written_base command code (parameter ∷ []) row at byte count says (byte_list parameter [] fits no_bytes)

-- the transparent space
put_nothing : Put None ≡ Put (g2_of 0x20)
unfolding g2_of
put_nothing = refl

-- every command that can be spelled and isn't skipped
pub written_is : (command : Command) → IsSpellable command → is_skipped command ≡ false → IsWritten command (bytes_of_command command)
unfolding bytes_of_command row_numbered
written_is (Put None) fits skipped = record {
  are = byte_list 0x10 (0x20 ∷ []) (omega arith) (byte_list 0x20 [] (omega arith) no_bytes);
  spells = extended 0x20 [] _ refl refl refl put_nothing;
}
written_is (Put (Some ch)) fits skipped = by_spelling (dtvcc_spelling ch) refl fits where
  by_spelling : (found : Option (List ℕ)) → dtvcc_spelling ch ≡ found → IsSome found → IsWritten (Put (Some ch)) (unwrap_or found [])
  by_spelling None is some = absurd cc
  by_spelling (Some bytes) is some = spelling_is_written ch bytes is
written_is Etx fits skipped = one_code Etx 0x03 _ refl (omega arith) refl refl
written_is Bs fits skipped = one_code Bs 0x08 _ refl (omega arith) refl refl
written_is Ff fits skipped = one_code Ff 0x0C _ refl (omega arith) refl refl
written_is Cr fits skipped = one_code Cr 0x0D _ refl (omega arith) refl refl
written_is Hcr fits skipped = one_code Hcr 0x0E _ refl (omega arith) refl refl
written_is (Cw id) fits skipped =
    let back : id ≡ 0x80 + id - 0x80 = omega arith in
    one_code (Cw id) (0x80 + id) _ (row_in_range base_codes 13 0x80 0x87 window_rows (omega arith) (0x80 + id) (omega arith) (omega (arith, fits))) (omega (arith, fits)) refl (ap Cw back)
written_is (Clw windows) fits skipped = one_parameter (Clw windows) 0x88 windows _ refl (omega arith) refl refl fits
written_is (Dsw windows) fits skipped = one_parameter (Dsw windows) 0x89 windows _ refl (omega arith) refl refl fits
written_is (Hdw windows) fits skipped = one_parameter (Hdw windows) 0x8A windows _ refl (omega arith) refl refl fits
written_is (Tgw windows) fits skipped = one_parameter (Tgw windows) 0x8B windows _ refl (omega arith) refl refl fits
written_is (Dlw windows) fits skipped = one_parameter (Dlw windows) 0x8C windows _ refl (omega arith) refl refl fits
written_is (Dly tenths) fits skipped = one_parameter (Dly tenths) 0x8D tenths _ refl (omega arith) refl refl fits
written_is Dlc fits skipped = one_code Dlc 0x8E _ refl (omega arith) refl refl
written_is Rst fits skipped = one_code Rst 0x8F _ refl (omega arith) refl refl
written_is (Spa pen) fits skipped =
    let (are, is) = pen_is pen fits in written_base (Spa pen) 0x90 (pen_bytes pen) _ refl (omega arith) refl (ap Spa (sym is)) are
written_is (Spc colors) fits skipped =
    let (are, is) = colors_are colors fits in written_base (Spc colors) 0x91 (color_bytes colors) _ refl (omega arith) refl (ap Spc (sym is)) are
written_is (Spl row col) fits skipped =
    let (row_fits, col_fits) = fits in
    let row_is : row ≡ row % 16 = omega arith in
    let col_is : col ≡ col % 64 = omega arith in
    let same : Spl row col ≡ Spl (row % 16) (col % 64) = cc in
    written_base (Spl row col) 0x92 (row ∷ col ∷ []) _ refl (omega arith) refl same (two_bytes row col (omega arith) (omega arith))
written_is (Swa attributes) fits skipped =
    let (are, is) = attributes_are attributes fits in written_base (Swa attributes) 0x97 (attribute_bytes attributes) _ refl (omega arith) refl (ap Swa (sym is)) are
written_is (Df d) fits skipped =
    let (are, is) = definition_is d fits in
    let window = fits.id in
    let back : 0x98 + d.id - 0x98 ≡ d.id = omega arith in
    written_base (Df d) (0x98 + d.id) (definition_bytes d) _ (row_in_range base_codes 27 0x98 0x9F define_rows (omega arith) (0x98 + d.id) (omega arith) (omega arith)) (omega arith)
    refl (ap Df (sym is ∙ sym (ap (λ id. definition id (definition_bytes d)) back))) are
written_is Skipped fits skipped = absurd cc

-- the skipped commands
the_skipped : (command : Command) → is_skipped command ≡ true → command ≡ Skipped
the_skipped Skipped is = refl
the_skipped (Put ch) is = absurd cc
the_skipped Etx is = absurd cc
the_skipped Bs is = absurd cc
the_skipped Ff is = absurd cc
the_skipped Cr is = absurd cc
the_skipped Hcr is = absurd cc
the_skipped (Cw id) is = absurd cc
the_skipped (Clw windows) is = absurd cc
the_skipped (Dsw windows) is = absurd cc
the_skipped (Hdw windows) is = absurd cc
the_skipped (Tgw windows) is = absurd cc
the_skipped (Dlw windows) is = absurd cc
the_skipped (Dly tenths) is = absurd cc
the_skipped Dlc is = absurd cc
the_skipped Rst is = absurd cc
the_skipped (Spa pen) is = absurd cc
the_skipped (Spc colors) is = absurd cc
the_skipped (Spl row col) is = absurd cc
the_skipped (Swa attributes) is = absurd cc
the_skipped (Df d) is = absurd cc

nothing_written : (command : Command) → is_skipped command ≡ true → All IsByte (bytes_of_command command)
unfolding bytes_of_command
nothing_written command is = subst (λ c. All IsByte (bytes_of_command c)) (sym (the_skipped command is)) no_bytes

skipped_is_spelled : (command : Command) → is_skipped command ≡ true → IsSpelled command
skipped_is_spelled command is = subst (λ c. IsSpelled c) (sym (the_skipped command is)) (record {
  bytes = 0 ∷ [];
  are_bytes = byte_list 0 [] (omega arith) no_bytes;
  spells = base 0 [] _ refl refl refl refl;
})

pub written_are_bytes : (command : Command) → IsSpellable command → All IsByte (bytes_of_command command)
unfolding bytes_of_command
written_are_bytes command fits = by_test (is_skipped command) refl where
  by_test : (t : Bool) → is_skipped command ≡ t → All IsByte (bytes_of_command command)
  by_test true is = nothing_written command is
  by_test false is = (written_is command fits is).are

pub spellable_is_spelled : (command : Command) → IsSpellable command → IsSpelled command
spellable_is_spelled command fits = by_test (is_skipped command) refl where
  by_test : (t : Bool) → is_skipped command ≡ t → IsSpelled command
  by_test true is = skipped_is_spelled command is
  by_test false is = let is_written = written_is command fits is in
      record { bytes = bytes_of_command command; are_bytes = is_written.are; spells = is_written.spells }

pub written_spells : (command : Command) (bytes : List ℕ) → IsSpellable command → is_skipped command ≡ false → bytes ≡ bytes_of_command command → Spells command bytes
written_spells command bytes fits skipped is = subst (λ bs. Spells command bs) (sym is) (written_is command fits skipped).spells
