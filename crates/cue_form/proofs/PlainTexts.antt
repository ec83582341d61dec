-- Texts of plain bytes are good: each byte is a character of its own, with a code in each kind of cue.
use Rattle.std.proofs.Common.{◌≡◌, ℕ, zero, suc, ◌+◌, ◌<◌, ◌≤◌, ◌==◌, ◌&&◌, not, nat_lt, nat_le, ltb-true, true, false, [], ◌∷◌, length, is_some, if◌then◌else◌, Ok, refl, ◌∙◌, ap, arith}
use Rattle.std.proofs.lemmas.Str.{IsUtf8-from_ascii, chars-IsAscii}
use Rattle.std.specs.List.{list_all}
use Rattle.std.specs.Str.{IsAscii}
use Rattle.line21_codes.specs.Spellings.{spelling_of}
use Rattle.line21_codes.proofs.Tables.{all_below, at_each}
use Rattle.dtvcc_codes.specs.CharacterSpellings.{dtvcc_spelling as dtv_spelling_of}
use Rattle.cue_form.proofs.Passing.{both_of}
use Rattle.cue_form.proofs.TextFacts.{text_good}
use Rattle.cue_form.specs.Form.{cue_columns, is_coded}
use Rattle.cue_form.specs.Records.{Field}
use Rattle.cue_form.specs.Texts.{is_plain_byte, run_text_of}
use Rattle.cue_types.specs.declared.cue.Kind.{Kind}
use Rattle.cue_types.specs.declared.cue.Kind.TheVariants as kind

-- plain bytes are of ASCII
plain_low : (byte : ℕ) → is_plain_byte byte ≡ true → byte < 127
plain_low byte plain =
    let (from, rest) = both_of (nat_le 0x20 byte) (nat_lt byte 0x7F && not (byte == 0x60)) plain in
    let (below, other) = both_of (nat_lt byte 0x7F) (not (byte == 0x60)) rest in
    ltb-true byte 0x7F below

plain_ascii : (text : Field) → list_all is_plain_byte text ≡ true → IsAscii text
plain_ascii [] plain i = omega arith
plain_ascii (byte ∷ bytes) plain zero = let (here, rest) = both_of (is_plain_byte byte) (list_all is_plain_byte bytes) plain in let low = plain_low byte here in omega arith
plain_ascii (byte ∷ bytes) plain (suc i) = let (here, rest) = both_of (is_plain_byte byte) (list_all is_plain_byte bytes) plain in plain_ascii bytes rest i

-- the tables of both kinds of cues have them all
line21_all : all_below (λ byte. if is_plain_byte byte then is_some (spelling_of byte) else true) 127 ≡ true
unfolding all_below spelling_of
line21_all = refl

window_all : all_below (λ byte. if is_plain_byte byte then is_some (dtv_spelling_of byte) else true) 127 ≡ true
unfolding all_below dtv_spelling_of
window_all = refl

line21_has : (byte : ℕ) → is_plain_byte byte ≡ true → is_some (spelling_of byte) ≡ true
line21_has byte plain =
    rw plain at (at_each (λ byte. if is_plain_byte byte then is_some (spelling_of byte) else true) 127 line21_all byte (plain_low byte plain))

window_has : (byte : ℕ) → is_plain_byte byte ≡ true → is_some (dtv_spelling_of byte) ≡ true
window_has byte plain =
    rw plain at (at_each (λ byte. if is_plain_byte byte then is_some (dtv_spelling_of byte) else true) 127 window_all byte (plain_low byte plain))

coded_byte : (k : Kind) (byte : ℕ) → is_plain_byte byte ≡ true → is_coded k byte ≡ true
unfolding is_coded
coded_byte (kind.Pop channel) byte plain = line21_has byte plain
coded_byte (kind.Paint channel) byte plain = line21_has byte plain
coded_byte (kind.Roll channel rows) byte plain = line21_has byte plain
coded_byte (kind.Win window) byte plain = window_has byte plain

coded_bytes : (k : Kind) (text : Field) → list_all is_plain_byte text ≡ true → list_all (is_coded k) text ≡ true
coded_bytes k [] plain = refl
coded_bytes k (byte ∷ bytes) plain =
    let (here, rest) = both_of (is_plain_byte byte) (list_all is_plain_byte bytes) plain in
    rw (coded_byte k byte here, coded_bytes k bytes rest) refl

-- a text of plain bytes that fit
pub plain_good : (k : Kind) (col : ℕ) (text : Field) → list_all is_plain_byte text ≡ true → (length text == 0) ≡ false → col + length text ≤ cue_columns k
    → run_text_of k col text ≡ Ok text
plain_good k col text plain some fits =
    let ascii = plain_ascii text plain in
    let same = chars-IsAscii text ascii in
    text_good k col text (IsUtf8-from_ascii text ascii) some (rw same (coded_bytes k text plain)) (rw same fits) ∙ ap Ok same
