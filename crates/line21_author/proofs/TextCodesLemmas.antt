use Rattle.std.proofs.Common.{◌≡◌, ℕ, ◌<◌, ◌≤◌, List, [], ◌∷◌, ◌++◌, refl, inr, lit<}
use Rattle.std.specs.Prelude.{Option, Some, None, IfSome}
use Rattle.std.specs.List.{filter_map, cons_option, AllByRecursion}
use Rattle.line21_codes.specs.declared.codes.Code.{Code}
use Rattle.line21_codes.specs.declared.codes.Code.TheVariants.{Text}
use Rattle.line21_codes.specs.declared.characters.Spelling.{Spelling}
use Rattle.line21_codes.specs.declared.characters.Spelling.TheVariants.{Basic, Special, Extended}
use Rattle.line21_codes.specs.Spellings.{spelling_of, Shows}
use Rattle.line21_codes.specs.Writable.{IsWritable}
use Rattle.line21_codes.proofs.CharacterLemmas.{spelling_of-shows}
use Rattle.line21_author.specs.TextCodes.{completed_pair, packed, text_codes}

-- a byte of a basic character
abbrev pub IsBasic : ℕ → Type 0
IsBasic byte = (0x20 ≤ byte) × (byte < 0x80)

-- the bytes of a spelling are in the tables
abbrev pub IsInTables : Spelling → Type 0
IsInTables (Basic byte) = IsBasic byte
IsInTables (Special byte) = (0x30 ≤ byte) × (byte < 0x40)
IsInTables (Extended fallback set byte) =
    IsBasic fallback × ((0x12 ≤ set) × (set ≤ 0x13) × (0x20 ≤ byte) × (byte < 0x40))

-- a spelling that shows a character is in the tables
shown_in_tables : (ch : ℕ) (spelling : Spelling) → Shows ch spelling → IsInTables spelling
shown_in_tables ch (Basic byte) shown = (shown.0, shown.1)
shown_in_tables ch (Special byte) shown = (shown.0, shown.1)
shown_in_tables ch (Extended fallback set byte) shown =
    ((shown.0, shown.1), (shown.2, shown.3, shown.4, shown.5))

-- so is the spelling of a character, if it has one
spelled_in_tables : (ch : ℕ) (o : Option Spelling) → spelling_of ch ≡ o → IfSome o IsInTables
spelled_in_tables ch None spelled = tt
spelled_in_tables ch (Some spelling) spelled = shown_in_tables ch spelling (spelling_of-shows ch spelling spelled)

-- one more spelling, if there is one
cons_in_tables : (o : Option Spelling) (rest : List Spelling) → IfSome o IsInTables → AllByRecursion IsInTables rest
    → AllByRecursion IsInTables (cons_option o rest)
cons_in_tables None rest known all = all
cons_in_tables (Some s) rest known all = (known, all)

-- the spellings of a text are in the tables
text_in_tables : (text : List ℕ) → AllByRecursion IsInTables (filter_map spelling_of text)
text_in_tables [] = tt
text_in_tables (ch ∷ text) =
    cons_in_tables (spelling_of ch) (filter_map spelling_of text) (spelled_in_tables ch (spelling_of ch) refl) (text_in_tables text)

-- each code can be written
abbrev pub AreWritable : List Code → Type 0
AreWritable = AllByRecursion IsWritable

-- codes after codes
pub AreWritable-append : (codes more : List Code) → AreWritable codes → AreWritable more → AreWritable (codes ++ more)
AreWritable-append [] more all too = too
AreWritable-append (code ∷ codes) more all too = (all.0, AreWritable-append codes more all.1 too)

-- a pair of a basic character and the null byte can be written
alone_writable : (first : ℕ) → IsBasic first → IsWritable (Text first 0)
alone_writable first basic = (basic.1, lit< tt, inr basic.0)

-- a pair of basic characters can be written
pair_writable : (first second : ℕ) → IsBasic first → IsBasic second → IsWritable (Text first second)
pair_writable first second basic too = (basic.1, too.1, inr basic.0)

-- a completed character can be written
completed_writable : (waiting : Option ℕ) → IfSome waiting IsBasic → AreWritable (completed_pair waiting)
completed_writable None basic = tt
completed_writable (Some first) basic = (alone_writable first basic, tt)

-- the codes of spellings can be written
packed_writable : (waiting : Option ℕ) (spellings : List Spelling) → IfSome waiting IsBasic
    → AllByRecursion IsInTables spellings → AreWritable (packed waiting spellings)
packed_writable waiting [] basic all = completed_writable waiting basic
packed_writable None (Basic byte ∷ rest) basic all = packed_writable (Some byte) rest all.0 all.1
packed_writable (Some first) (Basic byte ∷ rest) basic all =
    (pair_writable first byte basic all.0, packed_writable None rest tt all.1)
packed_writable None (Special byte ∷ rest) basic all = (all.0, packed_writable None rest tt all.1)
packed_writable (Some first) (Special byte ∷ rest) basic all =
    (alone_writable first basic, (all.0, packed_writable None rest tt all.1))
packed_writable None (Extended fallback set byte ∷ rest) basic all =
    (alone_writable fallback all.0.0, (all.0.1, packed_writable None rest tt all.1))
packed_writable (Some first) (Extended fallback set byte ∷ rest) basic all =
    (pair_writable first fallback basic all.0.0, (all.0.1, packed_writable None rest tt all.1))

-- the codes of a text can be written
pub text_codes_writable : (text : List ℕ) → AreWritable (text_codes text)
text_codes_writable text = packed_writable None (filter_map spelling_of text) tt (text_in_tables text)
