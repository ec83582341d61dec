-- Believed: the program's answer stands on these definitions.
-- The lines of SCC files, by cases on what a line says, and which bytes are an SCC file in form: its first line, and then lines that are
-- blank or have a time code and words. Every line but the first follows the line end of the line before it, so the last line's
-- end is one more blank line.
use Rattle.std.specs.Prelude.{◌≡◌, ℕ, ◌+◌, ◌*◌, ◌⊎◌, true, List, [], ◌∷◌, ◌++◌, Option, Some, None, ⊤}
use Rattle.line21_codes.specs.declared.pairs.Pair.{Pair}
use Rattle.time_codes.specs.Texts.{IsTimeText}
use Rattle.time_codes.specs.declared.time_code.TimeCode.{TimeCode}
use Rattle.hex_digits.specs.HexDigits.{hex_value}
use Rattle.scc_files.specs.Phases.{first_text, is_blank}

-- spaces, perhaps none
abbrev pub AreSpaces : List ℕ → Type 0
AreSpaces [] = ⊤
AreSpaces (byte ∷ bytes) = (byte ≡ 32) × AreSpaces bytes

-- TABs and spaces, perhaps none
abbrev pub AreBlanks : List ℕ → Type 0
AreBlanks [] = ⊤
AreBlanks (byte ∷ bytes) = (is_blank byte ≡ true) × AreBlanks bytes

-- LF, or CR LF
abbrev pub IsLineEnd : List ℕ → Type 0
IsLineEnd bytes = (bytes ≡ 10 ∷ []) ⊎ (bytes ≡ 13 ∷ 10 ∷ [])

-- a pair's word: four hex digits of either case, two for each byte
pub record IsPairWord (pair : Pair) (bytes : List ℕ) : Type 0 where
  pub a : ℕ
  pub b : ℕ
  pub c : ℕ
  pub d : ℕ
  pub p : ℕ
  pub q : ℕ
  pub r : ℕ
  pub s : ℕ
  pub spelled : bytes ≡ a ∷ b ∷ c ∷ d ∷ []
  pub a_is : hex_value a ≡ Some p
  pub b_is : hex_value b ≡ Some q
  pub c_is : hex_value c ≡ Some r
  pub d_is : hex_value d ≡ Some s
  pub is : pair ≡ record { a = 16 * p + q; b = 16 * r + s }

-- words after a word, each after one or more spaces, and then perhaps spaces
abbrev pub AreSpacedWords : List Pair → List ℕ → Type 0
AreSpacedWords [] bytes = AreSpaces bytes
AreSpacedWords (pair ∷ pairs) bytes =
    (spaces : List ℕ) × (word : List ℕ) × (rest : List ℕ) × AreSpaces spaces × IsPairWord pair word × AreSpacedWords pairs rest
    × (bytes ≡ 32 ∷ (spaces ++ (word ++ rest)))

-- what a line with a time code says: its time, and its pairs, at least one
pub record TimedLine : Type 0 where
  pub time : TimeCode
  pub first : Pair
  pub more : List Pair

-- its bytes: the time code's text, one or more TABs or spaces, and the words
pub record IsTimedLine (line : TimedLine) (bytes : List ℕ) : Type 0 where
  pub text : List ℕ
  pub blank : ℕ
  pub blanks : List ℕ
  pub word : List ℕ
  pub words : List ℕ
  pub is_text : IsTimeText line.time text
  pub is_blank_byte : is_blank blank ≡ true
  pub are_blanks : AreBlanks blanks
  pub is_word : IsPairWord line.first word
  pub are_words : AreSpacedWords line.more words
  pub spelled : bytes ≡ text ++ (blank ∷ (blanks ++ (word ++ words)))

-- a line: blank, or one with a time code
abbrev pub IsLine : Option TimedLine → List ℕ → Type 0
IsLine None bytes = AreSpaces bytes
IsLine (Some line) bytes = IsTimedLine line bytes

-- lines, each after a line end
abbrev pub AreLines : List (Option TimedLine) → List ℕ → Type 0
AreLines [] bytes = bytes ≡ []
AreLines (line ∷ lines) bytes =
    (end : List ℕ) × (spelled : List ℕ) × (rest : List ℕ) × IsLineEnd end × IsLine line spelled × AreLines lines rest
    × (bytes ≡ end ++ (spelled ++ rest))

-- an SCC file in form: the first line's text and perhaps spaces, and then these lines
pub record IsForm (lines : List (Option TimedLine)) (bytes : List ℕ) : Type 0 where
  pub spaces : List ℕ
  pub rest : List ℕ
  pub are_spaces : AreSpaces spaces
  pub are_lines : AreLines lines rest
  pub spelled : bytes ≡ first_text ++ (spaces ++ rest)
