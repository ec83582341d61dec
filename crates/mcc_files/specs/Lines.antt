-- Believed: the program's answer stands on these definitions.
-- The lines of MCC files, by cases on what a line says, and which bytes are an MCC file in form: its first line, and then lines that are
-- blank, comments, attributes, the time code rate among them, or packets. Every line but the first follows the line end of the line
-- before it, so the last line's end is one more blank line.
use Rattle.std.specs.Prelude.{◌≡◌, ◌≢◌, ℕ, ◌≤◌, ◌⊎◌, ◌==◌, ◌&&◌, ◌||◌, not, Bool, true, nat_le, List, [], ◌∷◌, ◌++◌, codes, length}
use Rattle.std.specs.List.{list_all}
use Rattle.time_codes.specs.Countings.{counting_text}
use Rattle.time_codes.specs.Texts.{IsTimeText, is_digit}
use Rattle.time_codes.specs.declared.counting.Counting.{Counting}
use Rattle.time_codes.specs.declared.time_code.TimeCode.{TimeCode}
use Rattle.mcc_files.specs.Payloads.{IsPayload, Payload}
use Rattle.scc_files.specs.Lines.{AreBlanks, AreSpaces, IsLineEnd}

-- the versions of the format
pub data Version : Type 0 where
  one : Version
  two : Version

-- the text of the first line
abbrev pub format_text : Version → List ℕ
format_text one = codes "File Format=MacCaption_MCC V1.0"
format_text two = codes "File Format=MacCaption_MCC V2.0"

-- what a line says
pub data Line : Type 0 where
  nothing : Line
  attribute : Line
  rate : Counting → Line
  packet : TimeCode → Payload → Line

-- any bytes but CR and LF
abbrev pub AreWithinLine : List ℕ → Type 0
AreWithinLine bytes = list_all (λ byte. not (byte == 10) && not (byte == 13)) bytes ≡ true

-- any bytes but LF: a line that has not ended
abbrev pub HaveNoLf : List ℕ → Type 0
HaveNoLf bytes = list_all (λ byte. not (byte == 10)) bytes ≡ true

-- a comment: `//`, and any bytes
pub record IsComment (bytes : List ℕ) : Type 0 where
  pub rest : List ℕ
  pub within : AreWithinLine rest
  pub spelled : bytes ≡ 47 ∷ 47 ∷ rest

-- a letter, A to Z or a to z
abbrev pub is_letter : ℕ → Bool
is_letter byte = (nat_le 65 byte && nat_le byte 90) || (nat_le 97 byte && nat_le byte 122)

-- a letter, a digit or a space
abbrev pub is_name_byte : ℕ → Bool
is_name_byte byte = is_letter byte || is_digit byte || (byte == 32)

abbrev pub AreNameBytes : List ℕ → Type 0
AreNameBytes bytes = list_all is_name_byte bytes ≡ true

-- the name of an attribute: a letter, and then letters, digits and spaces
pub record IsName (name : List ℕ) : Type 0 where
  pub first : ℕ
  pub more : List ℕ
  pub letter : is_letter first ≡ true
  pub are : AreNameBytes more
  pub spelled : name ≡ first ∷ more

-- the name of the time code rate
abbrev pub rate_name : List ℕ
rate_name = codes "Time Code Rate"

-- an attribute of another name: its name, `=`, and any bytes
pub record IsAttribute (bytes : List ℕ) : Type 0 where
  pub name : List ℕ
  pub value : List ℕ
  pub is_name : IsName name
  pub other : name ≢ rate_name
  pub within : AreWithinLine value
  pub spelled : bytes ≡ name ++ (61 ∷ value)

-- the time code rate: its name, `=`, the text of a count, and spaces
pub record IsRate (count : Counting) (bytes : List ℕ) : Type 0 where
  pub spaces : List ℕ
  pub are_spaces : AreSpaces spaces
  pub spelled : bytes ≡ rate_name ++ (61 ∷ (counting_text count ++ spaces))

-- decimal digits
abbrev pub AreDecimals : List ℕ → Type 0
AreDecimals bytes = list_all is_digit bytes ≡ true

-- `.` and `0` or `1`, and after these perhaps `,` and one to five digits
pub record IsFieldPart (bytes : List ℕ) : Type 0 where
  pub field : ℕ
  pub rest : List ℕ
  pub is_field : (field ≡ 48) ⊎ (field ≡ 49)
  pub is_rest : (rest ≡ []) ⊎ ((digits : List ℕ) × AreDecimals digits × (1 ≤ length digits) × (length digits ≤ 5) × (rest ≡ 44 ∷ digits))
  pub spelled : bytes ≡ 46 ∷ field ∷ rest

-- what may follow a time code's text, which is read past: nothing, or with version 2 such a part
abbrev pub IsReadPast : Version → List ℕ → Type 0
IsReadPast one bytes = bytes ≡ []
IsReadPast two bytes = (bytes ≡ []) ⊎ IsFieldPart bytes

-- a packet: a time code's text, TAB, a payload, and perhaps spaces and TABs
pub record IsPacketLine (version : Version) (time : TimeCode) (payload : Payload) (bytes : List ℕ) : Type 0 where
  pub text : List ℕ
  pub past : List ℕ
  pub payload_text : List ℕ
  pub blanks : List ℕ
  pub is_text : IsTimeText time text
  pub is_past : IsReadPast version past
  pub is_payload : IsPayload payload payload_text
  pub are_blanks : AreBlanks blanks
  pub spelled : bytes ≡ text ++ (past ++ (9 ∷ (payload_text ++ blanks)))

-- a line: blank or a comment, an attribute, the time code rate, or a packet
abbrev pub IsMccLine : Version → Line → List ℕ → Type 0
IsMccLine version nothing bytes = AreBlanks bytes ⊎ IsComment bytes
IsMccLine version attribute bytes = IsAttribute bytes
IsMccLine version (rate count) bytes = IsRate count bytes
IsMccLine version (packet time payload) bytes = IsPacketLine version time payload bytes

-- lines, each after a line end
abbrev pub AreMccLines : Version → List Line → List ℕ → Type 0
AreMccLines version [] bytes = bytes ≡ []
AreMccLines version (line ∷ lines) bytes =
    (end : List ℕ) × (spelled : List ℕ) × (rest : List ℕ) × IsLineEnd end × IsMccLine version line spelled × AreMccLines version lines rest
    × (bytes ≡ end ++ (spelled ++ rest))

-- an MCC file in form: the first line's text and perhaps spaces, and then these lines
pub record IsMccForm (version : Version) (lines : List Line) (bytes : List ℕ) : Type 0 where
  pub spaces : List ℕ
  pub rest : List ℕ
  pub are_spaces : AreSpaces spaces
  pub are_lines : AreMccLines version lines rest
  pub spelled : bytes ≡ format_text version ++ (spaces ++ rest)
