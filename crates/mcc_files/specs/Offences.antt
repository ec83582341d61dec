-- Believed in part: the program's answer stands on some of these definitions.
-- Where bytes first offend that are no MCC file. A byte offends where no file can continue with it. The text of a time code, an item of a
-- payload, and the name of a time code rate with its `=` are units: such a one is judged when it is whole, and offends at its first byte.
-- So nothing offends in bytes with which some file begins, nor in those that end within a time code's text after the lines of a file with a
-- time code rate, or after the first digit of an item.
use Rattle.std.specs.Prelude.{◌≡◌, ◌≢◌, ℕ, ◌⊎◌, ◌==◌, if◌then◌else◌, List, [], ◌∷◌, ◌++◌, length, IsSome}
use Rattle.std.specs.List.{concat}
use Rattle.cc_base.specs.declared.refusal.Refusal.{Refusal}
use Rattle.cc_base.specs.declared.why.Why.{Why}
use Rattle.cc_base.specs.declared.why.Why.TheVariants as why
use Rattle.hex_digits.specs.HexDigits.{hex_value}
use Rattle.time_codes.specs.Countings.{frame_in}
use Rattle.time_codes.specs.Texts.{IsTimeText}
use Rattle.time_codes.specs.declared.counting.Counting.{Counting}
use Rattle.time_codes.specs.declared.time_code.TimeCode.{TimeCode}
use Rattle.mcc_files.specs.Items.{AreItems, IsItem}
use Rattle.mcc_files.specs.PayloadOffences.{BeginsPayload, IsItemWhy}
use Rattle.mcc_files.specs.Payloads.{IsPayload, Payload}
use Rattle.scc_files.specs.Offences.{EndsLine, time_why_by}
use Rattle.mcc_files.specs.Lines.{IsMccForm, IsReadPast, Line, Version, rate, rate_name}
use Rattle.mcc_files.specs.MccFiles.{IsMccFile, Say, TimedPackets}

-- some MCC file begins with the bytes
pub record BeginsMccFile (bytes : List ℕ) : Type 0 where
  pub more : List ℕ
  pub placed : TimedPackets
  pub file : IsMccFile placed (bytes ++ more)

-- the time code rate stands among the lines
abbrev pub HasMccRate : Counting → List Line → Type 0
HasMccRate count lines = (before : List Line) × (after : List Line) × (lines ≡ before ++ (rate count ∷ after))

-- after the bytes a time code's text may stand: they are the lines of a file, the last one ended, with this time code rate
pub record AwaitsTime (version : Version) (count : Counting) (bytes : List ℕ) : Type 0 where
  pub lines : List Line
  pub placed : TimedPackets
  pub form : IsMccForm version lines bytes
  pub say : Say lines placed
  pub has_rate : HasMccRate count lines
  pub ends : EndsLine bytes

-- after the bytes an item may stand: some file begins with them, and they end with a time code's text, what is read past, TAB, and these
-- items, which are no whole payload yet
pub record AwaitsItem (items : List (List ℕ)) (bytes : List ℕ) : Type 0 where
  pub version : Version
  pub count : Counting
  pub time : TimeCode
  pub start : List ℕ
  pub text : List ℕ
  pub past : List ℕ
  pub items_text : List ℕ
  pub awaits : AwaitsTime version count start
  pub is_text : IsTimeText time text
  pub is_past : IsReadPast version past
  pub are : AreItems items items_text
  pub begins : BeginsMccFile bytes
  pub begins_payload : BeginsPayload items_text
  pub not_yet : (payload : Payload) → IsPayload payload items_text → ⊥
  pub spelled : bytes ≡ start ++ (text ++ (past ++ (9 ∷ items_text)))

-- the bytes end within a time code's text
pub record EndsInTime (bytes : List ℕ) : Type 0 where
  pub version : Version
  pub count : Counting
  pub time : TimeCode
  pub start : List ℕ
  pub front : List ℕ
  pub back : List ℕ
  pub awaits : AwaitsTime version count start
  pub is_text : IsTimeText time (front ++ back)
  pub some_front : front ≢ []
  pub some_back : back ≢ []
  pub spelled : bytes ≡ start ++ front

-- the bytes end after the first digit of an item
pub record EndsInItem (bytes : List ℕ) : Type 0 where
  pub items : List (List ℕ)
  pub start : List ℕ
  pub digit : ℕ
  pub awaits : AwaitsItem items start
  pub is_digit : IsSome (hex_value digit)
  pub spelled : bytes ≡ start ++ digit ∷ []

-- nothing offends in the bytes
abbrev pub IsUnoffendingMcc : List ℕ → Type 0
IsUnoffendingMcc bytes = BeginsMccFile bytes ⊎ (EndsInTime bytes ⊎ EndsInItem bytes)

-- the bytes end with a whole time code's text, which is refused so: no frame has it, or it is before the previous line's
pub record EndsTime (bytes : List ℕ) (refusal : Refusal) : Type 0 where
  pub version : Version
  pub count : Counting
  pub time : TimeCode
  pub start : List ℕ
  pub text : List ℕ
  pub awaits : AwaitsTime version count start
  pub is_text : IsTimeText time text
  pub spelled : bytes ≡ start ++ text
  pub place_is : refusal.place ≡ length start
  pub why_is : refusal.why ≡ time_why_by (frame_in count time)

-- the bytes end with a whole item, which is refused so
pub record EndsItem (bytes : List ℕ) (refusal : Refusal) : Type 0 where
  pub items : List (List ℕ)
  pub start : List ℕ
  pub brought : List ℕ
  pub item : List ℕ
  pub awaits : AwaitsItem items start
  pub is_item : IsItem brought item
  pub spelled : bytes ≡ start ++ item
  pub place_is : refusal.place ≡ length start
  pub why_is : IsItemWhy (concat items) brought refusal.why

-- the bytes end with the name of a time code rate and its `=`, which is refused so
pub record EndsRate (bytes : List ℕ) (refusal : Refusal) : Type 0 where
  pub start : List ℕ
  pub begins : BeginsMccFile start
  pub ends : EndsLine start
  pub spelled : bytes ≡ start ++ (rate_name ++ 61 ∷ [])
  pub place_is : refusal.place ≡ length start
  pub why_is : refusal.why ≡ why.MccSyntax

abbrev pub EndsUnit : List ℕ → Refusal → Type 0
EndsUnit bytes refusal = EndsTime bytes refusal ⊎ (EndsItem bytes refusal ⊎ EndsRate bytes refusal)

-- the reason where no line goes on after bytes: Header within the first line, before any LF
abbrev pub mcc_line_why : List ℕ → Why
mcc_line_why [] = why.Header
mcc_line_why (byte ∷ bytes) = if byte == 10 then why.MccSyntax else mcc_line_why bytes

-- a byte ends no unit, and is refused so
pub record EndsNone (before : List ℕ) (byte : ℕ) (refusal : Refusal) : Type 0 where
  pub no_unit : (other : Refusal) → EndsUnit (before ++ byte ∷ []) other → ⊥
  pub place_is : refusal.place ≡ length before
  pub why_is : refusal.why ≡ mcc_line_why before

-- a byte offends: nothing does in the bytes before it, and something with it
pub record MccByteOffends (bytes : List ℕ) (refusal : Refusal) : Type 0 where
  pub before : List ℕ
  pub byte : ℕ
  pub rest : List ℕ
  pub spelled : bytes ≡ before ++ byte ∷ rest
  pub unoffending : IsUnoffendingMcc before
  pub offends : IsUnoffendingMcc (before ++ byte ∷ []) → ⊥
  pub refused : EndsUnit (before ++ byte ∷ []) refusal ⊎ EndsNone before byte refusal

-- the bytes end too soon: nothing in them offends, and they are no file
pub record MccEndsEarly (bytes : List ℕ) (refusal : Refusal) : Type 0 where
  pub unoffending : IsUnoffendingMcc bytes
  pub no_file : (placed : TimedPackets) → IsMccFile placed bytes → ⊥
  pub place_is : refusal.place ≡ length bytes
  pub why_is : refusal.why ≡ mcc_line_why bytes

-- the bytes' first offence
abbrev pub IsFirstOffence : List ℕ → Refusal → Type 0
IsFirstOffence bytes refusal = MccByteOffends bytes refusal ⊎ MccEndsEarly bytes refusal
