-- Believed in part: the program's answer stands on some of these definitions.
-- Where bytes first offend that are no SCC file, whose frame 0 is at `opening` or else at the first line's time code. A byte offends where
-- no file can continue with it; a time code's text is one unit, which is judged when it is whole and before the byte after it. So nothing
-- offends in bytes with which some file begins, nor in those that end within a time code's text after a line's end, where some file begins
-- with the bytes before that text, and some file in form with all of them.
use Rattle.std.specs.Prelude.{◌≡◌, ℕ, ◌<◌, ◌≤◌, ◌⊎◌, ◌==◌, if◌then◌else◌, List, [], ◌∷◌, ◌++◌, length, Option, Result, Ok, Err, ⊤}
use Rattle.cc_base.specs.declared.limit_of.LimitOf.TheVariants as limit
use Rattle.cc_base.specs.declared.refusal.Refusal.{Refusal}
use Rattle.cc_base.specs.declared.why.Why.{Why}
use Rattle.cc_base.specs.declared.why.Why.TheVariants as why
use Rattle.line21_codes.specs.declared.pairs.Pair.{Pair}
use Rattle.time_codes.specs.Frames.{frame_of}
use Rattle.time_codes.specs.Texts.{IsTimeText}
use Rattle.time_codes.specs.declared.time_code.TimeCode.{TimeCode}
use Rattle.scc_files.specs.Lines.{IsForm, TimedLine}
use Rattle.scc_files.specs.Reading.{frames_of}
use Rattle.scc_files.specs.SccFiles.{IsSccFile}
use Rattle.scc_files.specs.declared.fault.SccFault.{SccFault}
use Rattle.scc_files.specs.declared.fault.SccFault.TheVariants as fault

-- some SCC file in form, whatever its times, begins with the bytes
pub record BeginsForm (bytes : List ℕ) : Type 0 where
  pub more : List ℕ
  pub lines : List (Option TimedLine)
  pub form : IsForm lines (bytes ++ more)

-- some SCC file begins with the bytes
pub record BeginsFile (opening : Option ℕ) (bytes : List ℕ) : Type 0 where
  pub more : List ℕ
  pub pairs : List (ℕ × Pair)
  pub file : IsSccFile opening pairs (bytes ++ more)

-- the bytes end with a line's end
abbrev pub EndsLine : List ℕ → Type 0
EndsLine bytes = (front : List ℕ) × (bytes ≡ front ++ 10 ∷ [])

-- nothing offends in the bytes
pub record IsUnoffendingText (opening : Option ℕ) (bytes : List ℕ) : Type 0 where
  pub start : List ℕ
  pub open_text : List ℕ
  pub spelled : bytes ≡ start ++ open_text
  pub within : (open_text ≡ []) ⊎ (EndsLine start × (length open_text < 11))
  pub begins : BeginsFile opening start
  pub form : BeginsForm bytes

-- the reason where no line goes on after bytes: Header within the first line, before any LF
abbrev pub line_why : List ℕ → Why
line_why [] = why.Header
line_why (byte ∷ bytes) = if byte == 10 then why.SccSyntax else line_why bytes

-- a byte offends: nothing before it does, and no file in form can continue with it
pub record ByteOffends (opening : Option ℕ) (bytes : List ℕ) (refusal : Refusal) : Type 0 where
  pub before : List ℕ
  pub byte : ℕ
  pub rest : List ℕ
  pub spelled : bytes ≡ before ++ byte ∷ rest
  pub unoffending : IsUnoffendingText opening before
  pub offends : BeginsForm (before ++ byte ∷ []) → ⊥
  pub place_is : refusal.place ≡ length before
  pub why_is : refusal.why ≡ line_why before

-- the bytes end too soon: nothing in them offends, and they are no file in form
pub record EndsEarly (opening : Option ℕ) (bytes : List ℕ) (refusal : Refusal) : Type 0 where
  pub unoffending : IsUnoffendingText opening bytes
  pub no_file : (lines : List (Option TimedLine)) → IsForm lines bytes → ⊥
  pub place_is : refusal.place ≡ length bytes
  pub why_is : refusal.why ≡ line_why bytes

-- the reason where a time code offends: no frame has it, or it is before that of the line before, or before frame 0's
abbrev pub time_why_by : Result ℕ Why → Why
time_why_by (Ok frame) = why.Backwards
time_why_by (Err reason) = why.NoSuchTime

abbrev pub time_why : TimeCode → Why
time_why t = time_why_by (frame_of t)

-- a time code's text at the start of a line offends: some file begins with the bytes before it, and none with these and the text
pub record TimeOffends (opening : Option ℕ) (bytes : List ℕ) (refusal : Refusal) : Type 0 where
  pub start : List ℕ
  pub text : List ℕ
  pub rest : List ℕ
  pub time : TimeCode
  pub spelled : bytes ≡ start ++ (text ++ rest)
  pub is_text : IsTimeText time text
  pub ends : EndsLine start
  pub begins : BeginsFile opening start
  pub offends : BeginsFile opening (start ++ text) → ⊥
  pub place_is : refusal.place ≡ length start
  pub why_is : refusal.why ≡ time_why time

-- the bytes' first offence
abbrev pub IsFirstOffence : Option ℕ → List ℕ → Refusal → Type 0
IsFirstOffence opening bytes refusal =
    ByteOffends opening bytes refusal ⊎ (EndsEarly opening bytes refusal ⊎ TimeOffends opening bytes refusal)

-- how reading bytes as an SCC file is answered: with the pairs of the file that they are, or that these take too many frames; else with
-- their first offence
abbrev pub FileAnswers : Option ℕ → List ℕ → Result (List (ℕ × Pair)) SccFault → Type 0
FileAnswers opening bytes (Ok pairs) = IsSccFile opening pairs bytes × (frames_of pairs ≤ 2592000)
FileAnswers opening bytes (Err (fault.Memory error)) = ⊤
FileAnswers opening bytes (Err (fault.Limit limit.Frames)) = (pairs : List (ℕ × Pair)) × IsSccFile opening pairs bytes × (2592000 < frames_of pairs)
FileAnswers opening bytes (Err (fault.Limit _)) = ⊥
FileAnswers opening bytes (Err (fault.Malformed refusal)) = IsFirstOffence opening bytes refusal × ((pairs : List (ℕ × Pair)) → IsSccFile opening pairs bytes → ⊥)
