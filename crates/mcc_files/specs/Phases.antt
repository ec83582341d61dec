-- Between crates: the program's answer stands on none of these definitions.
-- The form of MCC files byte by byte: where bytes read so far have ended, and what a byte leads to there.
use Rattle.std.specs.Prelude.{ℕ, ◌+◌, ◌<◌, ◌==◌, ◌&&◌, if◌then◌else◌, nat_lt, List, [], codes, slice_index, Option, Some, None}
use Rattle.cc_base.specs.declared.why.Why.{Why}
use Rattle.cc_base.specs.declared.why.Why.TheVariants as why
use Rattle.time_codes.specs.Countings.{counting_text}
use Rattle.time_codes.specs.declared.counting.Counting.{Counting}
use Rattle.time_codes.specs.declared.counting.Counting.TheVariants as counting
use Rattle.mcc_files.specs.Lines.{rate_name}
use Rattle.mcc_files.specs.declared.phase.Phase.{Phase}
use Rattle.mcc_files.specs.declared.phase.Phase.TheVariants as phase
use Rattle.mcc_files.specs.declared.phase.RateText.{RateText}
use Rattle.mcc_files.specs.declared.phase.RateText.TheVariants as rate_text

-- the bytes of the text of a count that were read
abbrev pub rate_bytes : RateText → List ℕ
rate_bytes rate_text.Empty = []
rate_bytes rate_text.Two = codes "2"
rate_bytes rate_text.Three = codes "3"
rate_bytes rate_text.Five = codes "5"
rate_bytes rate_text.Six = codes "6"
rate_bytes rate_text.ThirtyD = codes "30D"
rate_bytes rate_text.SixtyD = codes "60D"
rate_bytes (rate_text.Whole count) = counting_text count

-- the count of a whole text
abbrev pub rate_count : RateText → Option Counting
rate_count (rate_text.Whole count) = Some count
rate_count _ = None

-- after the text of a count, which may go on
abbrev pub whole_moved : Counting → ℕ → Option RateText
whole_moved counting.F30 byte = if byte == 68 then Some rate_text.ThirtyD else None
whole_moved counting.F60 byte = if byte == 68 then Some rate_text.SixtyD else None
whole_moved _ byte = None

-- what a byte leads to within the text of a count
abbrev pub rate_moved : RateText → ℕ → Option RateText
rate_moved rate_text.Empty byte =
    if byte == 50 then Some rate_text.Two
    else if byte == 51 then Some rate_text.Three
    else if byte == 53 then Some rate_text.Five
    else if byte == 54 then Some rate_text.Six
    else None
rate_moved rate_text.Two byte =
    if byte == 52 then Some (rate_text.Whole counting.F24) else if byte == 53 then Some (rate_text.Whole counting.F25) else None
rate_moved rate_text.Three byte = if byte == 48 then Some (rate_text.Whole counting.F30) else None
rate_moved rate_text.Five byte = if byte == 48 then Some (rate_text.Whole counting.F50) else None
rate_moved rate_text.Six byte = if byte == 48 then Some (rate_text.Whole counting.F60) else None
rate_moved rate_text.ThirtyD byte = if byte == 70 then Some (rate_text.Whole counting.F30Drop) else None
rate_moved rate_text.SixtyD byte = if byte == 70 then Some (rate_text.Whole counting.F60Drop) else None
rate_moved (rate_text.Whole count) byte = whole_moved count byte

-- the number that a phase holds is within its range
abbrev pub number_in : Phase → ℕ
number_in (phase.First at) = at
number_in (phase.Name matched) = matched
number_in (phase.Digits count) = count
number_in _ = 0

abbrev pub numbers_in : Phase → ℕ
numbers_in (phase.First at) = 31
numbers_in (phase.Name matched) = 15
numbers_in (phase.Digits count) = 6
numbers_in _ = 1

abbrev pub HasNumbersInRange : Phase → Type 0
HasNumbersInRange p = number_in p < numbers_in p

-- how many bytes of a time code's text may have been read, of which it has eleven
abbrev pub most_text : Phase → ℕ
most_text phase.Time = 10
most_text _ = 11

-- how many bytes of the rate's name stand in a name with one byte more, where this many stood before; 0 in another name
abbrev pub matched : ℕ → ℕ → ℕ
matched before byte = if nat_lt 0 before && nat_lt before 14 && (byte == slice_index rate_name before) then before + 1 else 0

-- the reason where no line goes on
abbrev pub why_in : Phase → Why
why_in (phase.First at) = why.Header
why_in phase.FirstSpaces = why.Header
why_in phase.FirstEnd = why.Header
why_in _ = why.MccSyntax
