-- Believed in part: the program's answer stands on some of these definitions.
-- The form of SCC files byte by byte: where bytes read so far have ended, what a byte leads to there, and where a file may end.
use Rattle.std.specs.Prelude.{ℕ, ◌+◌, ◌*◌, ◌<◌, ◌==◌, ◌||◌, Bool, true, false, if◌then◌else◌, List, [], ◌∷◌, codes, slice_index, slice_set, Option, Some, None, ⊤}
use Rattle.std.specs.Option.{option_map}
use Rattle.cc_base.specs.declared.why.Why.{Why}
use Rattle.cc_base.specs.declared.why.Why.TheVariants as why
use Rattle.hex_digits.specs.HexDigits.{hex_value}
use Rattle.time_codes.specs.Texts.{is_digit}
use Rattle.scc_files.specs.declared.phase.Phase.{Phase}
use Rattle.scc_files.specs.declared.phase.Phase.TheVariants as phase

-- the text of the first line
abbrev pub first_text : List ℕ
first_text = codes "Scenarist_SCC V1.0"

-- a TAB or a space
abbrev pub is_blank : ℕ → Bool
is_blank byte = (byte == 9) || (byte == 32)

-- a byte may stand at a place of a time code's text
abbrev pub fits : ℕ → ℕ → Bool
fits at byte =
    if (at == 2) || (at == 5) then byte == 58
    else if at == 8 then (byte == 58) || (byte == 59)
    else is_digit byte

-- the numbers that a phase holds are within their ranges
abbrev pub HasNumbersInRange : Phase → Type 0
HasNumbersInRange (phase.First at) = at < 18
HasNumbersInRange (phase.Text at text) = at < 11
HasNumbersInRange (phase.One value) = value < 16
HasNumbersInRange (phase.Three first value) = value < 16
HasNumbersInRange _ = ⊤

-- a line's end, or its CR
abbrev pub ended : ℕ → Option Phase
ended byte = if byte == 10 then Some phase.Start else if byte == 13 then Some phase.End else None

-- within the first line's text
abbrev pub first_text_moved : ℕ → ℕ → Option Phase
first_text_moved at byte =
    if byte == slice_index first_text at then (if at == 17 then Some phase.FirstSpaces else Some (phase.First (at + 1))) else None

-- after the first line's text
abbrev pub first_text_ended : ℕ → Option Phase
first_text_ended byte =
    if byte == 32 then Some phase.FirstSpaces else if byte == 10 then Some phase.Start else if byte == 13 then Some phase.FirstEnd else None

-- at the start of a line
abbrev pub started : ℕ → Option Phase
started byte =
    if is_digit byte then Some (phase.Text 1 (byte ∷ 0 ∷ 0 ∷ 0 ∷ 0 ∷ 0 ∷ 0 ∷ 0 ∷ 0 ∷ 0 ∷ 0 ∷ []))
    else if byte == 32 then Some phase.Blank
    else ended byte

-- within a time code's text
abbrev pub text_moved : ℕ → List ℕ → ℕ → Option Phase
text_moved at text byte =
    if fits at byte
    then (if at == 10 then Some (phase.Timed (slice_set text at byte)) else Some (phase.Text (at + 1) (slice_set text at byte)))
    else None

-- after spaces that follow a word: a further word, or the line's end
abbrev pub word_or_end : ℕ → Option ℕ → Option Phase
word_or_end byte None = ended byte
word_or_end byte (Some value) = Some (phase.One value)

-- what a byte leads to, if some line can continue with it
abbrev pub phase_after : Phase → ℕ → Option Phase
phase_after (phase.First at) byte = first_text_moved at byte
phase_after phase.FirstSpaces byte = first_text_ended byte
phase_after phase.FirstEnd byte = if byte == 10 then Some phase.Start else None
phase_after phase.Start byte = started byte
phase_after phase.Blank byte = if byte == 32 then Some phase.Blank else ended byte
phase_after phase.End byte = if byte == 10 then Some phase.Start else None
phase_after (phase.Text at text) byte = text_moved at text byte
phase_after (phase.Timed text) byte = if is_blank byte then Some phase.Gap else None
phase_after phase.Gap byte = if is_blank byte then Some phase.Gap else option_map (λ value. phase.One value) (hex_value byte)
phase_after (phase.One value) byte = option_map (λ low. phase.Two (16 * value + low)) (hex_value byte)
phase_after (phase.Two first) byte = option_map (λ value. phase.Three first value) (hex_value byte)
phase_after (phase.Three first value) byte =
    option_map (λ low. phase.Whole (record { a = first; b = 16 * value + low })) (hex_value byte)
phase_after (phase.Whole pair) byte = if byte == 32 then Some phase.Between else ended byte
phase_after phase.Between byte = if byte == 32 then Some phase.Between else word_or_end byte (hex_value byte)

-- a file may end here
abbrev pub may_end : Phase → Bool
may_end phase.FirstSpaces = true
may_end phase.Start = true
may_end phase.Blank = true
may_end (phase.Whole pair) = true
may_end phase.Between = true
may_end _ = false

-- the reason where no line goes on
abbrev pub why_in : Phase → Why
why_in (phase.First at) = why.Header
why_in phase.FirstSpaces = why.Header
why_in phase.FirstEnd = why.Header
why_in _ = why.SccSyntax
