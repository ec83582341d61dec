-- Between crates: the program's answer stands on none of these definitions.
-- The text of a run, judged for its bytes, then for its characters, then for its length.
use Rattle.std.specs.Prelude.{ℕ, ◌+◌, ◌&&◌, ◌==◌, not, nat_lt, nat_le, if◌then◌else◌, Bool, List, length, chars, Result, Ok, Err}
use Rattle.std.specs.List.{list_all}
use Rattle.std.specs.Str.{is_utf8}
use Rattle.cc_base.specs.declared.why.Why.{Why}
use Rattle.cc_base.specs.declared.why.Why.TheVariants as why
use Rattle.cue_form.specs.Form.{cue_columns, is_coded}
use Rattle.cue_form.specs.Records.{Field}
use Rattle.cue_types.specs.declared.cue.Kind.{Kind}
use Rattle.cue_form.specs.declared.offence.Offence.{Offence}
use Rattle.cue_form.specs.declared.offence.Offence.TheVariants as offence

-- a character of ASCII that has a code in line 21 and in a service
abbrev pub is_plain_byte : ℕ → Bool
is_plain_byte byte = nat_le 0x20 byte && (nat_lt byte 0x7F && not (byte == 0x60))

-- a test of the text, and what goes on where it is passed
abbrev pub must : {A : Type 0} → Bool → Why → Result A Offence → Result A Offence
must good why rest = if good then rest else Err (offence.At 5 why)

-- the text of a run that begins at a column
abbrev pub run_text_of : Kind → ℕ → Field → Result (List ℕ) Offence
run_text_of kind col text =
    must (is_utf8 text && nat_lt 0 (length text)) why.Field
    (must (list_all (is_coded kind) (chars text)) why.NoCode
    (must (nat_le (col + length (chars text)) (cue_columns kind)) why.Field
    (Ok (chars text))))
