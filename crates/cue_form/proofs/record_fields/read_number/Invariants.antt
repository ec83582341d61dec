use Rattle.std.proofs.Common.{◌≡◌, ◌<◌, ◌^◌, drop}
use Rattle.std.specs.List.{list_all}
use Rattle.std.specs.Char.{is_ascii_digit}
use Rattle.cue_form.specs.Numbers.{value_after}
use Rattle.cue_form.proofs.record_fields.read_number.Given as goal

-- the digits so far are taken, and what is left decides
abbrev pub invariant-loop-byte : goal.invariant-loop-byte
invariant-loop-byte l = (value_after 0 l.text ≡ value_after l.value (drop l.byte-index l.text))
    × (list_all is_ascii_digit l.text ≡ list_all is_ascii_digit (drop l.byte-index l.text))
    × (l.value < 10 ^ l.byte-index)
