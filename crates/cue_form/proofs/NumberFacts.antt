-- Frames in fields: a field is read as a frame's number exactly where it is the number's decimal digits.
use Rattle.std.proofs.Common.{◌≡◌, ℕ, ◌^◌, ◌<◌, Some, decimal, arith}
use Rattle.cue_form.specs.Fields.{frame_field}
use Rattle.cue_form.proofs.RecordNumberFacts.{number_within-decimal, within_passed}
use Rattle.cue_form.specs.Records.{Field}

-- a frame
pub frame_passed : (text : Field) (n : ℕ) → frame_field text ≡ Some n → (text ≡ decimal n) × (n < 2 ^ 32)
frame_passed text n e = let (same, low, high) = within_passed 0 4294967295 text n e in (same, omega arith)

pub frame_field-decimal : (n : ℕ) → n < 2 ^ 32 → frame_field (decimal n) ≡ Some n
frame_field-decimal n fits = number_within-decimal 0 4294967295 n (omega arith) (omega arith) (omega arith)
