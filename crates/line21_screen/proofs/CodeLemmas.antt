-- The codes of pairs have possible numbers.
use Rattle.std.proofs.Common.{◌≡◌, false, refl}
use Rattle.line21_codes.specs.declared.codes.Code.{Code}
use Rattle.line21_codes.specs.declared.codes.Code.TheVariants.{Null, Text, Xds, Control}
use Rattle.line21_codes.specs.declared.codes.Control.TheVariants.{Ru, Tab, Preamble}
use Rattle.line21_codes.specs.declared.pairs.Pair.{Pair}
use Rattle.line21_codes.specs.Reading.{code_of}
use Rattle.line21_codes.specs.Writable.{IsWritable, is_skipped}
use Rattle.line21_codes.proofs.CodeLemmas.{writable_from_read}
use Rattle.line21_screen.specs.Codes.{IsPossibleCode}

-- a code that can be written, or is skipped
possible : (code : Code) → (is_skipped code ≡ false → IsWritable code) → IsPossibleCode code
possible Null h = tt
possible (Text first second) h = tt
possible (Xds first second) h = tt
possible (Control second (Ru rows)) h = h refl
possible (Control second (Tab columns)) h = (h refl).1
possible (Control second (Preamble row col style)) h = let p = h refl in (p.0, p.1, p.2)
possible (Control second _) h = tt

-- the code of a pair
pub code_of-possible : (pair : Pair) → IsPossibleCode (code_of pair)
code_of-possible pair = possible (code_of pair) (writable_from_read pair)
