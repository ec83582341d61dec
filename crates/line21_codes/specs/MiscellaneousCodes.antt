-- Believed: the program's answer stands on these definitions.
-- The miscellaneous control codes (CTA-608-E and 47 CFR 79.101, miscellaneous control codes).
use Rattle.std.specs.Prelude.{ℕ, ◌-◌, List, [], ◌∷◌, slice_index_or}
use Rattle.line21_codes.specs.declared.channels.FieldNumber.{FieldNumber}
use Rattle.line21_codes.specs.declared.channels.FieldNumber.TheVariants.{One, Two}
use Rattle.line21_codes.specs.declared.codes.Control.{Control}
use Rattle.line21_codes.specs.declared.codes.Control.TheVariants.{Rcl, Bs, Der, Ru, Fon, Rdc, Tr, Rtd, Edm, Cr, Enm, Eoc, Skipped}

-- the codes of the second bytes 20 to 2F; alarm off and alarm on, 22 and 23, are skipped
abbrev pub miscellaneous_codes : List Control
miscellaneous_codes =
    Rcl ∷ Bs ∷ Skipped ∷ Skipped ∷ Der ∷ Ru 2 ∷ Ru 3 ∷ Ru 4
    ∷ Fon ∷ Rdc ∷ Tr ∷ Rtd ∷ Edm ∷ Cr ∷ Enm ∷ Eoc ∷ []

-- the code of the second byte; the second bytes 30 to 3F are skipped
abbrev pub miscellaneous_at : ℕ → Control
miscellaneous_at second = slice_index_or miscellaneous_codes (second - 0x20) Skipped

-- the first byte with which a field writes them
abbrev pub miscellaneous_first : FieldNumber → ℕ
miscellaneous_first One = 0x14
miscellaneous_first Two = 0x15
