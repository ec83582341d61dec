-- Believed: the program's answer stands on these definitions.
-- The tab offsets: first byte 17 (CTA-608-E and 47 CFR 79.101, tab offsets).
use Rattle.std.specs.Prelude.{ℕ, ◌-◌, List, [], ◌∷◌, slice_index_or}
use Rattle.line21_codes.specs.declared.codes.Control.{Control}
use Rattle.line21_codes.specs.declared.codes.Control.TheVariants.{Tab, Skipped}

-- the codes of the second bytes 20 to 23
abbrev pub tab_offsets : List Control
tab_offsets = Skipped ∷ Tab 1 ∷ Tab 2 ∷ Tab 3 ∷ []

-- the code of the second byte; from 24 on they are skipped
abbrev pub tab_at : ℕ → Control
tab_at second = slice_index_or tab_offsets (second - 0x20) Skipped
