-- Between crates: the program's answer stands on none of these definitions.
-- Colours of a run's own, which are said after it.
use Rattle.std.specs.Prelude.{List, [], ◌∷◌, Some}
use Rattle.dtvcc_codes.specs.declared.pens.PenColors.{PenColors}
use Rattle.cue_types.specs.declared.cue.Run.{Run}

-- the runs with colours of the last one's own
abbrev pub coloured : PenColors → List Run → List Run
coloured colours [] = []
coloured colours (run ∷ []) = record run { colors = Some colours } ∷ []
coloured colours (run ∷ (next ∷ runs)) = run ∷ coloured colours (next ∷ runs)
