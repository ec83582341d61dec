-- Between crates: the program's answer stands on none of these definitions.
-- A worked example: a cue of the first list, and one of the second whose text goes on after the first one's erasure.
use Rattle.std.specs.Prelude.{◌≡◌, List, [], ◌∷◌, ◌++◌, Some, None, drop}
use Rattle.line21_codes.specs.declared.channels.Chan.TheVariants.{Cc1}
use Rattle.line21_codes.specs.declared.styles.Colour.TheVariants.{White}
use Rattle.cue_lists.specs.Rules.Examples.{example_cue, example_run}
use Rattle.cue_lists.specs.declared.cue.Cue.{Cue}
use Rattle.cue_lists.specs.declared.cue.Kind.TheVariants.{Pop}
use Rattle.lanes.specs.Timeline.{column}
use Rattle.line21_shown.specs.Examples.{pair, twice}
use Rattle.dual_fields.specs.Seen.{field_timeline}

abbrev pub hi : List Cue
hi = example_cue (Pop Cc1) 0 7 (Some 20) (example_run White 15 0 (72 ∷ 73 ∷ []) ∷ []) ∷ []

abbrev pub ok : List Cue
ok = example_cue (Pop Cc1) 13 26 (Some 28) (example_run White 15 0 (79 ∷ 75 ∷ 33 ∷ []) ∷ []) ∷ []

-- the pairs of frames 13 to 29
abbrev pub RowTwo : Type 0
RowTwo =
    drop 13 (column (field_timeline Cc1 hi ok (0 ∷ 2 ∷ 4 ∷ 6 ∷ []) (13 ∷ 15 ∷ 17 ∷ 19 ∷ 24 ∷ []) (None ∷ None ∷ None ∷ None ∷ []) (None ∷ None ∷ None ∷ None ∷ Some 22 ∷ [])) 30)
    ≡ twice 0x1C 0x20 ++ twice 0x1C 0xAE ++ twice 0x1C 0x70 ++ pair 0x4F 0xCB ∷ twice 0x94 0x2C ++ twice 0x1C 0x20 ++ pair 0xA1 0x80 ∷ pair 0x80 0x80
    ∷ twice 0x1C 0x2F ++ twice 0x1C 0x2C
