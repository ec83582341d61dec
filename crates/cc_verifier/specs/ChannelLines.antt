-- Between crates: the program's answer stands on none of these definitions.
-- What stands in a row of a channel, as the runs of a cue in a row of theirs.
use Rattle.std.specs.Prelude.{ℕ, List, slice_get, Option, Some, None}
use Rattle.line21_codes.specs.declared.styles.Cell.{Cell}
use Rattle.cue_lists.specs.AuthoredGrid.{cells_of_cue}
use Rattle.cc_verifier.specs.declared.channel_line.Line.{Line}
use Rattle.cue_types.specs.declared.cue.Cue.{Cue}

-- the cell at a column
abbrev pub line_cell : List Cue → Option Line → ℕ → Option Cell
line_cell cues None column = None
line_cell cues (Some line) column = cells_of_cue (slice_get cues line.cue) line.row column
