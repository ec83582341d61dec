-- Believed: the program's answer stands on these definitions.
-- What a line 21 channel is to show at a frame, by the LOAD, SHOW and HIDE of its cues and the rows and columns of their
-- runs alone (caption area, pop-on, paint-on and roll-up captions: CTA-608-E; 47 CFR 79.101). No byte and no receiver
-- stands in it.
use Rattle.std.specs.Prelude.{◌≡◌, ℕ, ◌+◌, ◌-◌, ◌≤◌, ◌&&◌, nat_le, nat_lt, false, if◌then◌else◌, List, [], ◌∷◌, reverse, slice_get, slice_index_or, All, Option, Some, None}
use Rattle.line21_codes.specs.declared.channels.Chan.{Chan}
use Rattle.line21_codes.specs.declared.styles.Cell.{Cell}
use Rattle.cue_types.specs.Channels.{cues_on}
use Rattle.cue_types.specs.Hide.{hide_is}
use Rattle.cue_types.specs.declared.cue.Cue.{Cue}
use Rattle.cue_types.specs.declared.cue.Kind.{Kind}
use Rattle.cue_types.specs.declared.cue.Kind.TheVariants as kind
use Rattle.cue_types.specs.declared.cue.Pen.{Pen}
use Rattle.cue_types.specs.declared.cue.Pen.TheVariants as pen
use Rattle.cue_types.specs.declared.cue.Run.{Run}
use Rattle.cue_types.specs.Line21Cues.{base_row, continues}
use Rattle.cue_types.specs.Cells.{covers}
use Rattle.cue_types.specs.Lane.{is_pop}

-- the cell at each row, 1 to 15, and column, 0 to 31, where there is one
abbrev pub Picture : Type 0
Picture = ℕ → ℕ → Option Cell

-- no cell at all
abbrev pub blank : Picture
blank row column = None

-- the character of a run at a column: its text begins at its COL, and a space stands at its lead cell
abbrev pub character_at : Run → ℕ → ℕ
character_at run column = if nat_lt column run.col then 0x20 else slice_index_or run.text (column - run.col) 0x20

-- the cell of a run at a column, in a pen: the pens of caption windows show nothing in line 21
abbrev pub cell_in : Pen → Run → ℕ → Option Cell
cell_in (pen.Line21 style) run column = Some (record { ch = character_at run column; style = style })
cell_in (pen.Dtv italic underline) run column = None

-- the cells of runs: at a place, the cell of the run that covers it
abbrev pub cells_of : List Run → Picture
cells_of [] row column = None
cells_of (run ∷ runs) row column = if covers run row column then cell_in run.pen run column else cells_of runs row column

-- the cells of a cue, where there is one
abbrev pub cells_of_cue : Option Cue → Picture
cells_of_cue None = blank
cells_of_cue (Some cue) = cells_of cue.runs

-- the chain of roll-up cues that ends with a cue: the cue itself, the one that it continues, and so on. The cues before
-- it stand newest first
abbrev pub chain_of : Cue → List Cue → List Cue
chain_of cue [] = cue ∷ []
chain_of cue (former ∷ earlier) = cue ∷ (if continues cue former then chain_of former earlier else [])

-- roll-up captions of this many rows: the cells of the cue j places before the last one of the chain, if there is one,
-- stand j rows above the base row, for each j below that number
abbrev pub chain_rows : ℕ → ℕ → List Cue → Picture
chain_rows rows base chain row column =
    if nat_le row base && nat_lt base (row + rows) then cells_of_cue (slice_get chain (base - row)) base column else None

-- what a cue shows from its SHOW on: a pop-on or paint-on cue its own cells, and a roll-up cue the rows of its chain
abbrev pub shown_from : Kind → Cue → List Cue → Picture
shown_from (kind.Pop channel) cue earlier = cells_of cue.runs
shown_from (kind.Paint channel) cue earlier = cells_of cue.runs
shown_from (kind.Roll channel rows) cue earlier = chain_rows rows (base_row cue.runs) (chain_of cue earlier)
shown_from (kind.Win window) cue earlier = blank

-- what the newest of the cues shows at a frame, until its HIDE
abbrev pub shown_of_newest : ℕ → List Cue → Picture
shown_of_newest frame [] = blank
shown_of_newest frame (cue ∷ earlier) = if hide_is cue.hide (λ hide. nat_le hide frame) then blank else shown_from cue.kind cue earlier

-- the cues whose SHOW has come, where the cues stand newest first
abbrev pub shown_by : ℕ → List Cue → List Cue
shown_by frame [] = []
shown_by frame (cue ∷ earlier) = if nat_le cue.show frame then cue ∷ earlier else shown_by frame earlier

-- what the channel is to show at a frame: what the last of its cues whose SHOW has come shows, until its HIDE
abbrev pub authored_grid : Chan → List Cue → ℕ → Picture
authored_grid channel cues frame = shown_of_newest frame (shown_by frame (reverse (cues_on channel cues)))

-- the frame isn't one in which the cue is being written onto the screen: a paint-on or roll-up cue is, from its LOAD up
-- to its SHOW
abbrev pub IsSettledFor : ℕ → Cue → Type 0
IsSettledFor frame cue = is_pop cue.kind ≡ false → cue.load ≤ frame → cue.show ≤ frame

-- the frame is settled for the channel
abbrev pub IsSettled : Chan → List Cue → ℕ → Type 0
IsSettled channel cues frame = All (IsSettledFor frame) (cues_on channel cues)
