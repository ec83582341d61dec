-- Between crates: the program's answer stands on none of these definitions.
-- The authored grid of a channel, sentence by sentence: what a cue list that is in form and keeps the rules is to show, cue
-- by cue, wherever the cue stands in the list (CTA-608-E; 47 CFR 79.101, pop-on, paint-on and roll-up captions).
use Rattle.std.specs.Prelude.{◌≡◌, ℕ, ◌-◌, ◌<◌, ◌≤◌, true, false, List, ◌∷◌, ◌++◌, reverse, slice_get, All, IfSome, Some, None}
use Rattle.std.specs.List.{Contains}
use Rattle.line21_codes.specs.declared.channels.Chan.{Chan}
use Rattle.cue_lists.specs.AuthoredGrid.{Picture, authored_grid, cell_in, cells_of, chain_of}
use Rattle.cue_lists.specs.Channels.{cues_on}
use Rattle.cue_lists.specs.Line21Cues.{base_row}
use Rattle.cue_lists.specs.Listing.{IsFormed, Listing}
use Rattle.cue_lists.specs.Rules.{IsRuled}
use Rattle.cue_lists.specs.Rules.Cells.{covers}
use Rattle.cue_lists.specs.Rules.Lane.{is_roll}
use Rattle.cue_lists.specs.declared.cue.Cue.{Cue}
use Rattle.cue_lists.specs.declared.cue.Kind.TheVariants.{Roll}
use Rattle.cue_lists.specs.declared.cue.Run.{Run}

-- the cue's SHOW has come by the frame, and its HIDE, if it has one, hasn't
abbrev pub IsUp : ℕ → Cue → Type 0
IsUp frame cue = (cue.show ≤ frame) × IfSome cue.hide (λ hide. frame < hide)

-- a picture has the cells of runs and no others
pub record HasCells (runs : List Run) (picture : Picture) : Type 0 where
  pub each : (run : Run) (row column : ℕ) → Contains runs run → covers run row column ≡ true → picture row column ≡ cell_in run.pen run column
  pub none : (row column : ℕ) → All (λ run. covers run row column ≡ false) runs → picture row column ≡ None

-- a picture has the rows of a chain and no others: the cells of the cue j places before its last one stand j rows above the
-- base row, for each j below the number of rows
pub record HasRows (rows base : ℕ) (chain : List Cue) (picture : Picture) : Type 0 where
  pub each : (j : ℕ) (cue : Cue) (column : ℕ) → j < rows → slice_get chain j ≡ Some cue
      → picture (base - j) column ≡ cells_of cue.runs base column
  pub none : (row column : ℕ) → ((j : ℕ) (cue : Cue) → j < rows → slice_get chain j ≡ Some cue → row ≡ base - j → ⊥)
      → picture row column ≡ None

-- what a channel is to show at a frame
pub record IsAuthored (channel : Chan) (cues : List Cue) (frame : ℕ) (picture : Picture) : Type 0 where
  -- a pop-on or paint-on cue that is up: the cells of its runs
  pub captioned : (cue : Cue) → Contains (cues_on channel cues) cue → is_roll cue.kind ≡ false → IsUp frame cue
      → HasCells cue.runs picture
  -- a chain of roll-up cues, of which this is the last one that is shown yet: its rows
  pub rolled : (earlier later : List Cue) (cue : Cue) (own : Chan) (rows : ℕ) → cues_on channel cues ≡ reverse earlier ++ cue ∷ later
      → cue.kind ≡ Roll own rows → IsUp frame cue → All (λ next. frame < next.show) later
      → HasRows rows (base_row cue.runs) (chain_of cue earlier) picture
  -- no cue that is up: no cell
  pub nothing : ((cue : Cue) → Contains (cues_on channel cues) cue → IsUp frame cue → ⊥) → (row column : ℕ) → picture row column ≡ None

-- the authored grid says just this
abbrev pub AuthoredGridIsSaid : Type 0
AuthoredGridIsSaid = (list : Listing) → IsFormed list → IsRuled list → (channel : Chan) (frame : ℕ)
    → IsAuthored channel list.cues frame (authored_grid channel list.cues frame)
