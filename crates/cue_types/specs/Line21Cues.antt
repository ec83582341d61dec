-- Believed: the program's answer stands on these definitions.
-- Line 21 cues: their channels, their pens and their runs on 15 rows of 32 columns (CTA-608-E; 47 CFR 79.101).
use Rattle.std.specs.Prelude.{◌≡◌, ℕ, ◌+◌, ◌≤◌, ◌==◌, ◌&&◌, Bool, true, false, is_none, None, List, [], ◌∷◌, length, All, IsSome}
use Rattle.line21_codes.specs.declared.channels.Chan.{Chan}
use Rattle.line21_codes.specs.declared.channels.Chan.TheVariants as chan
use Rattle.line21_codes.specs.declared.styles.Colour.TheVariants as colour
use Rattle.line21_codes.specs.Spellings.{spelling_of}
use Rattle.cue_types.specs.declared.cue.Cue.{Cue}
use Rattle.cue_types.specs.declared.cue.Kind.{Kind}
use Rattle.cue_types.specs.declared.cue.Kind.TheVariants as kind
use Rattle.cue_types.specs.declared.cue.Pen.{Pen}
use Rattle.cue_types.specs.declared.cue.Pen.TheVariants as pen
use Rattle.cue_types.specs.declared.cue.Run.{Run}

-- the channels that cues are authored on, one a field
abbrev pub IsAuthoredChannel : Chan → Type 0
IsAuthoredChannel chan.Cc1 = Unit {0}
IsAuthoredChannel chan.Cc3 = Unit {0}
IsAuthoredChannel _ = ⊥

-- a line 21 pen: italics are white
abbrev pub IsLine21Pen : Pen → Type 0
IsLine21Pen (pen.Line21 style) = style.italic ≡ true → style.colour ≡ colour.White
IsLine21Pen (pen.Dtv _ _) = ⊥

-- a run on the 15 rows of 32 columns of line 21, each of whose characters has a code
pub record IsLine21Run (run : Run) : Type 0 where
  pub row : (1 ≤ run.row) × (run.row ≤ 15)
  pub col : run.col ≤ 31
  pub pen : IsLine21Pen run.pen
  pub some : 1 ≤ length run.text
  pub fits : run.col + length run.text ≤ 32
  pub coded : All (λ ch. IsSome (spelling_of ch)) run.text
  pub colors : run.colors ≡ None

-- the row of the first run, which is the base row of a roll-up cue
abbrev pub base_row : List Run → ℕ
base_row [] = 0
base_row (run ∷ _) = run.row

-- the runs of a roll-up cue of this many rows: all on one base row, which has room for its rows
pub record IsRolled (rows : ℕ) (runs : List Run) : Type 0 where
  pub number : (2 ≤ rows) × (rows ≤ 4)
  pub one_row : All (λ run. run.row ≡ base_row runs) runs
  pub room : All (λ run. rows ≤ run.row) runs

-- two roll-up kinds with the same number of rows
abbrev pub same_roll : Kind → Kind → Bool
same_roll (kind.Pop c) b = false
same_roll (kind.Paint c) b = false
same_roll (kind.Win w) b = false
same_roll (kind.Roll c n) (kind.Pop d) = false
same_roll (kind.Roll c n) (kind.Paint d) = false
same_roll (kind.Roll c n) (kind.Win w) = false
same_roll (kind.Roll c n) (kind.Roll d m) = n == m

-- a roll-up cue continues the former cue, where that is one without a HIDE, with as many rows and the same base row
abbrev pub continues : Cue → Cue → Bool
continues cue former =
    same_roll cue.kind former.kind && is_none former.hide && (base_row cue.runs == base_row former.runs)
