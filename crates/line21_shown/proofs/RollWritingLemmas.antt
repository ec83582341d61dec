-- The codes of a roll-up cue: over an empty screen they begin its window, and in a window of their own base row they roll
-- it up and write the cells of the cue into the base row.
use Rattle.std.proofs.Common.{◌≡◌, ℕ, ◌-◌, ◌%◌, ◌≤◌, ◌==◌, max, Bool, true, false, if◌then◌else◌, Option, None, List, [], ◌∷◌, ◌++◌, All, length, refl, sym, ap, subst, ◌∙◌, arith}
use Rattle.std.specs.List.{flat_map}
use Rattle.std.proofs.Math.Path.{fun_ext}
use Rattle.std.proofs.lemmas.Bool.Decides.{nat_tests}
use Rattle.std.proofs.lemmas.List.Elements.{All-head, All-tail}
use Rattle.line21_codes.specs.declared.channels.Chan.{Chan}
use Rattle.line21_codes.specs.declared.codes.Code.{Code}
use Rattle.line21_codes.specs.declared.codes.Control.TheVariants.{Ru, Cr, MidRow, Preamble}
use Rattle.line21_codes.specs.declared.styles.Cell.{Cell}
use Rattle.line21_codes.specs.declared.styles.Style.{Style}
use Rattle.cue_lists.specs.declared.cue.Cue.{Cue}
use Rattle.cue_lists.specs.declared.cue.Kind.TheVariants.{Roll}
use Rattle.cue_lists.specs.declared.cue.Pen.{Pen}
use Rattle.cue_lists.specs.declared.cue.Pen.TheVariants.{Line21, Dtv}
use Rattle.cue_lists.specs.declared.cue.Run.{Run}
use Rattle.cue_lists.specs.Line21Cues.{IsLine21Pen, IsLine21Run, IsRolled, base_row}
use Rattle.frame_scheduler.specs.CueCodes.{opening_codes, cue_codes}
use Rattle.frame_scheduler.specs.FirstChannel.{first_channel}
use Rattle.frame_scheduler.specs.RunCodes.{is_upright_white, white, tab_codes, white_approach, mid_row_colour, codes_with, run_codes}
use Rattle.frame_scheduler.specs.TextCodes.{text_codes}
use Rattle.line21_screen.specs.declared.modes.Mode.{Mode}
use Rattle.line21_screen.specs.declared.modes.Mode.TheVariants.{Off, PopOn, PaintOn, RollUp}
use Rattle.line21_screen.specs.Channels.{ChannelState}
use Rattle.line21_screen.specs.Grid.{Grid, empty_grid}
use Rattle.line21_screen.specs.Pens.{PenState, pen_at_row}
use Rattle.line21_screen.specs.Windows.{in_window, moved, rolled, IsWithin}
use Rattle.line21_shown.specs.Doing.{does, does_all}
use Rattle.line21_shown.specs.Writing.{with_run, with_runs, pen_behind_all}
use Rattle.line21_shown.proofs.CanvasLemmas.{roll_up, canvas, pen_at, moved_still}
use Rattle.line21_shown.proofs.WritingLemmas.{run_within, runs_on}

-- roll-up captions of this many rows are under way, on a base row, and show this
pub record IsRolling (rows base : ℕ) (g : Grid) (s : ChannelState) : Type 0 where
  pub mode : s.mode ≡ RollUp rows
  pub on_base : s.base ≡ base
  pub captions : s.text ≡ false
  pub displayed : s.displayed ≡ g
  pub within : IsWithin s.displayed rows base

-- a window without cells moves to one without cells
no_choice : (b : Bool) (cell : Option Cell) → (if b then cell else cell) ≡ cell
no_choice true cell = refl
no_choice false cell = refl

moved_empty : (rows old new : ℕ) → moved empty_grid rows old new ≡ empty_grid
moved_empty rows old new = fun_ext (λ r. fun_ext (λ c. no_choice (in_window rows new r) None))

-- what rolled up stands within the window
rolled_test : (rows base r : ℕ) → in_window rows base r ≡ false → in_window (rows - 1) (base - 1) r ≡ false
rolled_test rows base r outside = grind (arith, nat_tests)

pub rolled_within : (g : Grid) (rows base : ℕ) → IsWithin (rolled g rows base) rows base
rolled_within g rows base r c outside = rw (rolled_test rows base r outside) refl

-- runs in the base row write no cell outside of the window
runs_within : (runs : List Run) (g : Grid) (rows base : ℕ) → 1 ≤ rows → All (λ run. run.row ≡ base) runs → All (λ run. rows ≤ run.row) runs
    → IsWithin g rows base → IsWithin (with_runs runs g) rows base
runs_within [] g rows base some one_row room within = within
runs_within (run ∷ runs) g rows base some one_row room within =
    let same : run.row ≡ base = All-head (λ x. x.row ≡ base) run runs one_row in
    let fits : rows ≤ run.row = All-head (λ x. rows ≤ x.row) run runs room in
    let here : IsWithin g rows run.row = subst (IsWithin g rows) (sym same) within in
    runs_within runs (with_run run g) rows base some (All-tail (λ x. x.row ≡ base) run runs one_row) (All-tail (λ x. rows ≤ x.row) run runs room)
    (subst (IsWithin (with_run run g) rows) same (run_within run g rows some fits here))

-- the codes of runs in a window
runs_roll : (runs : List Run) (rows base : ℕ) (o g : Grid) (p : PenState) → 1 ≤ rows → All (λ run. run.row ≡ base) runs
    → All (λ run. rows ≤ run.row) runs → All IsLine21Run runs → IsWithin g rows base
    → IsRolling rows base (with_runs runs g) (does_all (flat_map run_codes runs) (canvas (roll_up rows) o base g p))
runs_roll runs rows base o g p some one_row room formed within =
    let behind : does_all (flat_map run_codes runs) (canvas (roll_up rows) o base g p)
    ≡ canvas (roll_up rows) o base (with_runs runs g) (pen_behind_all runs p) =
    runs_on runs (roll_up rows) o base g p formed
    (λ j d below. record {
      on_base = sym (one_row j d below);
      some = some;
      room = room j d below;
      within = subst (IsWithin g rows) (sym (one_row j d below)) within;
    }) in
    subst (IsRolling rows base (with_runs runs g)) (sym behind)
    (record { mode = refl; on_base = refl; captions = refl; displayed = refl; within = runs_within runs g rows base some one_row room within })

-- a channel of its parts
abbrev state : Grid → Grid → Mode → ℕ → Bool → PenState → ChannelState
state d h m b t p = record { displayed = d; hidden = h; mode = m; base = b; text = t; pen = p }

-- the base row of runs has room for the rows
base_has_room : (runs : List Run) (rows : ℕ) → 1 ≤ length runs → All (λ run. rows ≤ run.row) runs → rows ≤ base_row runs
base_has_room [] rows several room = absurd (omega arith)
base_has_room (run ∷ runs) rows several room = All-head (λ x. rows ≤ x.row) run runs room

-- roll-up captions of the same window: the carriage return rolls it up
continued_at : (d h : Grid) (b : ℕ) (t : Bool) (p : PenState) (rows : ℕ) → rows ≤ b → IsWithin d rows b
    → does_all (first_channel (Ru rows) ∷ first_channel Cr ∷ []) (state d h (RollUp rows) b t p)
    ≡ canvas (roll_up rows) h b (rolled d rows b) (pen_at_row b)
continued_at d h b t p rows room within =
    let same : max b rows ≡ b = omega arith in
    rw same (ap (λ x. canvas (roll_up rows) h b (rolled x rows b) (pen_at_row b)) (moved_still d rows b within))

-- a roll-up cue in the window of the one before it: the rows roll up, and its cells stand in the base row
pub roll_continued : (channel : Chan) (rows : ℕ) (cue : Cue) (g : Grid) (s : ChannelState) → cue.kind ≡ Roll channel rows
    → IsRolled rows cue.runs → All IsLine21Run cue.runs → 1 ≤ length cue.runs → IsRolling rows (base_row cue.runs) g s
    → IsRolling rows (base_row cue.runs) (with_runs cue.runs (rolled g rows (base_row cue.runs))) (does_all (cue_codes cue) s)
roll_continued channel rows cue g s kind is_rolled formed several rolling =
    let b : ℕ = base_row cue.runs in
    let room : rows ≤ b = base_has_room cue.runs rows several is_rolled.room in
    let number = is_rolled.number in
    let some : 1 ≤ rows = omega arith in
    let opened : does_all (first_channel (Ru rows) ∷ first_channel Cr ∷ []) s ≡ canvas (roll_up rows) s.hidden b (rolled g rows b) (pen_at_row b) =
    ap (λ m. does_all (first_channel (Ru rows) ∷ first_channel Cr ∷ []) (record s { mode = m })) rolling.mode
    ∙ ap (λ n. does_all (first_channel (Ru rows) ∷ first_channel Cr ∷ []) (record s { mode = RollUp rows; base = n })) rolling.on_base
    ∙ continued_at s.displayed s.hidden b s.text s.pen rows room rolling.within
    ∙ ap (λ x. canvas (roll_up rows) s.hidden b (rolled x rows b) (pen_at_row b)) rolling.displayed in
    let behind : does_all (cue_codes cue) s ≡ does_all (flat_map run_codes cue.runs) (canvas (roll_up rows) s.hidden b (rolled g rows b) (pen_at_row b)) =
    ap (λ k. does_all (opening_codes k ++ flat_map run_codes cue.runs) s) kind
    ∙ ap (does_all (flat_map run_codes cue.runs)) opened in
    subst (IsRolling rows b (with_runs cue.runs (rolled g rows b))) (sym behind)
    (runs_roll cue.runs rows b s.hidden (rolled g rows b) (pen_at_row b) some is_rolled.one_row is_rolled.room formed (rolled_within g rows b))

-- a new window without cells, on some base row
pub record IsOpened (rows : ℕ) (s : ChannelState) : Type 0 where
  pub hidden : Grid
  pub base : ℕ
  pub pen : PenState
  pub is : s ≡ canvas (roll_up rows) hidden base empty_grid pen

-- a window at row 15 from another mode
new_window : (rows : ℕ) → IsOpened rows (canvas (roll_up rows) empty_grid 15 (rolled empty_grid rows 15) (pen_at_row 15))
new_window rows = record {
  hidden = empty_grid;
  base = 15;
  pen = pen_at_row 15;
  is = ap (λ x. canvas (roll_up rows) empty_grid 15 x (pen_at_row 15)) (moved_empty (rows - 1) 15 (15 - 1));
}

-- roll-up captions of another window, or another mode, over an empty screen
opened_at : (h : Grid) (m : Mode) (b : ℕ) (t : Bool) (p : PenState) (rows : ℕ)
    → IsOpened rows (does_all (first_channel (Ru rows) ∷ first_channel Cr ∷ []) (state empty_grid h m b t p))
opened_at h (RollUp earlier) b t p rows = record {
  hidden = h;
  base = max b rows;
  pen = pen_at_row (max b rows);
  is = ap (λ x. canvas (roll_up rows) h (max b rows) (rolled x rows (max b rows)) (pen_at_row (max b rows))) (moved_empty rows b (max b rows))
      ∙ ap (λ x. canvas (roll_up rows) h (max b rows) x (pen_at_row (max b rows))) (moved_empty (rows - 1) (max b rows) (max b rows - 1));
}
opened_at h Off b t p rows = new_window rows
opened_at h PopOn b t p rows = new_window rows
opened_at h PaintOn b t p rows = new_window rows

-- codes begin with a preamble of a row
pub record BeginsAt (row : ℕ) (codes : List Code) : Type 0 where
  pub col : ℕ
  pub style : Style
  pub rest : List Code
  pub is : codes ≡ first_channel (Preamble row col style) ∷ rest

-- the codes that lead to a place and style do, by whether the style is upright white and the column the first
approach_begins : (plain at_left : Bool) (row col : ℕ) (style : Style) (more : List Code)
    → BeginsAt row
    ((if plain then white_approach row col style.underline
    else if at_left then first_channel (Preamble row 0 style) ∷ []
    else white_approach row (col - 1) false ++ first_channel (MidRow (mid_row_colour style) style.underline) ∷ []) ++ more)
approach_begins true at_left row col style more = record {
  col = col - col % 4;
  style = white style.underline;
  rest = tab_codes (col % 4) ++ more;
  is = refl;
}
approach_begins false true row col style more = record { col = 0; style = style; rest = more; is = refl }
approach_begins false false row col style more = record {
  col = col - 1 - (col - 1) % 4;
  style = white false;
  rest = (tab_codes ((col - 1) % 4) ++ first_channel (MidRow (mid_row_colour style) style.underline) ∷ []) ++ more;
  is = refl;
}

-- so do the codes of a run
pub run_begins : (pen : Pen) (run : Run) → IsLine21Pen pen → BeginsAt run.row (codes_with pen run)
run_begins (Line21 style) run formed =
    approach_begins (is_upright_white style) (run.col == 0) run.row run.col style (text_codes run.text)
run_begins (Dtv italic underline) run formed = absurd formed

-- over an empty screen the preamble sets the base row, whichever it was before
rebased : (rows : ℕ) (o : Grid) (old new row col : ℕ) (style : Style) (p : PenState)
    → does (first_channel (Preamble row col style)) (canvas (roll_up rows) o old empty_grid p)
    ≡ does (first_channel (Preamble row col style)) (canvas (roll_up rows) o new empty_grid p)
rebased rows o old new row col style p =
    ap (λ x. canvas (roll_up rows) o (max row rows) x (pen_at (max row rows) col style))
    (moved_empty rows old (max row rows) ∙ sym (moved_empty rows new (max row rows)))

codes_rebased : (row : ℕ) (codes more : List Code) → BeginsAt row codes → (rows : ℕ) (o : Grid) (old new : ℕ) (p : PenState)
    → does_all (codes ++ more) (canvas (roll_up rows) o old empty_grid p) ≡ does_all (codes ++ more) (canvas (roll_up rows) o new empty_grid p)
codes_rebased row codes more begins rows o old new p =
    let is : codes ++ more ≡ first_channel (Preamble row begins.col begins.style) ∷ (begins.rest ++ more) = ap (λ x. x ++ more) begins.is in
    ap (λ x. does_all x (canvas (roll_up rows) o old empty_grid p)) is
    ∙ ap (does_all (begins.rest ++ more)) (rebased rows o old new row begins.col begins.style p)
    ∙ sym (ap (λ x. does_all x (canvas (roll_up rows) o new empty_grid p)) is)

runs_rebased : (runs : List Run) → 1 ≤ length runs → All IsLine21Run runs → (rows : ℕ) (o : Grid) (old : ℕ) (p : PenState)
    → does_all (flat_map run_codes runs) (canvas (roll_up rows) o old empty_grid p)
    ≡ does_all (flat_map run_codes runs) (canvas (roll_up rows) o (base_row runs) empty_grid p)
runs_rebased [] several formed rows o old p = absurd (omega arith)
runs_rebased (run ∷ runs) several formed rows o old p =
    codes_rebased run.row (run_codes run) (flat_map run_codes runs) (run_begins run.pen run (All-head IsLine21Run run runs formed).pen) rows o old run.row p

-- a roll-up cue over an empty screen, in any mode: its cells stand in its base row
pub roll_begun : (channel : Chan) (rows : ℕ) (cue : Cue) (s : ChannelState) → cue.kind ≡ Roll channel rows
    → IsRolled rows cue.runs → All IsLine21Run cue.runs → 1 ≤ length cue.runs → s.displayed ≡ empty_grid
    → IsRolling rows (base_row cue.runs) (with_runs cue.runs empty_grid) (does_all (cue_codes cue) s)
roll_begun channel rows cue s kind is_rolled formed several is_empty =
    let b : ℕ = base_row cue.runs in
    let number = is_rolled.number in
    let some : 1 ≤ rows = omega arith in
    let opening : List Code = first_channel (Ru rows) ∷ first_channel Cr ∷ [] in
    let opened : IsOpened rows (does_all opening s) =
    subst (λ d. IsOpened rows (does_all opening (record s { displayed = d }))) (sym is_empty) (opened_at s.hidden s.mode s.base s.text s.pen rows) in
    let behind : does_all (cue_codes cue) s ≡ does_all (flat_map run_codes cue.runs) (canvas (roll_up rows) opened.hidden b empty_grid opened.pen) =
    ap (λ k. does_all (opening_codes k ++ flat_map run_codes cue.runs) s) kind
    ∙ ap (does_all (flat_map run_codes cue.runs)) opened.is
    ∙ runs_rebased cue.runs several formed rows opened.hidden opened.base opened.pen in
    subst (IsRolling rows b (with_runs cue.runs empty_grid)) (sym behind)
    (runs_roll cue.runs rows b opened.hidden empty_grid opened.pen some is_rolled.one_row is_rolled.room formed (λ r c outside. refl))
