-- Roll-up captions that are written onto whatever a receiver shows: their lowest rows are the written cues' rows. After as many
-- cues as the window has rows they are all of them (CTA-608-E, roll-up captions; 47 CFR 79.101).
use Rattle.std.proofs.Common.{◌≡◌, ℕ, suc, ◌+◌, ◌-◌, ◌<◌, ◌≤◌, ◌==◌, ◌&&◌, max, nat_le, nat_lt, Bool, true, false, if◌then◌else◌, None, List, [], ◌∷◌, ◌++◌, All, length, refl, sym, ap, ◌∙◌, subst, arith}
use Rattle.std.specs.List.{flat_map}
use Rattle.std.proofs.Math.Path.{fun_ext}
use Rattle.std.proofs.lemmas.Bool.Decides.{nat_tests}
use Rattle.std.proofs.lemmas.List.Elements.{All-head}
use Rattle.line21_codes.specs.declared.channels.Chan.{Chan}
use Rattle.line21_codes.specs.declared.codes.Code.{Code}
use Rattle.line21_codes.specs.declared.codes.Control.TheVariants.{Cr, Preamble, Ru}
use Rattle.line21_codes.specs.declared.styles.Style.{Style}
use Rattle.cue_lists.specs.AuthoredGrid.{cell_in, chain_rows}
use Rattle.cue_lists.specs.Line21Cues.{IsLine21Run, IsRolled, base_row}
use Rattle.cue_lists.specs.Rules.Cells.{covers, have_shared_cell}
use Rattle.cue_lists.specs.declared.cue.Cue.{Cue}
use Rattle.cue_lists.specs.declared.cue.Kind.TheVariants.{Roll}
use Rattle.cue_lists.specs.declared.cue.Run.{Run}
use Rattle.line21_author.specs.CueCodes.{cue_codes, opening_codes}
use Rattle.line21_author.specs.FirstChannel.{first_channel}
use Rattle.line21_author.specs.RunCodes.{run_codes}
use Rattle.line21_screen.specs.declared.modes.Mode.{Mode}
use Rattle.line21_screen.specs.declared.modes.Mode.TheVariants.{Off, PaintOn, PopOn, RollUp}
use Rattle.line21_screen.specs.Channels.{ChannelState}
use Rattle.line21_screen.specs.Grid.{Grid, empty_grid}
use Rattle.line21_screen.specs.Pens.{PenState, pen_at_row}
use Rattle.line21_screen.specs.Windows.{IsWithin, in_window, moved, rolled}
use Rattle.line21_shown.specs.Doing.{does, does_all}
use Rattle.line21_shown.specs.Writing.{with_runs}
use Rattle.line21_shown.proofs.CanvasLemmas.{canvas, moved_still, pen_at, roll_up}
use Rattle.line21_shown.proofs.ChainLemmas.{chain_at, chain_rolls}
use Rattle.line21_shown.proofs.CueWritingLemmas.{laid, laid_runs}
use Rattle.line21_shown.proofs.RollWritingLemmas.{BeginsAt, IsRolling, roll_continued, run_begins}

-- the codes that begin a roll-up cue leave a window on some base row, whatever stood there, of which the base row is empty
abbrev opening : ℕ → List Code
opening rows = first_channel (Ru rows) ∷ first_channel Cr ∷ []

record IsTurned (rows : ℕ) (s : ChannelState) : Type 0 where
  hidden : Grid
  base : ℕ
  some : 1 ≤ base
  shown : Grid
  pen : PenState
  is : does_all (opening rows) s ≡ canvas (roll_up rows) hidden base (rolled shown rows base) pen

-- a channel of its parts
abbrev state : Grid → Grid → Mode → ℕ → Bool → PenState → ChannelState
state d h m b t p = record { displayed = d; hidden = h; mode = m; base = b; text = t; pen = p }

turned : (rows : ℕ) → 1 ≤ rows → (d h : Grid) (m : Mode) (b : ℕ) (t : Bool) (p : PenState) → IsTurned rows (state d h m b t p)
turned rows some d h (RollUp earlier) b t p = record {
  hidden = h;
  base = max b rows;
  some = omega arith;
  shown = moved d rows b (max b rows);
  pen = pen_at_row (max b rows);
  is = refl;
}
turned rows some d h Off b t p = record { hidden = empty_grid; base = 15; some = omega arith; shown = empty_grid; pen = pen_at_row 15; is = refl }
turned rows some d h PopOn b t p = record { hidden = empty_grid; base = 15; some = omega arith; shown = empty_grid; pen = pen_at_row 15; is = refl }
turned rows some d h PaintOn b t p = record { hidden = empty_grid; base = 15; some = omega arith; shown = empty_grid; pen = pen_at_row 15; is = refl }

-- the same in the window of its base row
opened : (h low : Grid) (b rows : ℕ) (p : PenState) → rows ≤ b → IsWithin low rows b
    → does_all (opening rows) (canvas (roll_up rows) h b low p) ≡ canvas (roll_up rows) h b (rolled low rows b) (pen_at_row b)
opened h low b rows p room within =
    let same : max b rows ≡ b = omega arith in
    rw same (ap (λ x. canvas (roll_up rows) h b (rolled x rows b) (pen_at_row b)) (moved_still low rows b within))

-- a window that moved has no cell outside of it, and none in its base row where it had none there
moved_within : (g : Grid) (rows old new : ℕ) → IsWithin (moved g rows old new) rows new
moved_within g rows old new r c outside = rw outside refl

moved_base : (g : Grid) (rows old new column : ℕ) → 1 ≤ rows → 1 ≤ old → 1 ≤ new → moved (rolled g rows old) rows old new new column ≡ None
moved_base g rows old new column some old_some new_some =
    let inside : in_window rows new new ≡ true = grind (arith, nat_tests) in
    let at : new + old - new ≡ old = omega arith in
    let out : in_window (rows - 1) (old - 1) old ≡ false = grind (arith, nat_tests) in
    rw (inside, at, out) refl

-- a memory whose rows roll up to a given one
abbrev lowered : Grid → ℕ → ℕ → Grid
lowered g rows base row column = if in_window rows base row then g (row - 1) column else None

lowered_within : (g : Grid) (rows base : ℕ) → IsWithin (lowered g rows base) rows base
lowered_within g rows base row column outside = rw outside refl

lowered_rolls : (g : Grid) (rows base : ℕ) → 1 ≤ rows → rows ≤ base → IsWithin g rows base → ((column : ℕ) → g base column ≡ None)
    → rolled (lowered g rows base) rows base ≡ g
lowered_rolls g rows base some room within empty = fun_ext (λ row. fun_ext (λ column. at row column (in_window (rows - 1) (base - 1) row) refl))
  where
    at : (row column : ℕ) (b : Bool) → in_window (rows - 1) (base - 1) row ≡ b → rolled (lowered g rows base) rows base row column ≡ g row column
    at row column true up =
        let next : row + base - (base - 1) ≡ row + 1 = omega arith in
        let inside : in_window rows base (row + 1) ≡ true = grind (arith, nat_tests) in
        let back : row + 1 - 1 ≡ row = omega arith in
        rw (up, next, inside, back) refl
    at row column false out = rw out (sym (none (row == base) refl))
      where
        none : (c : Bool) → (row == base) ≡ c → g row column ≡ None
        none true is = let here : row ≡ base = grind (arith, nat_tests) in ap (λ r. g r column) here ∙ empty column
        none false other = let outside : in_window rows base row ≡ false = grind (arith, nat_tests) in within row column outside

-- a preamble moves the window to its row, where it would stay
placed_at : (rows : ℕ) (o g : Grid) (old row col : ℕ) (style : Style) (p q : PenState) → rows ≤ row
    → does (first_channel (Preamble row col style)) (canvas (roll_up rows) o old g p)
    ≡ does (first_channel (Preamble row col style)) (canvas (roll_up rows) o row (moved g rows old row) q)
placed_at rows o g old row col style p q room =
    let same : max row rows ≡ row = omega arith in
    rw same (ap (λ x. canvas (roll_up rows) o row x (pen_at row col style)) (sym (moved_still (moved g rows old row) rows row (moved_within g rows old row))))

codes_placed : (row : ℕ) (codes more : List Code) → BeginsAt row codes → (rows : ℕ) (o g : Grid) (old : ℕ) (p q : PenState) → rows ≤ row
    → does_all (codes ++ more) (canvas (roll_up rows) o old g p) ≡ does_all (codes ++ more) (canvas (roll_up rows) o row (moved g rows old row) q)
codes_placed row codes more begins rows o g old p q room =
    let is : codes ++ more ≡ first_channel (Preamble row begins.col begins.style) ∷ (begins.rest ++ more) = ap (λ x. x ++ more) begins.is in
    ap (λ x. does_all x (canvas (roll_up rows) o old g p)) is
    ∙ ap (does_all (begins.rest ++ more)) (placed_at rows o g old row begins.col begins.style p q room)
    ∙ sym (ap (λ x. does_all x (canvas (roll_up rows) o row (moved g rows old row) q)) is)

runs_placed : (runs : List Run) → 1 ≤ length runs → All IsLine21Run runs → (rows : ℕ) (o g : Grid) (old : ℕ) (p q : PenState) → rows ≤ base_row runs
    → does_all (flat_map run_codes runs) (canvas (roll_up rows) o old g p)
    ≡ does_all (flat_map run_codes runs) (canvas (roll_up rows) o (base_row runs) (moved g rows old (base_row runs)) q)
runs_placed [] several formed rows o g old p q room = absurd (omega arith)
runs_placed (run ∷ runs) several formed rows o g old p q room =
    codes_placed run.row (run_codes run) (flat_map run_codes runs) (run_begins run.pen run (All-head IsLine21Run run runs formed).pen) rows o g old p q room

-- the base row of runs has room for the rows
has_room : (runs : List Run) (rows : ℕ) → 1 ≤ length runs → All (λ run. rows ≤ run.row) runs → rows ≤ base_row runs
has_room [] rows several room = absurd (omega arith)
has_room (run ∷ runs) rows several room = All-head (λ (x : Run). rows ≤ x.row) run runs room

-- so a roll-up cue, whatever stood there, leaves roll-up captions of its window, in which its runs are laid over rows that rolled up
roll_resumed : (channel : Chan) (rows : ℕ) (cue : Cue) (s : ChannelState) → cue.kind ≡ Roll channel rows → IsRolled rows cue.runs → All IsLine21Run cue.runs
    → 1 ≤ length cue.runs
    → (g : Grid) × IsRolling rows (base_row cue.runs) (with_runs cue.runs (rolled g rows (base_row cue.runs))) (does_all (cue_codes cue) s)
roll_resumed channel rows cue s kind is_rolled formed several =
    let base : ℕ = base_row cue.runs in
    let number = is_rolled.number in
    let some : 1 ≤ rows = omega arith in
    let room : rows ≤ base = has_room cue.runs rows several is_rolled.room in
    let w : IsTurned rows s = turned rows some s.displayed s.hidden s.mode s.base s.text s.pen in
    let placed : Grid = moved (rolled w.shown rows w.base) rows w.base base in
    let low : Grid = lowered placed rows base in
    let within : IsWithin low rows base = lowered_within placed rows base in
    let own : ChannelState = canvas (roll_up rows) w.hidden base low (pen_at_row base) in
    let rolls : rolled low rows base ≡ placed =
    lowered_rolls placed rows base some room (moved_within (rolled w.shown rows w.base) rows w.base base)
    (λ column. moved_base w.shown rows w.base base column some w.some (omega arith)) in
    let same : does_all (cue_codes cue) s ≡ does_all (cue_codes cue) own =
    ap (λ k. does_all (opening_codes k ++ flat_map run_codes cue.runs) s) kind
    ∙ ap (does_all (flat_map run_codes cue.runs)) w.is
    ∙ runs_placed cue.runs several formed rows w.hidden (rolled w.shown rows w.base) w.base w.pen (pen_at_row base) room
    ∙ ap (λ x. does_all (flat_map run_codes cue.runs) (canvas (roll_up rows) w.hidden base x (pen_at_row base))) (sym rolls)
    ∙ sym (ap (does_all (flat_map run_codes cue.runs)) (opened w.hidden low base rows (pen_at_row base) room within))
    ∙ sym (ap (λ k. does_all (opening_codes k ++ flat_map run_codes cue.runs) own) kind) in
    let rolling : IsRolling rows base low own = record { mode = refl; on_base = refl; captions = refl; displayed = refl; within = within } in
    (low, subst (IsRolling rows base (with_runs cue.runs (rolled low rows base))) (sym same) (roll_continued channel rows cue low own kind is_rolled formed several rolling))

-- the lowest this many rows of a memory are a chain's
abbrev AreLowest : ℕ → ℕ → ℕ → List Cue → Grid → Type 0
AreLowest count rows base chain g = (row column : ℕ) → row ≤ base → base < row + count → g row column ≡ chain_rows rows base chain row column

-- roll-up captions are under way, of which the lowest this many rows are a chain's
pub record HasRows (count rows base : ℕ) (chain : List Cue) (s : ChannelState) : Type 0 where
  pub shown : Grid
  pub rolling : IsRolling rows base shown s
  pub lowest : AreLowest count rows base chain shown

-- what runs leave at a place rests on what stood there
laid_same : (runs : List Run) (g h : Grid) (row column : ℕ) → g row column ≡ h row column → laid runs g row column ≡ laid runs h row column
laid_same [] g h row column same = same
laid_same (run ∷ runs) g h row column same =
    ap (λ cell. if covers run row column then cell_in run.pen run column else cell) (laid_same runs g h row column same)

-- one row more with each cue
rows_more : (count rows base : ℕ) (cue : Cue) (chain : List Cue) (g : Grid) → 1 ≤ rows → rows ≤ base → All (λ run. run.row ≡ base) cue.runs
    → have_shared_cell cue.runs ≡ false → AreLowest count rows base chain g → AreLowest (suc count) rows base (cue ∷ chain) (with_runs cue.runs (rolled g rows base))
rows_more count rows base cue chain g some room one_row apart lowest row column low below =
    laid_runs cue.runs (rolled g rows base) row column apart
    ∙ laid_same cue.runs (rolled g rows base) (rolled (chain_rows rows base chain) rows base) row column (same (in_window (rows - 1) (base - 1) row) refl)
    ∙ sym (laid_runs cue.runs (rolled (chain_rows rows base chain) rows base) row column apart)
    ∙ ap (λ (x : Grid). x row column) (chain_rolls rows base cue chain some room one_row apart)
  where
    same : (b : Bool) → in_window (rows - 1) (base - 1) row ≡ b → rolled g rows base row column ≡ rolled (chain_rows rows base chain) rows base row column
    same false test = rw test refl
    same true test =
        let up : row ≤ base - 1 = grind (arith, nat_tests) in
        rw test (lowest (row + base - (base - 1)) column (omega arith) (omega arith))

module _ (channel : Chan) (rows : ℕ) (cue : Cue) (chain : List Cue) (s : ChannelState) (kind : cue.kind ≡ Roll channel rows) (is_rolled : IsRolled rows cue.runs)
    (formed : All IsLine21Run cue.runs) (several : 1 ≤ length cue.runs) (apart : have_shared_cell cue.runs ≡ false) where
  some_rows : 1 ≤ rows
  some_rows = omega (arith, is_rolled.number.0)

  -- the first cue, whatever stood there
  pub rows_first : HasRows 1 rows (base_row cue.runs) (cue ∷ chain) (does_all (cue_codes cue) s)
  rows_first =
      let w = roll_resumed channel rows cue s kind is_rolled formed several in
      record {
        shown = with_runs cue.runs (rolled w.0 rows (base_row cue.runs));
        rolling = w.1;
        lowest = rows_more 0 rows (base_row cue.runs) cue chain w.0 some_rows (has_room cue.runs rows several is_rolled.room) is_rolled.one_row apart
            (λ row column low below. absurd (omega arith));
      }

  -- and the next
  pub rows_next : (count : ℕ) → HasRows count rows (base_row cue.runs) chain s → HasRows (suc count) rows (base_row cue.runs) (cue ∷ chain) (does_all (cue_codes cue) s)
  rows_next count has = record {
    shown = with_runs cue.runs (rolled has.shown rows (base_row cue.runs));
    rolling = roll_continued channel rows cue has.shown s kind is_rolled formed several has.rolling;
    lowest = rows_more count rows (base_row cue.runs) cue chain has.shown some_rows (has_room cue.runs rows several is_rolled.room) is_rolled.one_row apart has.lowest;
  }

-- as many rows as the window has are all
pub rows_whole : (count rows base : ℕ) (chain : List Cue) (s : ChannelState) → HasRows count rows base chain s → rows ≤ count
    → IsRolling rows base (chain_rows rows base chain) s
rows_whole count rows base chain s has enough =
    subst (λ (g : Grid). IsRolling rows base g s)
    (fun_ext (λ row. fun_ext (λ column. same row column (nat_le row base && nat_lt base (row + rows)) refl))) has.rolling
  where
    same : (row column : ℕ) (b : Bool) → (nat_le row base && nat_lt base (row + rows)) ≡ b → has.shown row column ≡ chain_rows rows base chain row column
    same row column true test =
        let low : row ≤ base = grind (arith, nat_tests) in
        let high : base < row + rows = grind (arith, nat_tests) in
        has.lowest row column low (omega arith)
    same row column false test =
        let out : in_window rows base row ≡ false = grind (arith, nat_tests) in
        ap (λ (g : Grid). g row column) (sym has.rolling.displayed) ∙ has.rolling.within row column out ∙ sym (chain_at rows base chain row column false test)
