-- The codes of a pop-on or paint-on cue write exactly its cells; runs that share no cell write each its own.
use Rattle.std.proofs.Common.{◌≡◌, ℕ, Bool, true, false, if◌then◌else◌, ◌||◌, Option, List, [], ◌∷◌, ◌++◌, All, refl, ap, ◌∙◌, arith}
use Rattle.std.specs.List.{flat_map, list_any}
use Rattle.std.proofs.Math.Path.{fun_ext}
use Rattle.std.proofs.lemmas.Bool.Decides.{nat_tests}
use Rattle.line21_codes.specs.declared.channels.Chan.{Chan}
use Rattle.line21_codes.specs.declared.styles.Cell.{Cell}
use Rattle.cue_lists.specs.declared.cue.Cue.{Cue}
use Rattle.cue_lists.specs.declared.cue.Kind.TheVariants.{Pop, Paint}
use Rattle.cue_lists.specs.declared.cue.Run.{Run}
use Rattle.cue_lists.specs.AuthoredGrid.{cell_in, cells_of}
use Rattle.cue_lists.specs.Line21Cues.{IsLine21Run}
use Rattle.cue_lists.specs.Rules.Cells.{covers, share_cell, have_shared_cell}
use Rattle.frame_scheduler.specs.CueCodes.{opening_codes, cue_codes}
use Rattle.frame_scheduler.specs.RunCodes.{run_codes}
use Rattle.line21_screen.specs.Channels.{ChannelState}
use Rattle.line21_screen.specs.Grid.{Grid, empty_grid}
use Rattle.line21_shown.specs.Doing.{does_all}
use Rattle.line21_shown.specs.Writing.{with_run, with_runs, pen_behind_all}
use Rattle.line21_shown.proofs.CanvasLemmas.{pop_on, paint_on, canvas}
use Rattle.line21_shown.proofs.WritingLemmas.{runs_on}

-- the codes of a pop-on cue write its runs into the hidden memory, which they erase first
pub pop_does : (channel : Chan) (cue : Cue) (s : ChannelState) → cue.kind ≡ Pop channel → All IsLine21Run cue.runs
    → does_all (cue_codes cue) s ≡ canvas pop_on s.displayed s.base (with_runs cue.runs empty_grid) (pen_behind_all cue.runs s.pen)
pop_does channel cue s kind formed =
    ap (λ k. does_all (opening_codes k ++ flat_map run_codes cue.runs) s) kind
    ∙ runs_on cue.runs pop_on s.displayed s.base empty_grid s.pen formed (λ j d below. tt)

pub pop_written : (channel : Chan) (cue : Cue) (s : ChannelState) → cue.kind ≡ Pop channel → All IsLine21Run cue.runs
    → (does_all (cue_codes cue) s).hidden ≡ with_runs cue.runs empty_grid
pop_written channel cue s kind formed = ap (λ x. x.hidden) (pop_does channel cue s kind formed)

-- the codes of a paint-on cue write its runs into the displayed memory, over what stood there
pub paint_does : (channel : Chan) (cue : Cue) (s : ChannelState) → cue.kind ≡ Paint channel → All IsLine21Run cue.runs
    → does_all (cue_codes cue) s ≡ canvas paint_on s.hidden s.base (with_runs cue.runs s.displayed) (pen_behind_all cue.runs s.pen)
paint_does channel cue s kind formed =
    ap (λ k. does_all (opening_codes k ++ flat_map run_codes cue.runs) s) kind
    ∙ runs_on cue.runs paint_on s.hidden s.base s.displayed s.pen formed (λ j d below. tt)

pub paint_written : (channel : Chan) (cue : Cue) (s : ChannelState) → cue.kind ≡ Paint channel → All IsLine21Run cue.runs
    → (does_all (cue_codes cue) s).displayed ≡ with_runs cue.runs s.displayed
paint_written channel cue s kind formed = ap (λ x. x.displayed) (paint_does channel cue s kind formed)

-- a memory with the cells of runs, of which the first one that covers a place shows there
abbrev pub laid : List Run → Grid → Grid
laid [] g row column = g row column
laid (run ∷ runs) g row column = if covers run row column then cell_in run.pen run column else laid runs g row column

-- neither of two tests passes where not one of them does
both_fail : (a b : Bool) → (a || b) ≡ false → (a ≡ false) × (b ≡ false)
both_fail true b none = cc
both_fail false b none = (refl, none)

-- of two choices that don't both pass either may come first
swapped : (a b : Bool) (x y z : Option Cell) → (a ≡ true → b ≡ true → ⊥)
    → (if a then x else (if b then y else z)) ≡ (if b then y else (if a then x else z))
swapped true true x y z apart = absurd (apart refl refl)
swapped true false x y z apart = refl
swapped false b x y z apart = refl

-- two runs that share no cell have no cell that both write
pub apart_in_cells : (a b : Run) (row column : ℕ) → share_cell a b ≡ false → covers a row column ≡ true
    → covers b row column ≡ true → ⊥
apart_in_cells a b row column apart in_a in_b = grind (arith, nat_tests)

-- below runs that share no cell with it, a run shows where it stands
laid_first : (run : Run) (runs : List Run) (g : Grid) (row column : ℕ) → list_any (share_cell run) runs ≡ false
    → laid runs (with_run run g) row column ≡ laid (run ∷ runs) g row column
laid_first run [] g row column apart = refl
laid_first run (other ∷ runs) g row column apart =
    let both = both_fail (share_cell run other) (list_any (share_cell run) runs) apart in
    ap (λ x. if covers other row column then cell_in other.pen other column else x) (laid_first run runs g row column both.1)
    ∙ swapped (covers other row column) (covers run row column) (cell_in other.pen other column) (cell_in run.pen run column) (laid runs g row column)
    (λ in_other in_run. apart_in_cells run other row column both.0 in_run in_other)

-- so runs that share no cell may be written in any order
pub laid_runs : (runs : List Run) (g : Grid) (row column : ℕ) → have_shared_cell runs ≡ false → with_runs runs g row column ≡ laid runs g row column
laid_runs [] g row column apart = refl
laid_runs (run ∷ runs) g row column apart =
    let both = both_fail (list_any (share_cell run) runs) (have_shared_cell runs) apart in
    laid_runs runs (with_run run g) row column both.1 ∙ laid_first run runs g row column both.0

-- over no cell they are the cells of the runs
laid_alone : (runs : List Run) (row column : ℕ) → laid runs empty_grid row column ≡ cells_of runs row column
laid_alone [] row column = refl
laid_alone (run ∷ runs) row column = ap (λ x. if covers run row column then cell_in run.pen run column else x) (laid_alone runs row column)

-- runs that share no cell write exactly their cells into an empty memory
pub runs_are_cells : (runs : List Run) → have_shared_cell runs ≡ false → with_runs runs empty_grid ≡ cells_of runs
runs_are_cells runs apart =
    fun_ext (λ row. fun_ext (λ column. laid_runs runs empty_grid row column apart ∙ laid_alone runs row column))
