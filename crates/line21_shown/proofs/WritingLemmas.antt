-- The codes of runs write exactly the cells of the runs, in each of the modes.
use Rattle.std.proofs.Common.{◌≡◌, ℕ, ◌≤◌, ◌==◌, Bool, true, false, List, [], ◌∷◌, All, get_or, refl, sym, ap, subst, ◌∙◌, arith}
use Rattle.std.specs.List.{flat_map}
use Rattle.std.proofs.lemmas.Bool.Decides.{nat_tests}
use Rattle.std.proofs.lemmas.List.Elements.{All-head, All-tail}
use Rattle.cue_lists.specs.declared.cue.Run.{Run}
use Rattle.cue_lists.specs.Line21Cues.{IsLine21Run}
use Rattle.cue_lists.specs.Rules.Cells.{covers}
use Rattle.frame_scheduler.specs.RunCodes.{run_codes}
use Rattle.line21_screen.specs.declared.modes.Mode.{Mode}
use Rattle.line21_screen.specs.declared.modes.Mode.TheVariants.{Off, PopOn, PaintOn, RollUp}
use Rattle.line21_screen.specs.Channels.{ChannelState}
use Rattle.line21_screen.specs.Editing.{edited, with_pen}
use Rattle.line21_screen.specs.Grid.{Grid}
use Rattle.line21_screen.specs.Pens.{PenState}
use Rattle.line21_screen.specs.Windows.{in_window, IsWithin}
use Rattle.line21_shown.specs.Doing.{does_all}
use Rattle.line21_shown.specs.Writing.{with_run, with_runs, pen_behind, pen_behind_all, TakesRow, IsOpen, RunsAreWritten}
use Rattle.line21_shown.proofs.CanvasLemmas.{Captions, pop_on, paint_on, roll_up, canvas, IsHeld}
use Rattle.line21_shown.proofs.TextWritingLemmas.{does_all-append}
use Rattle.line21_shown.proofs.RunWritingLemmas.{run_on}

-- a run in the base row writes no cell outside of the window
uncovered : (run : Run) (rows r c : ℕ) → 1 ≤ rows → rows ≤ run.row → in_window rows run.row r ≡ false → covers run r c ≡ false
uncovered run rows r c some room outside = let other : (r == run.row) ≡ false = grind (arith, nat_tests) in rw other refl

pub run_within : (run : Run) (g : Grid) (rows : ℕ) → 1 ≤ rows → rows ≤ run.row → IsWithin g rows run.row → IsWithin (with_run run g) rows run.row
run_within run g rows some room within r c outside = rw (uncovered run rows r c some room outside) (within r c outside)

-- after a run a row is held as before
held_behind : (k : Captions) (b : ℕ) (run : Run) (g : Grid) (row : ℕ) → IsHeld k b g run.row → IsHeld k b g row → IsHeld k b (with_run run g) row
held_behind pop_on b run g row held too = tt
held_behind paint_on b run g row held too = tt
held_behind (roll_up rows) b run g row held too =
    let same : run.row ≡ row = sym (held.on_base) ∙ too.on_base in
    record {
      on_base = too.on_base;
      some = too.some;
      room = too.room;
      within = subst (IsWithin (with_run run g) rows) same (run_within run g rows held.some held.room held.within);
    }

-- the codes of runs, where their rows are held
pub runs_on : (runs : List Run) (k : Captions) (o : Grid) (b : ℕ) (g : Grid) (p : PenState)
    → All IsLine21Run runs → All (λ run. IsHeld k b g run.row) runs
    → does_all (flat_map run_codes runs) (canvas k o b g p) ≡ canvas k o b (with_runs runs g) (pen_behind_all runs p)
runs_on [] k o b g p formed held = refl
runs_on (run ∷ runs) k o b g p formed held =
    let here = All-head (λ x. IsHeld k b g x.row) run runs held in
    let rest = All-tail (λ x. IsHeld k b g x.row) run runs held in
    does_all-append (run_codes run) (flat_map run_codes runs) (canvas k o b g p)
    ∙ ap (does_all (flat_map run_codes runs)) (run_on run k o b g p (All-head IsLine21Run run runs formed) here)
    ∙ runs_on runs k o b (with_run run g) (pen_behind run.pen run p) (All-tail IsLine21Run run runs formed)
    (λ j d below. held_behind k b run g (get_or runs j d).row here (rest j d below))

-- a channel of its parts
abbrev state : Grid → Grid → Mode → ℕ → Bool → PenState → ChannelState
state d h m b t p = record { displayed = d; hidden = h; mode = m; base = b; text = t; pen = p }

-- no run changes nothing
none_written : (d h : Grid) (m : Mode) (b : ℕ) (t : Bool) (p : PenState)
    → state d h m b t p ≡ with_pen (pen_behind_all [] p) (edited (with_runs []) (state d h m b t p))
none_written d h Off b t p = refl
none_written d h PopOn b t p = refl
none_written d h PaintOn b t p = refl
none_written d h (RollUp rows) b t p = refl

-- some runs, by the mode
some_written : (run : Run) (runs : List Run) (d h : Grid) (m : Mode) (b : ℕ) (t : Bool) (p : PenState)
    → t ≡ false → TakesRow m run.row (state d h m b t p)
    → All IsLine21Run (run ∷ runs) → All (λ x. IsOpen x.row (state d h m b t p)) (run ∷ runs)
    → does_all (flat_map run_codes (run ∷ runs)) (state d h m b t p)
    ≡ with_pen (pen_behind_all (run ∷ runs) p) (edited (with_runs (run ∷ runs)) (state d h m b t p))
some_written run runs d h m b true p captions takes formed ready = cc
some_written run runs d h Off b false p captions takes formed ready = absurd takes
some_written run runs d h PopOn b false p captions takes formed ready =
    runs_on (run ∷ runs) pop_on d b h p formed (λ j x below. tt)
some_written run runs d h PaintOn b false p captions takes formed ready =
    runs_on (run ∷ runs) paint_on h b d p formed (λ j x below. tt)
some_written run runs d h (RollUp rows) b false p captions takes formed ready =
    runs_on (run ∷ runs) (roll_up rows) h b d p formed
    (λ j x below.
    let mode = (ready j x below).mode in
    record { on_base = mode.0; some = mode.1; room = mode.2; within = mode.3 })

-- the codes of runs write exactly the cells of the runs
pub runs_written : RunsAreWritten
runs_written [] s formed ready = none_written s.displayed s.hidden s.mode s.base s.text s.pen
runs_written (run ∷ runs) s formed ready =
    let first = All-head (λ x. IsOpen x.row s) run runs ready in
    some_written run runs s.displayed s.hidden s.mode s.base s.text s.pen first.captions first.mode formed ready
