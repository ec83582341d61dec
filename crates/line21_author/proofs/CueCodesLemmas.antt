use Rattle.std.proofs.Common.{ℕ, List, [], ◌∷◌}
use Rattle.std.specs.Prelude.{Option, All}
use Rattle.std.specs.List.{flat_map}
use Rattle.std.proofs.lemmas.List.Elements.{All-from_recursion, All-head, All-tail}
use Rattle.line21_codes.specs.Writable.{IsWritable}
use Rattle.cue_lists.specs.declared.cue.Kind.{Kind}
use Rattle.cue_lists.specs.declared.cue.Kind.TheVariants.{Pop, Paint, Roll, Win}
use Rattle.cue_lists.specs.declared.cue.Run.{Run}
use Rattle.cue_lists.specs.declared.cue.Cue.{Cue}
use Rattle.cue_lists.specs.Cues.{IsOfKind, IsCueFormed}
use Rattle.cue_lists.specs.Line21Cues.{IsLine21Run}
use Rattle.cue_lists.specs.Windows.{IsWindowRun}
use Rattle.line21_author.specs.RunCodes.{run_codes}
use Rattle.line21_author.specs.CueCodes.{opening_codes, cue_codes}
use Rattle.line21_author.proofs.TextCodesLemmas.{AreWritable, AreWritable-append}
use Rattle.line21_author.proofs.RunCodesLemmas.{run_codes_writable, window_run_writable}

-- the codes of runs can be written, where each run's can
runs_writable : (P : Run → Type 0) → ((run : Run) → P run → AreWritable (run_codes run))
    → (runs : List Run) → All P runs → AreWritable (flat_map run_codes runs)
runs_writable P each [] all = tt
runs_writable P each (run ∷ runs) all =
    AreWritable-append (run_codes run) (flat_map run_codes runs) (each run (All-head P run runs all)) (runs_writable P each runs (All-tail P run runs all))

-- the codes of a cue of a kind can be written
kind_writable : (kind : Kind) (hide : Option ℕ) (runs : List Run) → IsOfKind kind hide runs
    → AreWritable (opening_codes kind) × AreWritable (flat_map run_codes runs)
kind_writable (Pop channel) hide runs formed = (
  (tt, (tt, tt)),
  runs_writable IsLine21Run run_codes_writable runs formed.2,
)
kind_writable (Paint channel) hide runs formed =
    ((tt, tt), runs_writable IsLine21Run run_codes_writable runs formed.2)
kind_writable (Roll channel rows) hide runs formed = (
  (formed.1.number, (tt, tt)),
  runs_writable IsLine21Run run_codes_writable runs formed.2,
)
kind_writable (Win w) hide runs formed =
    (tt, runs_writable (IsWindowRun w) (window_run_writable w) runs formed.2)

-- every code of a cue in its ranges can be written
pub cue_codes_writable : (cue : Cue) → IsCueFormed cue → All IsWritable (cue_codes cue)
cue_codes_writable cue formed =
    let parts = kind_writable cue.kind cue.hide cue.runs formed.kind in
    All-from_recursion IsWritable (cue_codes cue)
    (AreWritable-append (opening_codes cue.kind) (flat_map run_codes cue.runs) parts.0 parts.1)
