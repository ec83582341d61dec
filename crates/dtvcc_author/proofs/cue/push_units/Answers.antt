use Rattle.std.proofs.Common.{sym, subst}
use Rattle.std.specs.Prelude.{All}
use Rattle.cue_types.specs.Windows.{IsWindowRun}
use Rattle.dtvcc_author.proofs.WritableLemmas.{cue_runs}
use Rattle.dtvcc_author.proofs.cue.push_units.Goals as goal

-- the window of a formed cue is in its ranges, and so are its runs
pub push_window-requires : goal.push_window-requires
push_window-requires c =
    let formed = cue_runs c.args.cue.now c.requires c.in-Win.window c.in-Win.is in
    record { window = formed.0; runs = subst (All (IsWindowRun c.in-Win.window)) (sym c.as_slice.ensures) formed.1 }
