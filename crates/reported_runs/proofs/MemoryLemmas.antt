-- What a run over memory begins and ends with.
use Rattle.std.proofs.Common.{◌≡◌, ℕ, List, [], subst, sym, inl, inr}
use Rattle.std.specs.Prelude.{Some}
use Rattle.ccsuite_cli.specs.Answer.{Answer}
use Rattle.ccsuite_cli.specs.declared.command.Command.{Command}
use Rattle.command_base.specs.Ends.{Ends, ends}
use Rattle.command_base.specs.declared.status.Status.{Status}
use Rattle.caption_streams.specs.SideEnds.{SideEnds, side_ends}
use Rattle.reported_runs.specs.Memory.{RunsInMemory, Stands}
use Rattle.reported_runs.specs.declared.report.Report.{Report}

-- what a run wrote stands in the output
pub ran : (command : Command) {input side before after written now source file begun : List ℕ} {report : Report} {begun_faults : ℕ}
    (left side_left : List ℕ) (faults : ℕ) {status : Status} → source ≡ input → file ≡ side → begun ≡ [] → begun_faults ≡ 0 → now ≡ written
    → Answer (Some command) (side_ends (Some file) 0) (side_ends (Some side_left) 0)
    (ends (Some source) 0 (Some begun) begun_faults) (ends (Some left) 0 (Some written) faults) status
    → Stands status now before after report → RunsInMemory command input side before after report
ran command left side_left faults e f g h put answer (inr lacks) = inr lacks
ran command {now = now} left side_left faults {status} e f g h put answer (inl (takes_all, so)) = inl (record {
  status = status;
  written = now;
  left = left;
  side_left = side_left;
  faults = faults;
  answer = subst (λ (at : SideEnds × Ends × Ends). Answer (Some command) at.0 (side_ends (Some side_left) 0) at.1 at.2 status)
      (λ i. (side_ends (Some (f i)) 0, ends (Some (e i)) 0 (Some (g i)) (h i), ends (Some left) 0 (Some (sym put i)) faults)) answer;
  takes_all = takes_all;
  stands = so;
})
