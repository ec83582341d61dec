use Rattle.std.proofs.Common.{◌≡◌, Err, rules}
use Rattle.cue_list_commands.proofs.Refusals.{no_programme}
use Rattle.cue_list_commands.proofs.accept.judge.Goals as goal

pub returns-in_err-list : goal.returns-in_err-list
returns-in_err-list c =
    let answer : c.from_residual.result ≡ Err c.in_err-list.field-0.0 = search rules in
    rw answer (no_programme c.args.bytes.now c.in_err-list.field-0.0 c.in_err-list.ensures)

pub returns-in-Ok : goal.returns-in-Ok
returns-in-Ok c = record {
  made = record { list = c.in_ok-list.list; placed = c.in-Ok.ensures.0 };
  accepted = record { good = c.in_ok-list.ensures; placement = c.in-Ok.ensures.1 };
  framing = record { rate_is = c.rate.ensures; gives = c.in-Ok.ensures.2; count_is = c.in-Ok.ensures.3 };
}
