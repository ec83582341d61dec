use Rattle.std.proofs.Common.{◌≡◌, Err, rules}
use Rattle.cue_list_commands.specs.Accepted.{IsRefused}
use Rattle.cue_list_commands.specs.Reads.{IsProgrammeOf}
use Rattle.command_base.proofs.WholeInputLemmas.{judged, unread}
use Rattle.cue_list_commands.proofs.Refusals.{are_refusals}
use Rattle.cue_list_commands.proofs.accept.read_programme.Goals as goal

pub returns : goal.returns
returns g c =
    judged IsProgrammeOf IsRefused are_refusals _ _ _ _ c.in_ok-bytes.bytes.items c.judge.result c.in_ok-bytes.ensures.bytes.2 c.in_ok-bytes.ensures.bytes.1 c.in_ok-bytes.ensures.bytes.0
    (rw c.deref.ensures.value at c.judge.ensures)

pub returns-in_err-bytes : goal.returns-in_err-bytes
returns-in_err-bytes g c =
    let answer : c.from_residual.result ≡ Err c.in_err-bytes.field-0.0 = search rules in
    rw answer (unread IsProgrammeOf IsRefused (λ bytes long. long) _ _ _ _ c.in_err-bytes.field-0.0 c.in_err-bytes.ensures.bytes)
