use Rattle.std.proofs.Common.{◌≡◌, Err, rules}
use Rattle.cue_list_commands.specs.Accepted.{IsGoodList, IsRefusedList}
use Rattle.command_base.proofs.WholeInputLemmas.{judged, unread}
use Rattle.cue_list_commands.proofs.Refusals.{list_refusals, ruled_of}
use Rattle.cue_list_commands.proofs.accept.read_list.Goals as goal

pub returns-clause-reads : goal.returns-clause-reads
returns-clause-reads g c =
    judged IsGoodList IsRefusedList list_refusals _ _ _ _ c.in_ok-bytes.bytes.items c.judge_list.result c.in_ok-bytes.ensures.bytes.2 c.in_ok-bytes.ensures.bytes.1 c.in_ok-bytes.ensures.bytes.0
    (rw c.deref.ensures.value at c.judge_list.ensures)

pub returns-clause-ruled : goal.returns-clause-ruled
returns-clause-ruled g c = ruled_of _ c.judge_list.result c.judge_list.ensures

pub returns-in_err-bytes-clause-reads : goal.returns-in_err-bytes-clause-reads
returns-in_err-bytes-clause-reads g c =
    let answer : c.from_residual.result ≡ Err c.in_err-bytes.field-0.0 = search rules in
    rw answer (unread IsGoodList IsRefusedList (λ bytes long. long) _ _ _ _ c.in_err-bytes.field-0.0 c.in_err-bytes.ensures.bytes)
