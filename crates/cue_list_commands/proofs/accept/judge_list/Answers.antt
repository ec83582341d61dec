use Rattle.cue_list_commands.proofs.Refusals.{form_refused}
use Rattle.cue_list_commands.proofs.accept.judge_list.Goals as goal

pub returns-in-Err : goal.returns-in-Err
returns-in-Err c =
    rw c.status_of_form.ensures (form_refused c.args.bytes.now c.in-Err.fault c.requires c.in-Err.ensures.answer c.in-Err.ensures.fault)
