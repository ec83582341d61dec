use Rattle.std.proofs.Common.{None}
use Rattle.cc_base.specs.declared.streams.Put.TheVariants as put
use Rattle.command_base.specs.Ends.{ends}
use Rattle.command_base.proofs.MadeLemmas.{made_done, made_failed, read_refused}
use Rattle.cue_list_commands.proofs.Outputs.{list_put}
use Rattle.cue_list_commands.specs.Accepted.{IsGoodList, IsRefusedList}
use Rattle.cue_list_commands.specs.ListVerdict.{IsReadAgain}
use Rattle.cue_lists.specs.Printing.{list_bytes}
use Rattle.cue_list_commands.proofs.cues.run_cues.Goals as goal

pub returns-in-Err : goal.returns-in-Err
returns-in-Err g c = read_refused IsGoodList list_bytes IsReadAgain IsRefusedList IsGoodList _ _ _ _ _ _ c.in-Err.status c.in-Err.ensures.reads

pub returns-in-Done : goal.returns-in-Done
returns-in-Done g c =
    made_done IsGoodList list_bytes IsReadAgain IsRefusedList _ _ c.in-Ok.ensures.reads.0 c.in-Done.ensures.cause c.in-Ok.ensures.reads.1
    (list_put put.Done _ _ _ c.in-Ok.list c.in-Ok-print.text.items _ c.in-Ok.ensures.reads.2 c.in-Ok-print.ensures.bytes c.in-Ok-print.ensures.records c.deref.ensures.value
    c.in-Done.ensures.bytes)

pub returns : goal.returns
returns g c =
    made_failed IsGoodList list_bytes IsReadAgain IsRefusedList _ (ends None _ _ _) c.in-Ok.ensures.reads.0 c.in-Failed.ensures.cause.1
    (list_put put.Failed _ _ _ c.in-Ok.list c.in-Ok-print.text.items _ c.in-Ok.ensures.reads.2 c.in-Ok-print.ensures.bytes c.in-Ok-print.ensures.records c.deref.ensures.value
    c.in-Failed.ensures.bytes)
