use Rattle.std.proofs.Common.{None}
use Rattle.cc_base.specs.declared.streams.Put.TheVariants as put
use Rattle.command_base.proofs.MadeLemmas.{made_done, made_failed, read_refused}
use Rattle.command_base.specs.Ends.{ends}
use Rattle.command_base.specs.declared.status.Status.TheVariants as status
use Rattle.cue_list_commands.specs.Accepted.{IsGoodList}
use Rattle.cue_list_commands.specs.ListVerdict.{IsReadAgain}
use Rattle.cue_lists.specs.Printing.{list_bytes}
use Rattle.fit_commands.specs.FitVerdict.{IsFittedAs, IsRefusedFit}
use Rattle.fit_commands.proofs.AnswerLemmas.{fit_put, fit_refused, fit_unread}
use Rattle.fit_commands.proofs.fit.run_fit.Goals as goal

pub returns-in-Err : goal.returns-in-Err
returns-in-Err g c =
    read_refused (IsFittedAs c.args.late) list_bytes IsReadAgain (IsRefusedFit c.args.late) IsGoodList _ _ _ _ _ _ c.in-Err.status
    (fit_unread c.args.late _ _ _ _ c.in-Err.status c.in-Err.ensures.reads)

pub returns-in-Err-NoRoom : goal.returns-in-Err-NoRoom
returns-in-Err-NoRoom g c =
    rw c.in-Err-NoRoom.field-0-is
    (read_refused (IsFittedAs c.args.late) list_bytes IsReadAgain (IsRefusedFit c.args.late) IsGoodList _ _ _ _ _ _ (status.NoRoom c.in-Err-NoRoom.cue) (
      c.in-Ok.ensures.reads.0,
      fit_refused c.args.late _ c.in-Ok.list c.in-Err-NoRoom.cue c.in-Ok.ensures.reads.2
          (rw c.in-Err-NoRoom.field-0-is at c.in-Err-NoRoom.ensures),
    ))

pub returns-in-Done : goal.returns-in-Done
returns-in-Done g c =
    made_done (IsFittedAs c.args.late) list_bytes IsReadAgain (IsRefusedFit c.args.late) _ _ c.in-Ok.ensures.reads.0 c.in-Done.ensures.cause c.in-Ok.ensures.reads.1
    (fit_put c.args.late put.Done _ _ _ c.in-Ok.list c.in-Ok-fit.fitted c.in-Ok-print.text.items _ c.in-Ok.ensures.reads.2 c.in-Ok-fit.ensures c.in-Ok-print.ensures.bytes
    c.in-Ok-print.ensures.records c.deref.ensures.value c.in-Done.ensures.bytes)

pub returns : goal.returns
returns g c =
    made_failed (IsFittedAs c.args.late) list_bytes IsReadAgain (IsRefusedFit c.args.late) _ (ends None _ _ _) c.in-Ok.ensures.reads.0 c.in-Failed.ensures.cause.1
    (fit_put c.args.late put.Failed _ _ _ c.in-Ok.list c.in-Ok-fit.fitted c.in-Ok-print.text.items _ c.in-Ok.ensures.reads.2 c.in-Ok-fit.ensures c.in-Ok-print.ensures.bytes
    c.in-Ok-print.ensures.records c.deref.ensures.value c.in-Failed.ensures.bytes)
