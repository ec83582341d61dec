use Rattle.std.proofs.Common.{None, inr}
use Rattle.cc_base.specs.declared.streams.Put.TheVariants as put
use Rattle.command_base.proofs.BesideLemmas.{beside_realised}
use Rattle.command_base.proofs.MadeLemmas.{made_done, made_failed, read_refused}
use Rattle.command_base.proofs.RealisedLemmas.{if_told}
use Rattle.command_base.specs.Ends.{ends}
use Rattle.command_base.specs.declared.status.Status.TheVariants as status
use Rattle.cue_list_commands.specs.Accepted.{IsGoodList, IsRefusedList}
use Rattle.cue_list_commands.specs.ListVerdict.{IsReadAgain}
use Rattle.cue_lists.specs.Printing.{list_bytes}
use Rattle.fit_commands.proofs.BesideAnswerLemmas.{beside_put, beside_refused, beside_unread}
use Rattle.fit_commands.proofs.BesideVerdictLemmas.{OfFirst}
use Rattle.fit_commands.specs.FitBesideVerdict.{IsFittedAsBeside, IsRefusedFitBeside}
use Rattle.fit_commands.proofs.fit_beside.run_fit_beside.Goals as goal

pub returns-in-Err-read_list-clause-answer : goal.returns-in-Err-read_list-clause-answer
returns-in-Err-read_list-clause-answer g c =
    beside_realised IsGoodList IsRefusedList (OfFirst c.args.late) c.in-Ok.first _ _ _ _ c.in-Err-read_list.status c.in-Ok.ensures.reads
    (read_refused (IsFittedAsBeside c.args.late c.in-Ok.first) list_bytes IsReadAgain (IsRefusedFitBeside c.args.late c.in-Ok.first) IsGoodList _ _ _ _ _ _
    c.in-Err-read_list.status (beside_unread c.args.late c.in-Ok.first _ _ _ _ c.in-Err-read_list.status c.in-Err-read_list.ensures.reads))

pub returns-in-Err-fit_beside-clause-answer : goal.returns-in-Err-fit_beside-clause-answer
returns-in-Err-fit_beside-clause-answer g c =
    beside_realised IsGoodList IsRefusedList (OfFirst c.args.late) c.in-Ok.first _ _ _ _ c.status_of.result c.in-Ok.ensures.reads
    (read_refused (IsFittedAsBeside c.args.late c.in-Ok.first) list_bytes IsReadAgain (IsRefusedFitBeside c.args.late c.in-Ok.first) IsGoodList _ _ _ _ _ _
    c.status_of.result (rw c.status_of.ensures
    (beside_refused c.args.late c.in-Ok.first _ _ _ _ c.in-Ok-read_list.second c.in-Ok-read_list.ensures.reads.0 c.in-Ok-read_list.ensures.reads.2
    c.in-Err-fit_beside.fault c.in-Err-fit_beside.ensures)))

pub returns-in-Done-clause-answer : goal.returns-in-Done-clause-answer
returns-in-Done-clause-answer g c =
    beside_realised IsGoodList IsRefusedList (OfFirst c.args.late) c.in-Ok.first _ _ _ _ status.Ok c.in-Ok.ensures.reads
    (made_done (IsFittedAsBeside c.args.late c.in-Ok.first) list_bytes IsReadAgain (IsRefusedFitBeside c.args.late c.in-Ok.first) _ _
    c.in-Ok-read_list.ensures.reads.0 c.in-Done.ensures.cause c.in-Ok-read_list.ensures.reads.1
    (beside_put c.args.late c.in-Ok.first put.Done _ _ _ c.in-Ok-read_list.second c.in-Ok-fit_beside.fitted c.in-Ok-print.text.items _
    c.in-Ok-read_list.ensures.reads.2 c.in-Ok-fit_beside.ensures c.in-Ok-print.ensures.bytes c.in-Ok-print.ensures.records c.deref.ensures.value c.in-Done.ensures.bytes))

pub returns-in_default-clause-untouched : goal.returns-in_default-clause-untouched
returns-in_default-clause-untouched g c = inr (if_told (λ aside. IsGoodList aside c.in-Ok.first) _ _ (λ aside known is. (c.in-Ok.first, is)) c.in-Ok.ensures.reads.2)

pub returns-in-Done-clause-untouched : goal.returns-in-Done-clause-untouched
returns-in-Done-clause-untouched g c = inr (if_told (λ aside. IsGoodList aside c.in-Ok.first) _ _ (λ aside known is. (c.in-Ok.first, is)) c.in-Ok.ensures.reads.2)

pub returns-clause-answer : goal.returns-clause-answer
returns-clause-answer g c =
    beside_realised IsGoodList IsRefusedList (OfFirst c.args.late) c.in-Ok.first _ _ _ (ends (g.M.Source.left c.read_list-2.new.input) _ _ _) status.WriteFault c.in-Ok.ensures.reads
    (made_failed (IsFittedAsBeside c.args.late c.in-Ok.first) list_bytes IsReadAgain (IsRefusedFitBeside c.args.late c.in-Ok.first) _ (ends None _ _ _)
    c.in-Ok-read_list.ensures.reads.0 c.in-Failed.ensures.cause.1
    (beside_put c.args.late c.in-Ok.first put.Failed _ _ _ c.in-Ok-read_list.second c.in-Ok-fit_beside.fitted c.in-Ok-print.text.items _
    c.in-Ok-read_list.ensures.reads.2 c.in-Ok-fit_beside.ensures c.in-Ok-print.ensures.bytes c.in-Ok-print.ensures.records c.deref.ensures.value c.in-Failed.ensures.bytes))

pub returns-clause-untouched : goal.returns-clause-untouched
returns-clause-untouched g c = inr (if_told (λ aside. IsGoodList aside c.in-Ok.first) _ _ (λ aside known is. (c.in-Ok.first, is)) c.in-Ok.ensures.reads.2)
