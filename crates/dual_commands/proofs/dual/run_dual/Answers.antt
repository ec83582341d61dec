use Rattle.std.proofs.Common.{inr}
use Rattle.command_base.proofs.BesideLemmas.{beside_realised}
use Rattle.command_base.proofs.MadeLemmas.{read_refused}
use Rattle.command_base.proofs.RealisedLemmas.{if_told}
use Rattle.command_base.specs.Ends.{ends}
use Rattle.command_base.specs.declared.status.Status.TheVariants as status
use Rattle.cue_list_commands.proofs.MadeLemmas.{programme_done, programme_failed}
use Rattle.cue_list_commands.specs.Accepted.{IsGoodList, IsRefusedList}
use Rattle.dual_commands.proofs.MadeLemmas.{first_unread, pair_made, pair_refused}
use Rattle.dual_commands.proofs.SoundLemmas.{sound_dual}
use Rattle.dual_commands.proofs.VerdictLemmas.{OfSecond}
use Rattle.dual_commands.specs.DualLists.{IsPlacedBeside, IsRefusedBeside}
use Rattle.dual_commands.specs.DualWords.{IsSoundDual, dual_framing}
use Rattle.cue_list_commands.specs.Framing.{words_of}
use Rattle.dual_commands.proofs.dual.run_dual.Goals as goal

pub returns-in-Err-read_list-clause-answer : goal.returns-in-Err-read_list-clause-answer
returns-in-Err-read_list-clause-answer g c =
    beside_realised IsGoodList IsRefusedList OfSecond c.in-Ok.second _ _ _ _ c.in-Err-read_list.status c.in-Ok.ensures.reads
    (read_refused (IsPlacedBeside c.in-Ok.second) (λ lists. words_of (dual_framing lists)) IsSoundDual (IsRefusedBeside c.in-Ok.second) IsGoodList _ _ _ _ _ _
    c.in-Err-read_list.status (first_unread c.in-Ok.second _ _ _ _ c.in-Err-read_list.status c.in-Err-read_list.ensures.reads))

pub returns-in-Done-clause-answer : goal.returns-in-Done-clause-answer
returns-in-Done-clause-answer g c =
    let planned = c.in-Ok-plan_dual.ensures in
    beside_realised IsGoodList IsRefusedList OfSecond c.in-Ok.second _ _ _ _ status.Ok c.in-Ok.ensures.reads
    (programme_done (IsPlacedBeside c.in-Ok.second) dual_framing words_of IsSoundDual (IsRefusedBeside c.in-Ok.second) (sound_dual c.in-Ok.second) _ _ _ _ _ _ _ _ _ _
    (record { rate = c.rate-rate.result; frames = c.in-Ok-plan_dual.frames })
    (pair_made c.in-Ok-read_list.first c.in-Ok.second _ _ _ _ c.in-Ok-read_list.ensures.reads _ _ planned.placed _ planned.together planned.placed_is c.rate-rate.ensures
    planned.gives planned.left) c.in-Done.ensures.cause c.in-Done.ensures.bytes)

pub returns-in-Done-clause-untouched : goal.returns-in-Done-clause-untouched
returns-in-Done-clause-untouched g c = inr (if_told (λ aside. IsGoodList aside c.in-Ok.second) _ _ (λ aside known is. (c.in-Ok.second, is)) c.in-Ok.ensures.reads.2)

pub returns-in-Ok-plan_dual-clause-answer : goal.returns-in-Ok-plan_dual-clause-answer
returns-in-Ok-plan_dual-clause-answer g c =
    let planned = c.in-Ok-plan_dual.ensures in
    beside_realised IsGoodList IsRefusedList OfSecond c.in-Ok.second _ _ _ (ends (g.M.Source.left c.read_list-2.new.input) _ _ _) status.WriteFault c.in-Ok.ensures.reads
    (programme_failed (IsPlacedBeside c.in-Ok.second) dual_framing words_of IsSoundDual (IsRefusedBeside c.in-Ok.second) (sound_dual c.in-Ok.second) _ _ _ _ _ _ _ _ _ _
    (record { rate = c.rate-rate.result; frames = c.in-Ok-plan_dual.frames })
    (pair_made c.in-Ok-read_list.first c.in-Ok.second _ _ _ _ c.in-Ok-read_list.ensures.reads _ _ planned.placed _ planned.together planned.placed_is c.rate-rate.ensures
    planned.gives planned.left) c.in-Failed.ensures.cause.1 c.in-Failed.ensures.bytes)

pub returns-in-Ok-plan_dual-clause-untouched : goal.returns-in-Ok-plan_dual-clause-untouched
returns-in-Ok-plan_dual-clause-untouched g c =
    inr (if_told (λ aside. IsGoodList aside c.in-Ok.second) _ _ (λ aside known is. (c.in-Ok.second, is)) c.in-Ok.ensures.reads.2)

pub returns-clause-answer : goal.returns-clause-answer
returns-clause-answer g c =
    beside_realised IsGoodList IsRefusedList OfSecond c.in-Ok.second _ _ _ _ c.status_of.result c.in-Ok.ensures.reads
    (read_refused (IsPlacedBeside c.in-Ok.second) (λ lists. words_of (dual_framing lists)) IsSoundDual (IsRefusedBeside c.in-Ok.second) IsGoodList _ _ _ _ _ _
    c.status_of.result (rw c.status_of.ensures
    (pair_refused c.in-Ok-read_list.first c.in-Ok.second _ _ _ _ c.in-Ok-read_list.ensures.reads c.in-Err-plan_dual.fault c.in-Err-plan_dual.ensures)))
