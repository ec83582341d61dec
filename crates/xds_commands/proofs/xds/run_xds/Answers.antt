use Rattle.std.proofs.Common.{inr}
use Rattle.command_base.proofs.BesideLemmas.{beside_realised}
use Rattle.command_base.proofs.MadeLemmas.{read_refused}
use Rattle.command_base.proofs.RealisedLemmas.{if_told}
use Rattle.command_base.specs.Ends.{ends}
use Rattle.command_base.specs.declared.status.Status.TheVariants as status
use Rattle.cue_list_commands.proofs.MadeLemmas.{programme_done, programme_failed}
use Rattle.cue_list_commands.specs.Accepted.{IsGoodList}
use Rattle.cue_list_commands.specs.Framing.{words_of}
use Rattle.xds_commands.proofs.MadeLemmas.{list_made, list_refused, list_unread, sound_xds}
use Rattle.xds_commands.proofs.VerdictLemmas.{OfPackets}
use Rattle.xds_commands.specs.PacketLists.{IsGoodPackets, IsRefusedPackets}
use Rattle.xds_commands.specs.PlacedPackets.{IsPlacedWith, IsXdsRefusal}
use Rattle.xds_commands.specs.XdsWords.{IsSoundXds, xds_framing}
use Rattle.xds_commands.proofs.xds.run_xds.Goals as goal

pub returns-in-Err-read_list-clause-answer : goal.returns-in-Err-read_list-clause-answer
returns-in-Err-read_list-clause-answer g c =
    beside_realised IsGoodPackets IsRefusedPackets OfPackets c.in-Ok.packets _ _ _ _ c.in-Err-read_list.status c.in-Ok.ensures.reads
    (read_refused (IsPlacedWith c.in-Ok.packets) (λ made. words_of (xds_framing made)) IsSoundXds (IsXdsRefusal c.in-Ok.packets) IsGoodList _ _ _ _ _ _
    c.in-Err-read_list.status (list_unread c.in-Ok.packets _ _ _ _ c.in-Err-read_list.status c.in-Err-read_list.ensures.reads))

pub returns-in-Done-clause-answer : goal.returns-in-Done-clause-answer
returns-in-Done-clause-answer g c =
    let planned = c.in-Ok-plan_xds.ensures in
    beside_realised IsGoodPackets IsRefusedPackets OfPackets c.in-Ok.packets _ _ _ _ status.Ok c.in-Ok.ensures.reads
    (programme_done (IsPlacedWith c.in-Ok.packets) xds_framing words_of IsSoundXds (IsXdsRefusal c.in-Ok.packets) (sound_xds c.in-Ok.packets c.in-Ok.ensures.listed)
    _ _ _ _ _ _ _ _ _ _ (record { rate = c.rate-rate.result; frames = c.in-Ok-plan_xds.frames })
    (list_made c.in-Ok-read_list.list c.in-Ok.packets _ _ _ _ c.in-Ok-read_list.ensures.reads _ _ planned.placed _ planned.placed_is planned.room c.rate-rate.ensures
    planned.gives planned.left) c.in-Done.ensures.cause c.in-Done.ensures.bytes)

pub returns-in-Done-clause-untouched : goal.returns-in-Done-clause-untouched
returns-in-Done-clause-untouched g c = inr (if_told (λ aside. IsGoodPackets aside c.in-Ok.packets) _ _ (λ aside known is. (c.in-Ok.packets, is)) c.in-Ok.ensures.reads.2)

pub returns-in-Ok-plan_xds-clause-answer : goal.returns-in-Ok-plan_xds-clause-answer
returns-in-Ok-plan_xds-clause-answer g c =
    let planned = c.in-Ok-plan_xds.ensures in
    beside_realised IsGoodPackets IsRefusedPackets OfPackets c.in-Ok.packets _ _ _ (ends (g.M.Source.left c.read_list.new.input) _ _ _) status.WriteFault c.in-Ok.ensures.reads
    (programme_failed (IsPlacedWith c.in-Ok.packets) xds_framing words_of IsSoundXds (IsXdsRefusal c.in-Ok.packets) (sound_xds c.in-Ok.packets c.in-Ok.ensures.listed)
    _ _ _ _ _ _ _ _ _ _ (record { rate = c.rate-rate.result; frames = c.in-Ok-plan_xds.frames })
    (list_made c.in-Ok-read_list.list c.in-Ok.packets _ _ _ _ c.in-Ok-read_list.ensures.reads _ _ planned.placed _ planned.placed_is planned.room c.rate-rate.ensures
    planned.gives planned.left) c.in-Failed.ensures.cause.1 c.in-Failed.ensures.bytes)

pub returns-in-Ok-plan_xds-clause-untouched : goal.returns-in-Ok-plan_xds-clause-untouched
returns-in-Ok-plan_xds-clause-untouched g c =
    inr (if_told (λ aside. IsGoodPackets aside c.in-Ok.packets) _ _ (λ aside known is. (c.in-Ok.packets, is)) c.in-Ok.ensures.reads.2)

pub returns-clause-answer : goal.returns-clause-answer
returns-clause-answer g c =
    beside_realised IsGoodPackets IsRefusedPackets OfPackets c.in-Ok.packets _ _ _ _ c.status_of.result c.in-Ok.ensures.reads
    (read_refused (IsPlacedWith c.in-Ok.packets) (λ made. words_of (xds_framing made)) IsSoundXds (IsXdsRefusal c.in-Ok.packets) IsGoodList _ _ _ _ _ _
    c.status_of.result (rw c.status_of.ensures
    (list_refused c.in-Ok-read_list.list c.in-Ok.packets _ _ _ _ c.in-Ok-read_list.ensures.reads c.in-Err-plan_xds.fault c.in-Err-plan_xds.ensures)))
