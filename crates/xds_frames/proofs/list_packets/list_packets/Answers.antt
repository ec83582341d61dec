use Rattle.std.proofs.Common.{subst, sym}
use Rattle.cue_lists.specs.Cadences.{slot_frame}
use Rattle.xds_frames.proofs.ListPacketsLemmas.{loaded_in_order}
use Rattle.xds_frames.proofs.PacketsLemmas.{lays_anew}
use Rattle.xds_frames.specs.ListPackets.{laying_of}
use Rattle.xds_frames.specs.Loads.{StandsAt}
use Rattle.xds_frames.specs.Packets.{free_at}
use Rattle.xds_frames.specs.declared.loads.Loads.{Loads}
use Rattle.xds_lists.specs.Writer.{IsBehind}
use Rattle.xds_lists.specs.declared.writer.XdsWriter.{XdsWriter}
use Rattle.xds_frames.proofs.list_packets.list_packets.Goals as goal

pub returns-clause-stand : goal.returns-clause-stand
returns-clause-stand c placed =
    let at = rw c.cues.ensures.cues at c.in_ok-loads.ensures in
    lays_anew (laying_of c.args.list.now placed c.args.packets) c.new-2.result c.new-2.ensures.frame
    (subst (λ (loads : Loads). StandsAt c.args.list.now.cues 0 loads) (sym c.new-2.ensures.loads) (at (loaded_in_order c.args.list.now c.requires)))
    (subst (λ (writer : XdsWriter). IsBehind (free_at (laying_of c.args.list.now placed c.args.packets)) (slot_frame (laying_of c.args.list.now placed c.args.packets).cadence) c.args.packets 0 writer)
    (sym c.new-2.ensures.writer) (c.new.ensures _ _))
