use Rattle.std.proofs.Common.{sym, subst}
use Rattle.dtvcc_author.specs.Kept.{AreKept}
use Rattle.lanes.specs.LaneRoom.{AreInCueOrder}
use Rattle.lanes.specs.ServiceChunks.{service_chunk_cue}
use Rattle.lanes.proofs.ChunkOrderLemmas.{chunks_in_order}
use Rattle.frame_scheduler.proofs.planning.placed_service.Goals as goal

pub place-requires-clause-kept : goal.place-requires-clause-kept
place-requires-clause-kept c =
    (c.args.rate, (c.requires.kept.0, subst (AreKept c.args.rate c.requires.kept.0) (sym c.in-Ok.ensures) c.requires.kept.1))

pub place-requires-clause-order : goal.place-requires-clause-order
place-requires-clause-order c = subst (AreInCueOrder service_chunk_cue) (sym c.in-Ok-service_chunks.ensures) (chunks_in_order c.args.rate c.args.service c.args.cues.now)
