use Rattle.std.proofs.Common.{sym, subst}
use Rattle.lanes.specs.Placing.{IsEarliest}
use Rattle.dtvcc_author.specs.Latest.{IsLatestAt}
use Rattle.lanes.specs.ServiceRoom.{caption_lane}
use Rattle.lanes.specs.Batches.{batch_frames}
use Rattle.lanes.proofs.LoadLemmas.{loading_start}
use Rattle.lanes.proofs.PlaceLemmas.{within_share}
use Rattle.lanes.proofs.placed_service.ServiceLane.place.Goals as goal

pub invariant_of-result : goal.invariant_of-result
invariant_of-result c =
    let share = c.args.self.share in
    let cs = c.args.self.captions.items in
    let chunks = c.args.self.chunks in
    let batches = c.in_ok-batches.batches.items in
    let cursor = c.start.result in
    let earliest : IsEarliest (caption_lane share cs) chunks (batch_frames batches) =
    subst (λ l. IsEarliest (caption_lane share l) chunks (batch_frames batches)) c.deref.ensures.value c.in_ok-batches.ensures.frames in (
      record {
        kept = c.requires.kept;
        at = subst (λ n. IsLatestAt cs n cursor.latest) (sym c.start.ensures.frame) (c.start.ensures.latest cs);
        loading = loading_start chunks batches cursor c.in_ok-batches.ensures.batches c.start.ensures.frame c.start.ensures.next c.start.ensures.start;
      },
      within_share share cs chunks (batch_frames batches) c.requires.least earliest.placed,
      c.requires.most,
    )
