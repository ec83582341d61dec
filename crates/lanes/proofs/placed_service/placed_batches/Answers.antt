use Rattle.std.proofs.Common.{◌≡◌, ◌∙◌, ◌+◌, ◌≤◌, ap, arith, length, sym, subst}
use Rattle.std.proofs.lemmas.Result.{IfOk-weaker}
use Rattle.lanes.specs.Placing.{IsEarliest}
use Rattle.dtvcc_author.specs.Packed.{bytes_before}
use Rattle.lanes.specs.ServiceRoom.{caption_lane}
use Rattle.lanes.specs.ServicePlacing.{batches_of}
use Rattle.lanes.specs.Batches.{AreBatches, batch_frames}
use Rattle.lanes.specs.declared.cue_load.CueLoad.{CueLoad}
use Rattle.lanes.proofs.CueChunkLemmas.{AreLeft, none_left, takes_at}
use Rattle.lanes.proofs.PlacingSteps.{placing_all}
use Rattle.lanes.proofs.placed_service.placed_batches.Goals as goal

pub loop-cue-init : goal.loop-cue-init
loop-cue-init c =
    let units = c.parts.result.0.now in
    let cues = c.parts.result.1.now in
    record {
      within = omega (arith, c.start-placing.ensures.units);
      bytes = c.start-placing.ensures.bytes ∙ ap (λ n. bytes_before n units) (sym c.start-placing.ensures.units);
      left = subst (AreLeft cues units c.args.chunks.now 0) (sym c.start-placing.ensures.units)
          (record { are = sym c.parts.ensures.chunks; counted = c.parts.ensures.counted });
      placing = c.start-placing.ensures.placing c.args.chunks.now;
    }

pub place_cue-requires-clause-within : goal.place_cue-requires-clause-within
place_cue-requires-clause-within c =
    let cues = c.parts.result.1.now in
    let units = c.parts.result.0.now in
    let none : CueLoad = record { load = 0; until = 0; cue = 0; count = 0 } in
    let next = takes_at cues units c.args.chunks.now c.loop-cue.cue-index c.loop-cue.placing.last.units none c.loop-cue.invariant.within c.loop-cue-test.true
    c.loop-cue.invariant.left in
    next.within

pub loop-cue-preserved : goal.loop-cue-preserved
loop-cue-preserved c =
    let cues = c.parts.result.1.now in
    let units = c.parts.result.0.now in
    let none : CueLoad = record { load = 0; until = 0; cue = 0; count = 0 } in
    let next = takes_at cues units c.args.chunks.now c.loop-cue.cue-index c.loop-cue.placing.last.units none c.loop-cue.invariant.within c.loop-cue-test.true
    c.loop-cue.invariant.left in
    let units_are = c.in_default.ensures.units in
    record {
      within = subst (λ n. n ≤ length units) (sym units_are) next.within;
      bytes = c.in_default.ensures.bytes;
      left = subst (AreLeft cues units c.args.chunks.now (c.loop-cue.cue-index + 1)) (sym units_are) next.left;
      placing = c.in_default.ensures.placed c.args.chunks.now next.of_it c.loop-cue.invariant.placing;
    }

pub returns-in-Err-clause-fault : goal.returns-in-Err-clause-fault
returns-in-Err-clause-fault c =
    let cues = c.parts.result.1.now in
    let units = c.parts.result.0.now in
    let none : CueLoad = record { load = 0; until = 0; cue = 0; count = 0 } in
    let next = takes_at cues units c.args.chunks.now c.loop-cue.cue-index c.loop-cue.placing.last.units none c.loop-cue.invariant.within c.loop-cue-test.true
    c.loop-cue.invariant.left in
    c.in-Err.ensures.fault c.args.chunks.now next.of_it c.requires.order c.loop-cue.invariant.placing

pub returns : goal.returns
returns c =
    let chunks = c.args.chunks.now in
    let share = c.args.share in
    let cs = c.args.captions.now in
    let placing = c.loop-cue.placing in
    let end = none_left c.parts.result.1.now c.parts.result.0.now chunks c.loop-cue.cue-index placing.last.units c.loop-cue-test.false c.loop-cue.invariant.left in
    record {
      frames = IfOk-weaker c.finish.result (λ ss. ss.items ≡ batches_of placing) (λ ss. IsEarliest (caption_lane share cs) chunks (batch_frames ss.items))
          (λ ss are. (placing_all share cs chunks placing ss.items c.loop-cue.invariant.placing end are).0) c.finish.ensures.batches;
      batches = IfOk-weaker c.finish.result (λ ss. ss.items ≡ batches_of placing) (λ ss. AreBatches chunks 0 0 ss.items)
          (λ ss are. (placing_all share cs chunks placing ss.items c.loop-cue.invariant.placing end are).1) c.finish.ensures.batches;
      fault = c.finish.ensures.fault cs chunks share;
    }
