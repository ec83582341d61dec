use Rattle.std.proofs.Common.{◌≡◌, ◌∙◌, ◌++◌, length, length-append, sym, ap, subst, arith}
use Rattle.std.specs.List.{zip}
use Rattle.dtvcc_author.specs.FrameEvents.{event_bytes}
use Rattle.dtvcc_author.specs.Latest.{IsLatestAt}
use Rattle.lanes.specs.ServiceBytes.{loads_at}
use Rattle.lanes.specs.Batches.{batch_frames}
use Rattle.lanes.proofs.service_cursor.Cursor.step.Goals as goal

pub load-requires-clause-room : goal.load-requires-clause-room
load-requires-clause-room c =
    let cs = c.args.captions.now in
    let frame = c.args.self.now.frame in
    let kept = c.requires.ready.kept in
    let exact = c.bytes.ensures.exact kept.0 kept.1.0 frame cs kept.1.1 (c.events-events.ensures kept.0 kept.1.0 cs kept.1.1 c.requires.ready.at) in
    let events : c.push.new.out.items ≡ event_bytes frame cs = c.push.ensures ∙ ap (λ l. l ++ c.deref.result.now) c.new-bytes.ensures ∙ c.deref.ensures.0 ∙ exact in
    let whole = length-append (event_bytes frame cs) (loads_at (zip c.args.chunks.now (batch_frames c.args.batches.now)) frame) in
    let first = ap length events in
    omega (arith, whole, first, c.requires.within)

pub returns-clause-bytes : goal.returns-clause-bytes
returns-clause-bytes c =
    let cs = c.args.captions.now in
    let frame = c.args.self.now.frame in
    let kept = c.requires.ready.kept in
    let exact = c.bytes.ensures.exact kept.0 kept.1.0 frame cs kept.1.1 (c.events-events.ensures kept.0 kept.1.0 cs kept.1.1 c.requires.ready.at) in
    let events : c.push.new.out.items ≡ event_bytes frame cs = c.push.ensures ∙ ap (λ l. l ++ c.deref.result.now) c.new-bytes.ensures ∙ c.deref.ensures.0 ∙ exact in
    c.load.ensures.bytes ∙ ap (λ l. l ++ loads_at (zip c.args.chunks.now (batch_frames c.args.batches.now)) frame) events

pub returns-clause-ready : goal.returns-clause-ready
returns-clause-ready c =
    let cs = c.args.captions.now in
    let frame_is = c.load.ensures.frame in
    record {
      kept = c.requires.ready.kept;
      at = c.pass_to.ensures c.args.self.now.frame (omega (arith, frame_is))
          (subst (λ l. IsLatestAt cs c.args.self.now.frame l) (sym c.load.ensures.latest) c.requires.ready.at);
      loading = record {
        passed = c.load.ensures.loading.passed;
        start = c.load.ensures.loading.start;
        same = c.load.ensures.loading.same;
        ahead = c.load.ensures.loading.ahead;
      };
    }
