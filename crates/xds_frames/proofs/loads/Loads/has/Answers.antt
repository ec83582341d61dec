use Rattle.std.proofs.Common.{◌∙◌, ◌<◌, ap, arith, get_or, length}
use Rattle.xds_frames.proofs.LoadsLemmas.{stands_later, tells_at}
use Rattle.xds_frames.proofs.loads.Loads.has.Goals as goal
use Rattle.xds_frames.proofs.loads.Loads.has.Goals.{then-loop-self-test+else-index-frame, else-loop-self-test}

pub returns-in-Some : goal.returns-in-Some
returns-in-Some c cues at =
    let there = c.loop-self.invariant cues at in
    let found = c.in-Some.ensures.lookup.3 in
    let within : c.loop-self.self.next < length c.loop-self.self.spans.items = omega (arith, found.0, ap length c.deref.ensures.value) in
    elim c.loop-self-test.branch [
      | then-loop-self-test+else-index-frame w ↦ (
        tells_at cues c.args.frame c.loop-self.self w.index.result.now c.in-Some.span.now there within w.index.ensures
            (found.1 w.index.result.now ∙ ap (λ l. get_or l c.loop-self.self.next w.index.result.now) c.deref.ensures.value) w.if-index-frame.false,
        λ later high. stands_later cues c.args.frame later c.loop-self.self high there,
      )
      | else-loop-self-test w ↦ absurd (omega (arith, within, w.loop-self-test.false, c.len.ensures))
    ]
