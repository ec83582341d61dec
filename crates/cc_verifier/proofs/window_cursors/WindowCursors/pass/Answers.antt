use Rattle.std.proofs.Common.{◌∙◌, arith, length-set, refl}
use Rattle.cc_verifier.proofs.WindowCursorLemmas.{moved_more, quiet_got}
use Rattle.cc_verifier.proofs.window_cursors.WindowCursors.pass.Goals as goal

pub loop-place-preserved : goal.loop-place-preserved
loop-place-preserved c =
    let more = moved_more c.args.cues.now c.args.frame c.loop-place.place c.pass_over-next.result c.next_change.result c.loop-place.self _ (let h = c.loop-place.invariant.long in let t = c.loop-place-test.true in omega arith)
    refl c.min-self.ensures c.pass_over-next.ensures
    (quiet_got c.args.cues.now c.pass_over-next.result c.args.frame c.next_change.result c.get.result (c.get.ensures.lookup.0, c.get.ensures.lookup.1) c.next_change.ensures)
    (record { placed = c.loop-place.invariant.placed; passed = c.loop-place.invariant.passed }) in
    record { long = length-set c.loop-place.self.places c.loop-place.place c.pass_over-next.result ∙ c.loop-place.invariant.long; placed = more.placed; passed = more.passed }
