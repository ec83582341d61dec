use Rattle.std.proofs.Common.{◌∙◌}
use Rattle.scc_commands.proofs.ImportLemmas.{quiet_next, quiet_words, words_added, words_failed, words_flushed}
use Rattle.scc_commands.proofs.import.put_frames.Goals as goal

pub loop-frame-preserved : goal.loop-frame-preserved
loop-frame-preserved g c =
    let (same, on) = c.loop-frame.invariant in (
      c.in-Done.ensures.cause ∙ same,
      words_added c.args.pairs.now _ _ c.loop-frame.frame _ c.loop-frame.carrier _ _ _ _ _ _ c.pass.result _ c.put_words.new.out.items on c.pass.ensures
          c.frame_with.ensures c.loop-frame-test.true (quiet_words c.loop-frame.frame c.frame_with.result c.pass.result c.put_words.new.out.items c.frame_with.ensures (c.put_words.ensures.bytes _ _ 0 on.at_frame)) (quiet_next c.loop-frame.frame c.frame_with.result c.pass.result _ c.frame_with.ensures (c.put_words.ensures.next _ _ 0 on.at_frame))
          (rw c.deref.ensures.0 at c.in-Done.ensures.bytes),
    )

pub returns-in-Failed-clause-bytes : goal.returns-in-Failed-clause-bytes
returns-in-Failed-clause-bytes g c =
    let (same, on) = c.loop-frame.invariant in
    words_failed c.args.pairs.now _ c.loop-frame.frame _ c.loop-frame.carrier _ _ _ _ on c.in-Failed.ensures.bytes

pub returns-clause-bytes : goal.returns-clause-bytes
returns-clause-bytes g c =
    let (same, on) = c.loop-frame.invariant in
    words_flushed c.args.pairs.now _ c.loop-frame.frame _ c.loop-frame.carrier _ _ _ _ _ _ on c.loop-frame-test.false c.flush.ensures.bytes
