use Rattle.std.proofs.Common.{◌∙◌}
use Rattle.frame_carrier.proofs.WordsLemmas.{held_failed, words_ended, words_gathered}
use Rattle.frame_carrier.proofs.put.put_words.Goals as goal

pub loop-pairs-preserved : goal.loop-pairs-preserved
loop-pairs-preserved g c = (
  c.clear.ensures,
  c.in-Done.ensures.cause ∙ c.loop-pairs.invariant.1,
  λ framing has. words_gathered g.F.Frames.left g.F.Frames.Gives framing.rate framing.columns _ _ _ _ _ c.put_words.new.out.items _ c.loop-pairs.frames _ c.loop-pairs.carrier _ c.in-Some.pairs
      (c.loop-pairs.invariant.2 framing has) c.in-Some.ensures.left c.in-Some.ensures.gives c.put_words.ensures.bytes c.put_words.ensures.next
      (rw c.deref.ensures.0 at c.in-Done.ensures.bytes),
)

pub returns-in-Failed-clause-bytes : goal.returns-in-Failed-clause-bytes
returns-in-Failed-clause-bytes g c framing has =
    held_failed g.F.Frames.left g.F.Frames.Gives framing.rate framing.columns _ _ _ _ _ c.loop-pairs.frames c.loop-pairs.carrier
    (c.loop-pairs.invariant.2 framing has) c.in-Failed.ensures.bytes

pub returns-clause-bytes : goal.returns-clause-bytes
returns-clause-bytes g c framing has =
    words_ended g.F.Frames.left g.F.Frames.Gives framing.rate framing.columns _ _ _ _ _ _ _ c.loop-pairs.frames c.loop-pairs.carrier
    (c.loop-pairs.invariant.2 framing has) (rw c.in_default.is at c.next.ensures.left) c.flush.ensures.bytes
