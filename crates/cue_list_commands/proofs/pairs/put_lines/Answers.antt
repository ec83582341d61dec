use Rattle.std.proofs.Common.{◌∙◌}
use Rattle.cue_list_commands.proofs.GatheredLines.{line_added, lines_ended, lines_failed}
use Rattle.cue_list_commands.proofs.pairs.put_lines.Goals as goal

pub loop-pairs-preserved : goal.loop-pairs-preserved
loop-pairs-preserved g c = (
  c.in-Done.ensures.cause ∙ c.loop-pairs.invariant.0,
  λ framing has. line_added g.F.Frames.left g.F.Frames.Gives framing.columns _ _ _ _ _ c.line_of.result _ c.loop-pairs.frames _ c.in-Some.pairs
      (c.loop-pairs.invariant.1 framing has) c.in-Some.ensures.left c.in-Some.ensures.gives c.line_of.ensures c.in-Done.ensures.bytes,
)

pub returns-in-Failed-clause-bytes : goal.returns-in-Failed-clause-bytes
returns-in-Failed-clause-bytes g c framing has =
    lines_failed g.F.Frames.left g.F.Frames.Gives framing.columns _ _ _ _ _ c.loop-pairs.frames (c.loop-pairs.invariant.1 framing has) c.in-Failed.ensures.bytes

pub returns-clause-bytes : goal.returns-clause-bytes
returns-clause-bytes g c framing has =
    lines_ended g.F.Frames.left g.F.Frames.Gives framing.columns _ _ _ _ _ _ _ c.loop-pairs.frames (c.loop-pairs.invariant.1 framing has) (rw c.in_default.is at c.next.ensures.left) c.flush.ensures.bytes
