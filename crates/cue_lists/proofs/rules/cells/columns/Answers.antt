use Rattle.cue_lists.proofs.RuleCells.{first_before_end, shifted_order, shifted_mask}
use Rattle.cue_lists.proofs.rules.cells.columns.Goals as goal

pub overflow_sub-result : goal.overflow_sub-result
overflow_sub-result c =
    rw (c.as_slice.ensures, c.first_column.ensures) (shifted_order _ _ (first_before_end c.args.run.now) c.requires)

pub returns : goal.returns
returns c = rw (c.as_slice.ensures, c.first_column.ensures) (shifted_mask _ _ (first_before_end c.args.run.now) c.requires)
