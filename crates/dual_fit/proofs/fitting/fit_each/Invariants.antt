use Rattle.std.proofs.Common.{◌≡◌, [], length, reverse, take}
use Rattle.std.specs.Prelude.{All}
use Rattle.cue_lists.specs.Cues.{IsCueFormed}
use Rattle.dual_fit.specs.FittedBeside.{AreFittedBeside}
use Rattle.dual_fit.proofs.fitting.fit_each.Given as goal

-- the cues so far are fitted
abbrev pub invariant-loop-index : goal.invariant-loop-index
invariant-loop-index l = record {
  count : length l.fitted.items ≡ l.index;
  formed : All IsCueFormed l.fitted.items;
  are : AreFittedBeside l.late l.first l.second [] [] (take l.index l.cues) (reverse l.fitted.items);
}
