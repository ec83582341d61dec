use Rattle.std.proofs.Common.{take, reverse}
use Rattle.cue_lists.specs.Rules.Tests.{AreFaultless}
use Rattle.cue_lists.specs.Rules.Formers.{Remembers}
use Rattle.cue_lists.proofs.rules.check.Given as goal

abbrev pub invariant-loop-index : goal.invariant-loop-index
invariant-loop-index l = record {
  remembered : Remembers l.formers (reverse (take l.index l.cues));
  kept : AreFaultless l.list (reverse (take l.index l.cues));
}
