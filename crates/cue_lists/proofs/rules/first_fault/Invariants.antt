use Rattle.std.proofs.Common.{◌≡◌, drop}
use Rattle.cue_lists.specs.Rules.Tests.{first_fault}
use Rattle.cue_lists.proofs.rules.first_fault.Given as goal

abbrev pub invariant-loop-why : goal.invariant-loop-why
invariant-loop-why l =
    first_fault l.cue l.former l.verdicts ≡ first_fault l.cue l.former (drop l.why-index l.verdicts)
