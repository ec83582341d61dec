use Rattle.std.proofs.Common.{◌≡◌, ◌≤◌, ◌-◌, vec_len}
use Rattle.std.specs.Io.KnownBytes.{Consumes}
use Rattle.cc_base.proofs.whole.read_whole.Given as goal

-- what was taken so far, within the limit, and no fault
abbrev pub invariant-loop-whole : goal.invariant-loop-whole
invariant-loop-whole g l = (vec_len l.whole ≤ l.limit) × (g.S.Source.faults l.source ≡ g.S.Source.faults l.initial.source)
    × Consumes (g.S.Source.left l.initial.source) (g.S.Source.left l.source) l.whole.items

abbrev pub decreases-loop-whole : goal.decreases-loop-whole
decreases-loop-whole g l = l.limit - vec_len l.whole
