use Rattle.std.proofs.Common.{ℕ, length, ◌-◌, ◌≤◌}
use Rattle.dtvcc_author.specs.Latest.{IsLatestAt}
use Rattle.dtvcc_author.proofs.LatestLemmas.{IsPassing}
use Rattle.dtvcc_author.proofs.latest.Latest.load.Given as goal

abbrev pub invariant-loop-caption : goal.invariant-loop-caption
invariant-loop-caption l = (from : ℕ) → from ≤ l.frame → IsLatestAt l.captions from l.fn.self → IsPassing l.captions l.frame l.self

abbrev pub decreases-loop-caption : goal.decreases-loop-caption
decreases-loop-caption l = length l.captions - l.self.next
