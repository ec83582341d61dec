-- Believed: the library's answers stand on these definitions.
-- The reason of what was found at a frame.
use Rattle.cc_base.specs.declared.why.Why.{Why}
use Rattle.cc_base.specs.declared.why.Why.TheVariants as why
use Rattle.findings.specs.declared.finding.Kind45.{Kind45}
use Rattle.findings.specs.declared.finding.Kind45.TheVariants as kind

-- the reason of the same name
abbrev pub finding_why : Kind45 → Why
finding_why (kind.CounterJump expected seen) = why.CounterJump
finding_why (kind.WrongCount expected seen) = why.WrongCount
finding_why (kind.WrongRate expected seen) = why.WrongRate
finding_why (kind.BufferFull service) = why.BufferFull
finding_why (kind.GridDiffers which) = why.GridDiffers
finding_why (kind.TwoPairs seen) = why.TwoPairs
finding_why kind.EightBits = why.EightBits
