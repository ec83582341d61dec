use Rattle.std.proofs.Common.{sym, ◌∙◌}
use Rattle.line21_codes.proofs.ParityLemmas.{is_odd-top}
use Rattle.line21_codes.proofs.pairs.parity.Goals as goal

pub returns-else-is_odd-clause-odd : goal.returns-else-is_odd-clause-odd
returns-else-is_odd-clause-odd c = is_odd-top c.args.low c.requires (sym c.is_odd.ensures ∙ c.if-is_odd.false)
