use Rattle.std.proofs.Common.{arith}
use Rattle.hex_digits.proofs.TableLemmas.{digit, digit-small, no_digit}
use Rattle.hex_digits.proofs.hex_value.Goals as goal

pub returns-then-value-clause-value : goal.returns-then-value-clause-value
returns-then-value-clause-value c = no_digit c.args.byte (omega arith) c.if-value.true

pub returns-else-value-clause-value : goal.returns-else-value-clause-value
returns-else-value-clause-value c = digit c.args.byte (omega arith) c.if-value.false

pub returns-else-value-clause-small : goal.returns-else-value-clause-small
returns-else-value-clause-small c = digit-small c.args.byte (omega arith) c.if-value.false
