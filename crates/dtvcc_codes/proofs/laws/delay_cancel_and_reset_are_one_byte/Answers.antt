use Rattle.dtvcc_codes.proofs.SpellableLemmas.{delay_cancel_is, reset_is}
use Rattle.dtvcc_codes.proofs.laws.delay_cancel_and_reset_are_one_byte.Goals as goal

pub returns-clause-delay_cancel : goal.returns-clause-delay_cancel
returns-clause-delay_cancel c = delay_cancel_is

pub returns-clause-reset : goal.returns-clause-reset
returns-clause-reset c = reset_is
