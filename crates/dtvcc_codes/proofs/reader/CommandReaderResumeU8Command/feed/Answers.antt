use Rattle.std.proofs.Common.{ℕ, ◌<◌, arith}
use Rattle.std.proofs.lemmas.List.Elements.{All-append, All-from_get_or}
use Rattle.dtvcc_codes.proofs.reader.CommandReaderResumeU8Command.feed.Goals as goal

IsByte : ℕ → Type 0
IsByte byte = byte < 256

pub returns-clause-answer : goal.returns-clause-answer
returns-clause-answer g c = λ given before above led. c.feed.ensures.answer given before above led.1

pub returns-clause-handed : goal.returns-clause-handed
returns-clause-handed g c = λ given before above led. c.feed.ensures.handed given before above led.1

pub returns-clause-leads : goal.returns-clause-leads
unfolding IsByte
returns-clause-leads g c = λ given before above led took none. (
  All-append IsByte before c.args.input.now led.0 (All-from_get_or IsByte c.args.input.now 0 (λ k below. omega (arith, c.type_inv.input k))),
  c.feed.ensures.leads given before above led.1 took none,
)
