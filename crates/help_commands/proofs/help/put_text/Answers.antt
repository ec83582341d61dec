use Rattle.help_commands.proofs.VerdictLemmas.{text_done, text_failed}
use Rattle.help_commands.proofs.help.put_text.Goals as goal

pub returns-in-Done : goal.returns-in-Done
returns-in-Done g c reads = text_done c.args.text.now reads _ _ _ _ c.in-Done.ensures.bytes c.in-Done.ensures.cause

pub returns-in-Failed : goal.returns-in-Failed
returns-in-Failed g c reads = text_failed c.args.text.now reads _ _ _ _ c.in-Failed.ensures.bytes c.in-Failed.ensures.cause.1
