use Rattle.std.proofs.Common.{[], List, Some, subst, ℕ}
use Rattle.command_base.specs.Ends.{ends}
use Rattle.command_base.specs.Realises.{RealisesLeaving}
use Rattle.help_commands.specs.TextVerdict.{TextVerdict}
use Rattle.help_commands.proofs.help.run_help.Goals as goal

pub returns : goal.returns
returns g c reads =
    subst (λ (text : List ℕ). RealisesLeaving (TextVerdict text) (ends (Some []) reads (g.O.Sink.written c.args.out.now) (g.O.Sink.faults c.args.out.now))
    (ends (Some []) reads (g.O.Sink.written c.put_text.new.out) (g.O.Sink.faults c.put_text.new.out)) c.put_text.result)
    c.text_of.ensures (c.put_text.ensures reads)
