use Rattle.load_commands.proofs.TakingLemmas.{new_taken}
use Rattle.load_commands.proofs.reception.Reception.new.Goals as goal

pub returns : goal.returns
returns c columns =
    new_taken c.args.rate columns c.new.result c.in_ok-new.field-0 c.in_ok-new-2.field-0 c.new.ensures c.in_ok-new.ensures c.in_ok-new-2.ensures.grids
    c.in_ok-new-2.ensures.windows
