use Rattle.dtvcc_services.proofs.PassLemmas.{nothing_ends}
use Rattle.dtvcc_services.proofs.passing.pass.Goals as goal

pub returns-then-clock-next : goal.returns-then-clock-next
returns-then-clock-next c = λ waits. nothing_ends c.args.clock c.args.next c.args.members.now waits c.if-clock-next.true
