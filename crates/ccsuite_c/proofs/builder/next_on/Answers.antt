use Rattle.std.proofs.Common.{ap, Some, subst}
use Rattle.caption_streams.specs.declared.building.NextFrame.{NextFrame}
use Rattle.ccsuite_c.specs.Told.{TellsNext}
use Rattle.ccsuite_c.specs.declared.state.State.TheVariants as held
use Rattle.ccsuite_c.proofs.builder.next_on.Goals as goal

pub returns-clause-next : goal.returns-clause-next
returns-clause-next c = λ list placed frame is.
    record { answer = c.next.result; gives = c.next.ensures.next list placed frame is; tells = c.tell_next.ensures }

pub returns-clause-over : goal.returns-clause-over
returns-clause-over c = λ over.
    let is = c.next.ensures.over over in
    let told = subst (λ (answer : NextFrame). TellsNext answer c.tell_next.result c.tell_next.new.count) is.over c.tell_next.ensures in
    (told.0, record { untouched = is.untouched; nothing = told.1; still = ap (λ b. Some (held.Building b)) is.same })
