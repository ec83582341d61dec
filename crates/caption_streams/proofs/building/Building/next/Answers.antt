use Rattle.std.proofs.Common.{ℕ, List, subst, sym}
use Rattle.caption_streams.specs.Builders.{HasCarried, frame_in}
use Rattle.caption_streams.proofs.building.Building.next.Goals as goal

pub returns-in-Some-clause-next : goal.returns-in-Some-clause-next
returns-in-Some-clause-next c list placed frame is =
    let bytes = frame_in c.args.form list placed frame in
    c.give.ensures list placed frame bytes is
    (subst (λ (given : List ℕ). HasCarried list placed frame bytes c.args.self.now given c.in-Some.carrier) (sym c.deref.ensures.0) (c.in-Some.ensures.next list placed frame is))
