use Rattle.std.proofs.Common.{sym, subst}
use Rattle.dtvcc_author.specs.Latest.{IsLatestAt}
use Rattle.lanes.proofs.FrontLemmas.{front_first}
use Rattle.lanes.proofs.service_front.Front.start.Goals as goal

pub returns-clause-front : goal.returns-clause-front
returns-clause-front c =
    let cs = c.args.captions.now in
    let kept = c.requires.kept in
    let at : IsLatestAt cs 0 c.start.result = c.start.ensures cs in
    front_first kept.0 kept.1.0 c.args.share cs c.open.new.self kept.1.1 c.open.ensures.frame
    (subst (λ l. IsLatestAt cs 0 l) (sym c.open.ensures.latest) at) (c.open.ensures.room at) (c.open.ensures.budget at)
