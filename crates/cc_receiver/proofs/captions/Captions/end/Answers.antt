use Rattle.std.proofs.Common.{◌∙◌, subst, sym}
use Rattle.cc_receiver.specs.Gatherers.{HasGathered}
use Rattle.cc_receiver.proofs.KeepsLemmas.{frame_ends}
use Rattle.cc_receiver.proofs.captions.Captions.end.Goals as goal

pub returns-then-is_some : goal.returns-then-is_some
returns-then-is_some c = λ caught keeps fine.
    frame_ends caught c.args.self.now c.act.new.self keeps fine (sym c.is_some.ensures ∙ c.if-is_some.true)
    (λ parts took tried. c.act.ensures caught parts c.args.self.now.gathered c.args.self.now.last c.args.self.now.judging c.args.self.now.channel keeps
    (subst (λ said. HasGathered parts said) (sym c.swap.ensures.y_after) took) tried)
