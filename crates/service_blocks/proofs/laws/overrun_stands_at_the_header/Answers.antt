use Rattle.cc_base.specs.declared.why.Why.TheVariants as why
use Rattle.service_blocks.proofs.ChannelLemmas.{overrun_refused, refused_part}
use Rattle.service_blocks.proofs.laws.overrun_stands_at_the_header.Goals as goal

pub returns-clause-refused : goal.returns-clause-refused
returns-clause-refused c = λ front item. (λ refused. (refused_part front item why.Overrun refused).0, overrun_refused front item)

pub returns-clause-only : goal.returns-clause-only
returns-clause-only c = λ front item reason refused. (refused_part front item reason refused).1
