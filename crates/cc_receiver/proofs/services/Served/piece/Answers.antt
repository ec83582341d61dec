use Rattle.std.proofs.Common.{◌∙◌, ◌++◌, ap, sym}
use Rattle.cc_base.specs.Steps.{step_parts}
use Rattle.cc_base.specs.Syntax.{open_behind}
use Rattle.service_blocks.specs.Reading.{block_syntax, judge_part}
use Rattle.services_files.specs.Events.{event_of}
use Rattle.cc_receiver.proofs.ServingLemmas.{leads_one, leads_two}
use Rattle.cc_receiver.proofs.services.Served.piece.Goals as goal

pub returns-in-One-clause-leads : goal.returns-in-One-clause-leads
returns-in-One-clause-leads c = λ pieces earlier last read leads.
    leads_one earlier last (step_parts (judge_part (open_behind block_syntax pieces) c.args.piece)) c.in-One.part c.give.new.services
    (sym (ap step_parts (c.step.ensures.says pieces read)) ∙ ap step_parts c.in-One.is) (c.give.ensures.leads earlier last leads)

pub returns-in-Two-clause-leads : goal.returns-in-Two-clause-leads
returns-in-Two-clause-leads c = λ pieces earlier last read leads.
    leads_two earlier last (step_parts (judge_part (open_behind block_syntax pieces) c.args.piece)) c.in-Two.first c.in-Two.second c.give-in-Two-2.new.services
    (sym (ap step_parts (c.step.ensures.says pieces read)) ∙ ap step_parts c.in-Two.is)
    (c.give-in-Two-2.ensures.leads earlier (λ service. last service ++ event_of service c.in-Two.first) (c.give-in-Two.ensures.leads earlier last leads))
