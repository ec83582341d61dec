use Rattle.std.proofs.Common.{ap, refl, sym, ◌∙◌}
use Rattle.cc_base.specs.Feeding.{why_of}
use Rattle.cc_base.proofs.StepLemmas.{step_why-none}
use Rattle.cc_base.proofs.SyntaxLemmas.{HasTaken-more}
use Rattle.cc_base.proofs.machine.Fed.step.Goals as goal

pub returns-in_default-step-clause-leads : goal.returns-in_default-step-clause-leads
returns-in_default-step-clause-leads g c = λ given items has taken.
    HasTaken-more _ _ items c.args.item c.step-step.result c.args.self.now _ has (c.step-step.ensures.says given _ has.matches) taken
    (c.step-step.ensures.leads given _ has.matches taken) refl c.in_default.is

pub returns-in_default-step-clause-told : goal.returns-in_default-step-clause-told
returns-in_default-step-clause-told g c =
    step_why-none c.step-step.result c.in_default-step.not-Refuse ∙ sym (ap why_of c.in_default.is)

pub returns-in_default-step-clause-refused : goal.returns-in_default-step-clause-refused
returns-in_default-step-clause-refused g c = λ given items why has refused. absurd (c.in_default-step.not-Refuse why refused)
