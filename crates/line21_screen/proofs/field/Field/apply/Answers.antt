use Rattle.std.proofs.Common.{◌∷◌, sym, ◌∙◌, subst}
use Rattle.line21_codes.specs.Repeats.{Waits}
use Rattle.line21_screen.specs.Objects.{field_of}
use Rattle.line21_screen.proofs.MeaningLemmas.{stepped, after-ignored}
use Rattle.line21_screen.proofs.field.Field.apply.Goals as goal

pub returns-then-not-step : goal.returns-then-not-step
returns-then-not-step c f before leads = record {
  of_field = c.act.ensures.of_field ∙ leads.of_field;
  state =
      stepped f c.args.self.now.in_field c.code.result before c.args.pair (field_of c.args.self.now) (field_of c.act.new.self)
      leads.of_field c.code.ensures.code leads.state (c.if-not-step.ensures.ignored before leads.repeats) c.act.ensures.state;
  repeats = subst (λ doubler. Waits (c.args.pair ∷ before) doubler) (sym c.act.ensures.repeats) (c.step.ensures.waits before leads.repeats);
}

pub returns-else-not-step : goal.returns-else-not-step
returns-else-not-step c f before leads = record {
  of_field = leads.of_field;
  state = leads.state ∙ sym (after-ignored f before c.args.pair (sym (c.if-not-step.ensures.ignored before leads.repeats)));
  repeats = c.step.ensures.waits before leads.repeats;
}
