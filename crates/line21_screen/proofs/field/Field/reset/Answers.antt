use Rattle.line21_screen.specs.Objects.{channel_of}
use Rattle.line21_screen.proofs.MeaningLemmas.{after-none}
use Rattle.line21_screen.proofs.field.Field.reset.Goals as goal

pub returns : goal.returns
returns c in_field before leads = record {
  of_field = leads.of_field;
  state = after-none in_field (channel_of c.reset.new.self) (channel_of c.reset-2.new.self) c.reset.ensures c.reset-2.ensures;
  repeats = c.new-self.ensures;
}
