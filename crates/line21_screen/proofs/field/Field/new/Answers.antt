use Rattle.line21_codes.specs.Channels.{numbered_field}
use Rattle.line21_screen.specs.Objects.{channel_of}
use Rattle.line21_screen.proofs.MeaningLemmas.{after-none}
use Rattle.line21_screen.proofs.field.Field.new.Goals as goal

pub returns : goal.returns
returns c = record {
  of_field = c.from_second.ensures;
  state = after-none (numbered_field c.args.second_field) (channel_of c.in_ok-new.field-0) (channel_of c.in_ok-new-2.field-0) c.in_ok-new.ensures c.in_ok-new-2.ensures;
  repeats = c.new-3.ensures;
}
