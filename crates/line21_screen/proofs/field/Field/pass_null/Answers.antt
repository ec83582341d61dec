use Rattle.std.proofs.Common.{◌≡◌, refl, sym, ◌∙◌}
use Rattle.line21_codes.specs.declared.codes.Code.TheVariants.{Null}
use Rattle.line21_codes.specs.Reading.{code_of}
use Rattle.line21_codes.specs.NullPairs.{null_pair}
use Rattle.line21_screen.proofs.LawLemmas.{null_does_nothing}
use Rattle.line21_screen.proofs.field.Field.pass_null.Goals as goal

null_code : code_of null_pair ≡ Null
unfolding code_of lib.Count.ones
null_code = refl

pub returns : goal.returns
returns c f before leads = record {
  of_field = leads.of_field;
  state = leads.state ∙ sym (null_does_nothing f before null_pair null_code);
  repeats = c.step-ignored.ensures.waits before leads.repeats;
}
