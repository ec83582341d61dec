use Rattle.std.proofs.Common.{refl}
use Rattle.std.specs.Int.Count.{ones}
use Rattle.line21_codes.specs.BasicCharacters.{basic_of}
use Rattle.line21_codes.specs.ControlPairs.{is_control}
use Rattle.line21_codes.specs.Reading.{code_of}
use Rattle.line21_codes.specs.Repeats.{is_ignored, number_behind}
use Rattle.line21_codes.specs.Spellings.{spelling_of}
use Rattle.line21_codes.specs.Writing.{pair_of_code}
use Rattle.line21_screen.specs.Meaning.{after}
use Rattle.line21_shown.proofs.laws.colours_are_seen_with_lead_cells.Goals as goal

pub returns-clause-sent : goal.returns-clause-sent
unfolding ones spelling_of pair_of_code
returns-clause-sent c = refl

pub returns-clause-before : goal.returns-clause-before
unfolding after basic_of code_of is_control is_ignored number_behind ones
returns-clause-before c = record { authored = refl; displayed = refl }

pub returns-clause-from : goal.returns-clause-from
unfolding after basic_of code_of is_control is_ignored number_behind ones
returns-clause-from c = record { authored = refl; displayed = refl }

pub returns-clause-to : goal.returns-clause-to
unfolding after basic_of code_of is_control is_ignored number_behind ones
returns-clause-to c = record { authored = refl; displayed = refl }

pub returns-clause-behind : goal.returns-clause-behind
unfolding after basic_of code_of is_control is_ignored number_behind ones
returns-clause-behind c = record { authored = refl; displayed = refl }
