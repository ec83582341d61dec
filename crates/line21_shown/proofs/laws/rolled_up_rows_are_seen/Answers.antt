use Rattle.std.proofs.Common.{refl}
use Rattle.std.specs.Int.Count.{ones}
use Rattle.line21_codes.specs.BasicCharacters.{basic_of}
use Rattle.line21_codes.specs.ControlPairs.{is_control}
use Rattle.line21_codes.specs.Reading.{code_of}
use Rattle.line21_codes.specs.Repeats.{is_ignored, number_behind}
use Rattle.line21_codes.specs.Spellings.{spelling_of}
use Rattle.line21_codes.specs.Writing.{pair_of_code}
use Rattle.line21_screen.specs.Meaning.{after}
use Rattle.line21_shown.proofs.laws.rolled_up_rows_are_seen.Goals as goal

pub returns-clause-sent : goal.returns-clause-sent
unfolding ones spelling_of pair_of_code
returns-clause-sent c = refl

pub returns-clause-one : goal.returns-clause-one
unfolding after basic_of code_of is_control is_ignored number_behind ones
returns-clause-one c = record { authored = refl; displayed = refl }

pub returns-clause-two : goal.returns-clause-two
unfolding after basic_of code_of is_control is_ignored number_behind ones
returns-clause-two c = record { authored = refl; displayed = refl }

pub returns-clause-three : goal.returns-clause-three
unfolding after basic_of code_of is_control is_ignored number_behind ones
returns-clause-three c = record { authored = refl; displayed = refl }

pub returns-clause-behind : goal.returns-clause-behind
unfolding after basic_of code_of is_control is_ignored number_behind ones
returns-clause-behind c = record { authored = refl; displayed = refl }
