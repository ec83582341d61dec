use Rattle.std.proofs.Common.{[], refl, take, arith}
use Rattle.std.specs.Int.Count.{ones}
use Rattle.line21_codes.specs.BasicCharacters.{basic_of}
use Rattle.line21_codes.specs.ControlPairs.{is_control}
use Rattle.line21_codes.specs.Reading.{code_of}
use Rattle.line21_codes.specs.Repeats.{is_ignored, number_behind}
use Rattle.line21_screen.specs.Meaning.{after}
use Rattle.line21_shown.specs.Examples.{rolling}
use Rattle.lost.proofs.channel_laws.rows_behind_a_loss_are_seen.Goals as goal

pub returns-clause-cut : goal.returns-clause-cut
unfolding after basic_of code_of is_control is_ignored number_behind ones
returns-clause-cut c = refl

pub returns-clause-from : goal.returns-clause-from
unfolding after basic_of code_of is_control is_ignored number_behind ones
returns-clause-from c = record { authored = refl; displayed = refl }

pub returns-clause-to : goal.returns-clause-to
unfolding after basic_of code_of is_control is_ignored number_behind ones
returns-clause-to c = record { authored = refl; displayed = refl }

pub returns-clause-again : goal.returns-clause-again
returns-clause-again c = record { earlier = take 2 rolling.cues; later = []; stands = refl; loaded = (omega arith, (omega arith, tt)) }
