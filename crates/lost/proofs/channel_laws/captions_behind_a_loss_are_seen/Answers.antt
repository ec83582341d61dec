use Rattle.std.proofs.Common.{[], ◌∷◌, refl, arith}
use Rattle.std.specs.Int.Count.{ones}
use Rattle.line21_codes.specs.BasicCharacters.{basic_of}
use Rattle.line21_codes.specs.ControlPairs.{is_control}
use Rattle.line21_codes.specs.Reading.{code_of}
use Rattle.line21_codes.specs.Repeats.{is_ignored, number_behind}
use Rattle.line21_codes.specs.Spellings.{spelling_of}
use Rattle.line21_codes.specs.Writing.{pair_of_code}
use Rattle.line21_screen.specs.Meaning.{after}
use Rattle.lost.specs.ChannelExamples.{letter_a}
use Rattle.lost.proofs.channel_laws.captions_behind_a_loss_are_seen.Goals as goal

pub returns-clause-sent : goal.returns-clause-sent
unfolding ones spelling_of pair_of_code
returns-clause-sent c = refl

pub returns-clause-cut : goal.returns-clause-cut
unfolding after basic_of code_of is_control is_ignored number_behind ones
returns-clause-cut c = refl

pub returns-clause-from : goal.returns-clause-from
unfolding after basic_of code_of is_control is_ignored number_behind ones
returns-clause-from c = record { authored = refl; displayed = refl }

pub returns-clause-to : goal.returns-clause-to
unfolding after basic_of code_of is_control is_ignored number_behind ones
returns-clause-to c = record { authored = refl; displayed = refl }

pub returns-clause-again : goal.returns-clause-again
returns-clause-again c = record { earlier = letter_a ∷ []; later = []; stands = refl; loaded = (omega arith, tt) }
