use Rattle.std.proofs.Common.{refl}
use Rattle.dtvcc_codes.specs.CharacterSpellings.{dtvcc_spelling}
use Rattle.dtvcc_codes.specs.Reading.{spelled_command, told_size}
use Rattle.dtvcc_codes.specs.Writing.{bytes_of_command}
use Rattle.windows_shown.proofs.laws.windows_with_a_delay_are_seen.Goals as goal

pub returns : goal.returns
unfolding spelled_command dtvcc_spelling told_size bytes_of_command
returns c = record { shows = refl; delays = refl; first = refl; delayed = refl; meanwhile = refl; letter = refl }
