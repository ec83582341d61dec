use Rattle.windows_shown.proofs.ExampleLemmas.{list_formed, list_ruled, units_placed}
use Rattle.windows_shown.proofs.laws.windows_with_a_delay_are_placed.Goals as goal

pub returns : goal.returns
returns c = record { formed = list_formed; ruled = list_ruled; placed = units_placed }
