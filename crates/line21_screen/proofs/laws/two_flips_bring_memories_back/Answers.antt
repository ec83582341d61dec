use Rattle.line21_screen.proofs.LawLemmas.{flips-displayed, flips-hidden}
use Rattle.line21_screen.proofs.laws.two_flips_bring_memories_back.Goals as goal

pub returns-clause-displayed : goal.returns-clause-displayed
returns-clause-displayed c = flips-displayed

pub returns-clause-hidden : goal.returns-clause-hidden
returns-clause-hidden c = flips-hidden
