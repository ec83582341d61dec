use Rattle.std.proofs.Common.{◌≤◌, ◌<◌, arith}
use Rattle.line21_shown.proofs.laws.a_cue_is_up_from_its_show_to_its_hide.Goals as goal

pub returns-clause-before : goal.returns-clause-before
returns-clause-before c up = let shown : 15 ≤ 14 = up.0 in omega arith

pub returns-clause-from : goal.returns-clause-from
returns-clause-from c = (omega arith, omega arith)

pub returns-clause-to : goal.returns-clause-to
returns-clause-to c = (omega arith, omega arith)

pub returns-clause-behind : goal.returns-clause-behind
returns-clause-behind c up = let hidden : 17 < 17 = up.1 in omega arith
