use Rattle.std.proofs.Common.{arith}
use Rattle.lanes.proofs.SpendingLemmas.{granted_and_left}
use Rattle.lanes.proofs.budget_laws.law_of_spends.Goals as goal

pub returns : goal.returns
returns c = record {
  left = λ pieces. granted_and_left 125 pieces;
  held = λ pieces. omega (arith, granted_and_left 125 pieces);
  most = λ pieces. omega (arith, granted_and_left 125 pieces);
}
