use Rattle.std.proofs.Common.{arith, rules}
use Rattle.std.proofs.lemmas.Grind.{common_steps}
use Rattle.cc_base.proofs.Takes.{consumes_kept}
use Rattle.cc_base.proofs.whole.read_whole.Goals as goal

pub returns-in-End-clause-whole : goal.returns-in-End-clause-whole
returns-in-End-clause-whole g c = record {
  bytes = grind (arith, common_steps);
  taken = consumes_kept _ _ _ _ c.loop-whole.invariant.2 c.in-End.ensures.bytes.1;
  within = search rules;
}
