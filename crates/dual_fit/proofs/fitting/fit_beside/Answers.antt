use Rattle.dual_fit.proofs.TogetherLemmas.{fault_alike, fault_apart}
use Rattle.dual_fit.proofs.fitting.fit_beside.Goals as goal

pub fit_moved-requires : goal.fit_moved-requires
fit_moved-requires c = record {
  first = c.requires.first;
  second = c.requires.second;
  alike = fault_alike c.args.first.now c.args.second.now c.in-Err.fault c.in-Err.ensures c.in_default.not-Memory c.in_default.not-OtherList;
  apart = fault_apart c.args.first.now c.args.second.now c.in-Err.fault c.in-Err.ensures c.in_default.not-Memory;
  late = c.requires.late;
}
