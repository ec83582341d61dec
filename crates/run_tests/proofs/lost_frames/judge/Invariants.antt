use Rattle.std.proofs.Common.{ℕ, List}
use Rattle.cc_conceal.specs.Concealers.{HasConcealed}
use Rattle.run_tests.proofs.lost_frames.judge.Given as goal

abbrev pub invariant-loop-packet : goal.invariant-loop-packet
invariant-loop-packet l = (before : List ℕ) × HasConcealed before l.concealer
