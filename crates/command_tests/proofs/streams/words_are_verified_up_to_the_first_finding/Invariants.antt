use Rattle.std.proofs.Common.{ℕ, List}
use Rattle.cc_verifier.specs.Verifiers.{HasVerified}
use Rattle.command_tests.proofs.streams.words_are_verified_up_to_the_first_finding.Given as goal

abbrev pub invariant-loop-frame : goal.invariant-loop-frame
invariant-loop-frame g l = ((before : List ℕ) × HasVerified before l.right.verifier) × ((before : List ℕ) × HasVerified before l.wrong.verifier)
