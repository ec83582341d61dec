use Rattle.std.proofs.Common.{refl}
use Rattle.std.specs.Int.Count.{ones}
use Rattle.line21_codes.specs.Reading.{code_of}
use Rattle.xds_packets.proofs.laws.examples_are_read.Goals as goal

pub returns-clause-alone : goal.returns-clause-alone
unfolding ones code_of
returns-clause-alone c = refl

pub returns-clause-around : goal.returns-clause-around
unfolding ones code_of
returns-clause-around c = refl
