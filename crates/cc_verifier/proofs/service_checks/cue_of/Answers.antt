use Rattle.std.proofs.Common.{arith}
use Rattle.cc_verifier.proofs.ServiceLemmas.{none_past_six}
use Rattle.cc_verifier.proofs.service_checks.cue_of.Goals as goal

pub returns-else-service-le-LAST_SERVICE-clause-authored : goal.returns-else-service-le-LAST_SERVICE-clause-authored
returns-else-service-le-LAST_SERVICE-clause-authored c =
    none_past_six c.args.service c.args.id c.args.frame c.args.cues.now (omega arith) c.requires.formed
