use Rattle.std.proofs.Common.{subst}
use Rattle.std.specs.Prelude.{Ok}
use Rattle.cc_verifier.specs.Verifiers.{JudgesFile, list_of}
use Rattle.cc_verifier.specs.declared.verifier.Verdict.{Verdict}
use Rattle.caption_streams.proofs.verifying.Verifying.verdict.Goals as goal

pub returns-in-Ok-Ok : goal.returns-in-Ok-Ok
returns-in-Ok-Ok c = λ bytes had.
    subst (λ (v : Verdict). JudgesFile (list_of c.args.self.now.verifier) bytes (Ok v)) c.in-Ok-Ok.field-0-is (c.in-Ok-Ok.ensures bytes had)

pub returns-in-Ok-Differs : goal.returns-in-Ok-Differs
returns-in-Ok-Differs c = λ bytes had.
    subst (λ (v : Verdict). JudgesFile (list_of c.args.self.now.verifier) bytes (Ok v)) c.in-Ok-Differs.field-0-is (c.in-Ok-Differs.ensures bytes had)

pub returns-in-Ok-Short : goal.returns-in-Ok-Short
returns-in-Ok-Short c = λ bytes had.
    subst (λ (v : Verdict). JudgesFile (list_of c.args.self.now.verifier) bytes (Ok v)) c.in-Ok-Short.field-0-is (c.in-Ok-Short.ensures bytes had)
