use Rattle.std.proofs.Common.{refl, ◌≡◌, Err, rules}
use Rattle.cc_verifier.proofs.VerifierLemmas.{found_is, found_none}
use Rattle.cc_verifier.proofs.verifier.Verifier.verdict.Goals as goal

pub returns-in-Some : goal.returns-in-Some
returns-in-Some c bytes had = (had.frames, had.frames_are, found_is bytes c.args.self.now had c.in-Some.finding c.in-Some.is)

pub returns : goal.returns
returns c bytes had =
    let (frames, file) = c.in_ok-finish.ensures.whole bytes had.received refl in
    c.count.ensures bytes frames had c.in_default.is file

pub returns-in_err-finish : goal.returns-in_err-finish
returns-in_err-finish c bytes had =
    let answer : c.from_residual.result ≡ Err c.in_err-finish.field-0.0 = search rules in
    rw answer (had.frames, had.frames_are, found_none bytes c.args.self.now had c.in_default.is, c.in_err-finish.ensures.malformed bytes had.received)
