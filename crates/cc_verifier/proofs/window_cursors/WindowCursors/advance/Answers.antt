use Rattle.std.proofs.Common.{◌≤◌, arith}
use Rattle.cc_verifier.proofs.WindowCursorLemmas.{all_same}
use Rattle.cc_verifier.proofs.window_cursors.WindowCursors.advance.Goals as goal

pub returns-then-frame-self-clause-same : goal.returns-then-frame-self-clause-same
returns-then-frame-self-clause-same c former turn next at told =
    let le : former ≤ c.args.frame = omega arith in
    all_same c.args.cues.now former c.args.frame c.args.self.now turn at le c.if-frame-self.true
