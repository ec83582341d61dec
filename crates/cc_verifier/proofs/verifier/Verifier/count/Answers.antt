use Rattle.std.proofs.Common.{◌<◌, ◌≤◌, length, arith}
use Rattle.cc_verifier.proofs.VerifierLemmas.{file_is, found_none}
use Rattle.cc_verifier.proofs.verifier.Verifier.count.Goals as goal

pub returns-then-frames : goal.returns-then-frames
returns-then-frames c bytes frames had nothing file =
    let count = c.frames-frames.ensures.frames bytes had.frames had.received had.frames_are in
    let few : length had.frames < c.args.self.now.list.frames = let h = c.if-frames.true in let e = c.frames.ensures in omega arith in
    (had.frames, file_is bytes c.args.self.now had (frames, file), found_none bytes c.args.self.now had nothing, count, few)

pub returns-else-frames : goal.returns-else-frames
returns-else-frames c bytes frames had nothing file =
    let count = c.frames-frames.ensures.frames bytes had.frames had.received had.frames_are in
    let enough : c.args.self.now.list.frames ≤ length had.frames = let h = c.if-frames.false in let e = c.frames.ensures in omega arith in
    (had.frames, file_is bytes c.args.self.now had (frames, file), found_none bytes c.args.self.now had nothing, enough)
