use Rattle.cc_conceal.proofs.TakeLemmas.{still_concealed}
use Rattle.run_tests.proofs.lost_frames.take.Goals as goal

pub returns-then-frames-lt4294967295 : goal.returns-then-frames-lt4294967295
returns-then-frames-lt4294967295 c =
    still_concealed c.requires.0 c.args.packet.now c.feed.new.self c.feed.result (c.feed.ensures.conceals c.requires.0 c.requires.1)
