use Rattle.std.proofs.Common.{◌++◌, take}
use Rattle.caption_streams.proofs.receiving.Receiving.feed.Goals as goal

pub returns-in-Ok-clause-on : goal.returns-in-Ok-clause-on
returns-in-Ok-clause-on c =
    (c.requires.0 ++ take c.in-Ok.fed.used c.args.bytes.now, (c.in-Ok.ensures.feeds c.requires.0 c.requires.1).has)

pub returns-in-Err-clause-on : goal.returns-in-Err-clause-on
returns-in-Err-clause-on c = (c.requires.0 ++ c.args.bytes.now, (c.in-Err.ensures.feeds c.requires.0 c.requires.1).has)
