use Rattle.std.proofs.Common.{◌∙◌, ◌++◌, sym, take}
use Rattle.caption_streams.proofs.verifying.Verifying.feed.Goals as goal

pub returns-in-Ok-clause-verified : goal.returns-in-Ok-clause-verified
returns-in-Ok-clause-verified c = λ before had.
    (sym c.finding.ensures ∙ c.in_default.is, record { feeds = c.in-Ok.ensures.feeds before had; verified = c.in-Ok.ensures.verified before had })

pub returns-in-Err-clause-verified : goal.returns-in-Err-clause-verified
returns-in-Err-clause-verified c = λ before had.
    (sym c.finding.ensures ∙ c.in_default.is, record { feeds = c.in-Err.ensures.feeds before had; verified = c.in-Err.ensures.verified before had })

pub returns-in-Ok-clause-on : goal.returns-in-Ok-clause-on
returns-in-Ok-clause-on c =
    (c.requires.0 ++ take c.in-Ok.fed.used c.args.bytes.now, c.in-Ok.ensures.verified c.requires.0 c.requires.1)

pub returns-in-Err-clause-on : goal.returns-in-Err-clause-on
returns-in-Err-clause-on c = (c.requires.0 ++ c.args.bytes.now, c.in-Err.ensures.verified c.requires.0 c.requires.1)
