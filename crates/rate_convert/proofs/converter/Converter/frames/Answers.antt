use Rattle.rate_convert.proofs.converter.Converter.frames.Goals as goal

pub returns-clause-frames : goal.returns-clause-frames
returns-clause-frames c = λ bytes frames had are. c.frames.ensures.frames bytes frames had.received are
