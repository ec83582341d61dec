use Rattle.rate_convert.proofs.converter.Converter.finish.Goals as goal

pub returns-clause-whole : goal.returns-clause-whole
returns-clause-whole c = λ bytes had. c.finish.ensures.whole bytes had.received

pub returns-clause-file : goal.returns-clause-file
returns-clause-file c = λ bytes frames had. c.finish.ensures.file bytes frames had.received

pub returns-clause-malformed : goal.returns-clause-malformed
returns-clause-malformed c = λ bytes had. c.finish.ensures.malformed bytes had.received
