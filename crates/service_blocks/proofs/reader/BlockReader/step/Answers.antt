use Rattle.service_blocks.proofs.reader.BlockReader.step.Goals as goal

pub returns-clause-says : goal.returns-clause-says
returns-clause-says c = c.step.ensures.says tt

pub returns-clause-leads : goal.returns-clause-leads
returns-clause-leads c = c.step.ensures.leads tt

pub returns-clause-refused : goal.returns-clause-refused
returns-clause-refused c = c.step.ensures.refused tt
