use Rattle.mcc_files.proofs.ReaderLemmas.{takes_on}
use Rattle.mcc_files.proofs.reader.MccReader.take.Goals as goal

pub returns : goal.returns
returns c before placed read = takes_on c.args.self.now c.step.new.self c.args.byte c.step.result before placed read c.step.ensures
