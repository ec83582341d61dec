use Rattle.cc_receiver.proofs.FinishLemmas.{Finishes, finish_file, finish_malformed, finish_whole}
use Rattle.cc_receiver.proofs.receiver.Receiver.finish.Goals as goal

pub returns-clause-whole : goal.returns-clause-whole
returns-clause-whole c = λ bytes had ok.
    let finishes : Finishes bytes c.args.self.now c.finish.result = record {
      kept = c.finish.ensures.kept;
      whole = c.finish.ensures.whole bytes;
      file = c.finish.ensures.file bytes;
      cut = c.finish.ensures.cut bytes;
    } in
    finish_whole bytes c.args.self.now c.finish.result had finishes ok

pub returns-clause-file : goal.returns-clause-file
returns-clause-file c = λ bytes frames had is.
    let finishes : Finishes bytes c.args.self.now c.finish.result = record {
      kept = c.finish.ensures.kept;
      whole = c.finish.ensures.whole bytes;
      file = c.finish.ensures.file bytes;
      cut = c.finish.ensures.cut bytes;
    } in
    finish_file bytes frames c.args.self.now c.finish.result had finishes is

pub returns-clause-malformed : goal.returns-clause-malformed
returns-clause-malformed c = λ bytes had.
    let finishes : Finishes bytes c.args.self.now c.finish.result = record {
      kept = c.finish.ensures.kept;
      whole = c.finish.ensures.whole bytes;
      file = c.finish.ensures.file bytes;
      cut = c.finish.ensures.cut bytes;
    } in
    finish_malformed bytes c.args.self.now c.finish.result had finishes
