use Rattle.csv.specs.Records.{fields_of}
use Rattle.cue_records.proofs.ReaderLemmas.{ends_if_ok}
use Rattle.cue_records.proofs.record_reader.RecordReader.finish.Goals as goal

pub returns : goal.returns
returns c bytes rows cut = ends_if_ok bytes rows c.args.self (fields_of c.give.new.row) c.give.result cut (c.give.ensures.read cut.begun cut.is_open.held)
