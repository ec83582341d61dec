use Rattle.csv.specs.Records.{fields_of}
use Rattle.cue_records.proofs.CueReaderLemmas.{begins, begins_faulty}
use Rattle.cue_records.proofs.cue_reader.CueReader.begin.Goals as goal

pub returns-in-Ok : goal.returns-in-Ok
returns-in-Ok c = record {
  of_cue = (c.requires.opens, tt);
  begun = begins c.args.head c.args.rec (fields_of c.args.row.now) c.take.new.self c.requires.head c.requires.opens (rw c.headed-draft.ensures at c.in-Ok.ensures);
}

pub returns-in-Err : goal.returns-in-Err
returns-in-Err c = record {
  of_cue = (c.requires.opens, tt);
  begun = begins_faulty c.args.head c.args.rec (fields_of c.args.row.now) c.in-Err.offence c.in_record.result c.requires.opens (rw c.headed-draft.ensures at c.in-Err.ensures) c.in_record.ensures;
}
