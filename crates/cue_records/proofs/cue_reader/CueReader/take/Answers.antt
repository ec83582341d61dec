use Rattle.csv.specs.Records.{fields_of}
use Rattle.cue_records.proofs.CueReaderLemmas.{goes_faulty, goes_on, of_cue_more, stays_faulty}
use Rattle.cue_records.proofs.cue_reader.CueReader.take.Goals as goal

pub returns-in-Err : goal.returns-in-Err
returns-in-Err c head number records has at = record {
  of_cue = of_cue_more records (fields_of c.args.row.now) has.of_cue c.requires;
  begun = rw c.in-Err.is (stays_faulty head number records (fields_of c.args.row.now) c.in-Err.field-0 (rw c.in-Err.is at has.begun));
}

pub returns-in_default : goal.returns-in_default
returns-in_default c head number records has at = record {
  of_cue = of_cue_more records (fields_of c.args.row.now) has.of_cue c.requires;
  begun = goes_on head number records (fields_of c.args.row.now) c.in-Ok.draft c.take-taken.new.self (rw c.in-Ok.is at has.begun) c.requires c.in_default.ensures;
}

pub returns-in-Err-taken : goal.returns-in-Err-taken
returns-in-Err-taken c head number records has next = record {
  of_cue = of_cue_more records (fields_of c.args.row.now) has.of_cue c.requires;
  begun = goes_faulty head number records (fields_of c.args.row.now) c.in-Ok.draft c.in-Err-taken.offence c.in_record.result (rw c.in-Ok.is at has.begun) c.requires
      c.in-Err-taken.ensures (rw next at c.in_record.ensures);
}
