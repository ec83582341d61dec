use Rattle.std.proofs.Common.{◌++◌, take}
use Rattle.csv.specs.Records.{fields_of}
use Rattle.cue_records.proofs.ReaderLemmas.{cut_more}
use Rattle.cue_records.proofs.record_reader.RecordReader.feed.Goals as goal

pub returns : goal.returns
returns c before rows cut =
    let gathered = rw c.in-Some.is at (c.in_ok-used.ensures cut.begun cut.is_open) in
    let held = cut.begun ++ take c.in-Some.used c.args.bytes.now in (
      gathered.0,
      gathered.1,
      cut_more before (take c.in-Some.used c.args.bytes.now) cut.begun rows (fields_of c.give.new.row) c.in_ok-give.field-0 c.give.new.self cut.follows gathered.3
          (c.in_ok-give.ensures.read held gathered.2) (c.in_ok-give.ensures.begun held gathered.2),
    )
