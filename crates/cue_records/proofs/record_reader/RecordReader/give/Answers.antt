use Rattle.std.proofs.Common.{refl}
use Rattle.csv.specs.Records.{fields_of}
use Rattle.cue_records.specs.RecordEnds.{StaysOpen}
use Rattle.cue_records.proofs.ReaderLemmas.{after_line_feed}
use Rattle.cue_records.proofs.record_reader.RecordReader.give.Goals as goal

pub returns-clause-read : goal.returns-clause-read
returns-clause-read c begun is = after_line_feed _ begun c.in_ok-found.found (fields_of c.read_first.new.row) (rw c.as_slice.ensures.value is) c.in_ok-found.ensures

pub returns-clause-begun : goal.returns-clause-begun
unfolding StaysOpen
returns-clause-begun c begun is = record { held = rw is at c.truncate.ensures.items; state = refl }
