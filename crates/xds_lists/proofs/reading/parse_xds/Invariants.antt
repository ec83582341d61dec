-- What is due is what the list so far and the records of the bytes that are left come to.
use Rattle.std.proofs.Common.{◌≡◌, ◌+◌, ◌-◌, ℕ, List, Some, length}
use Rattle.csv.specs.Reading.{Ready, default_config, records_from, source_of, strip_bom}
use Rattle.csv.specs.declared.reader.Trim.TheVariants as trim
use Rattle.cue_form.specs.Records.{records_of}
use Rattle.cue_form.proofs.Rows.{Enough}
use Rattle.xds_lists.specs.Reading.{read_from, read_packets}
use Rattle.xds_lists.proofs.reading.parse_xds.Given as goal

abbrev pub invariant-rows : goal.invariant-rows
invariant-rows l = (l.reader.trim ≡ trim.None) × Ready l.reader × (l.reader.config ≡ default_config)
    × (y : List ℕ) × (n : ℕ) × (source_of (λ s. Some s.now) l.reader ≡ Some y) × Enough n l.reader.state y
    × (l.record_number + n ≡ length (strip_bom l.fn.bytes) + 2)
    × (read_packets (records_of l.fn.bytes) ≡ read_from l.list l.record_number (records_from default_config n l.reader.state y))
    × (length l.list + 1 ≡ l.record_number)

-- a record more, of which there are fewer than bytes
abbrev pub decreases-rows : goal.decreases-rows
decreases-rows l = length (strip_bom l.fn.bytes) + 2 - l.record_number
