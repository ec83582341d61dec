-- What is due is what the list so far and the records of the bytes that are left come to.
use Rattle.std.proofs.Common.{◌≡◌, ◌+◌, ◌-◌, ℕ, List, Some, length}
use Rattle.csv.specs.Reading.{Ready, default_config, records_from, source_of, strip_bom}
use Rattle.csv.specs.declared.reader.Trim.TheVariants as trim
use Rattle.cue_form.specs.Begun.{IsBegun}
use Rattle.cue_form.specs.Reading.{read_from, read_list}
use Rattle.cue_form.proofs.Rows.{Enough}
use Rattle.cue_form.proofs.reading.parse.Given as goal

abbrev pub invariant-rows : goal.invariant-rows
invariant-rows l = (l.reader.trim ≡ trim.None) × Ready l.reader × (l.reader.config ≡ default_config)
    × (y : List ℕ) × (n : ℕ) × (source_of (λ s. Some s.now) l.reader ≡ Some y) × Enough n l.reader.state y
    × (l.record_number + n ≡ length (strip_bom l.fn.bytes) + 2)
    × (read_list l.fn.bytes ≡ read_from l.draft l.record_number (records_from default_config n l.reader.state y))
    × IsBegun l.draft

-- a record more, of which there are fewer than bytes
abbrev pub decreases-rows : goal.decreases-rows
decreases-rows l = length (strip_bom l.fn.bytes) + 2 - l.record_number
