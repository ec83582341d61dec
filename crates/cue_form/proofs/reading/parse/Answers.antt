use Rattle.std.proofs.Common.{Bor, List, ℕ, ◌≤◌, ◌∙◌, ◌+◌, length, refl, inl, inr, Some, arith}
use Rattle.csv.specs.Reading.{default_config, strip_bom}
use Rattle.csv.specs.Records.{fields_of}
use Rattle.cue_form.specs.Answers.{Answers}
use Rattle.cue_form.specs.Reading.{read_list}
use Rattle.cue_form.specs.Records.{records_of}
use Rattle.cue_form.proofs.Faults.{answered_fault, refused, says_fault, says_spelled}
use Rattle.cue_form.proofs.Rows.{bom_shorter, read_end, read_row}
use Rattle.cue_form.proofs.Steps.{IsBegun-next, IsBegun-nothing}
use Rattle.cue_form.proofs.reading.parse.Goals as goal

pub rows-init : goal.rows-init
rows-init c =
    let fr = c.from_reader-reader.ensures in
    let e = c.has_headers.ensures in
    let f = c.flexible.ensures in
    rw c.new-draft.ensures (
      rw (f, e) at fr.trim ∙ c.new.ensures.trim,
      inr (inr (rw (f, e) at fr.has_headers, fr.headers)),
      rw (f, e) at fr.config ∙ c.new.ensures.config,
      strip_bom c.args.bytes.now,
      length (strip_bom c.args.bytes.now) + 1,
      fr.source,
      inl (omega arith),
      omega arith,
      rw fr.state refl,
      IsBegun-nothing,
    )

-- a record is read: the first of those that were left
pub overflow_add-record_number : goal.overflow_add-record_number
overflow_add-record_number c =
    let inv = c.rows.invariant in
    let fits : length (strip_bom c.args.bytes.now) ≤ length c.args.bytes.now = bom_shorter c.args.bytes.now in
    let read = rw c.in-Ok-true.field-0-test at (c.in-Ok-true.ensures.reads inv.0 inv.1) in
    let row = read_row (λ (s : Bor (List ℕ)). Some s.now) c.rows.reader c.read_byte_record.new.self (fields_of c.read_byte_record.new.row) default_config inv.4 inv.3 inv.2 inv.5 inv.6 read in
    omega (arith, inv.7, row.2, c.requires)

pub rows-smaller : goal.rows-smaller
rows-smaller c =
    let inv = c.rows.invariant in
    let read = rw c.in-Ok-true.field-0-test at (c.in-Ok-true.ensures.reads inv.0 inv.1) in
    let row = read_row (λ (s : Bor (List ℕ)). Some s.now) c.rows.reader c.read_byte_record.new.self (fields_of c.read_byte_record.new.row) default_config inv.4 inv.3 inv.2 inv.5 inv.6 read in
    omega (arith, inv.7, row.2)

pub rows-preserved : goal.rows-preserved
rows-preserved c =
    let inv = c.rows.invariant in
    let read = rw c.in-Ok-true.field-0-test at (c.in-Ok-true.ensures.reads inv.0 inv.1) in
    let row = read_row (λ (s : Bor (List ℕ)). Some s.now) c.rows.reader c.read_byte_record.new.self (fields_of c.read_byte_record.new.row) default_config inv.4 inv.3 inv.2 inv.5 inv.6 read in (
      read.3 ∙ inv.0,
      inl (c.in-Ok-true.ensures.ready inv.0),
      read.2 ∙ inv.2,
      row.1,
      row.0,
      row.3,
      row.4,
      omega (arith, inv.7, row.2),
      inv.8 ∙ (rw (row.5, c.in_default.ensures) refl),
      IsBegun-next c.rows.draft _ (fields_of c.read_byte_record.new.row) inv.9 c.in_default.ensures,
    )

pub returns-in-Err-take : goal.returns-in-Err-take
returns-in-Err-take c =
    let inv = c.rows.invariant in
    let read = rw c.in-Ok-true.field-0-test at (c.in-Ok-true.ensures.reads inv.0 inv.1) in
    let row = read_row (λ (s : Bor (List ℕ)). Some s.now) c.rows.reader c.read_byte_record.new.self (fields_of c.read_byte_record.new.row) default_config inv.4 inv.3 inv.2 inv.5 inv.6 read in
    let answer = refused (read_list c.args.bytes.now) c.rows.draft c.rows.record_number _ _ (fields_of c.read_byte_record.new.row) c.in-Err-take.offence c.in_record.result inv.8 row.5 c.in-Err-take.ensures c.in_record.ensures in
    record { answer = answer; spelled = tt; fault = answered_fault (records_of c.args.bytes.now) c.in_record.result answer }

-- none is read: none was left
pub returns-in-Ok-false : goal.returns-in-Ok-false
returns-in-Ok-false c =
    let inv = c.rows.invariant in
    let read = rw c.in-Ok-false.field-0-test at (c.in-Ok-false.ensures.reads inv.0 inv.1) in
    let none = read_end (λ (s : Bor (List ℕ)). Some s.now) c.rows.reader c.read_byte_record.new.self (fields_of c.read_byte_record.new.row) default_config inv.4 inv.3 inv.2 inv.5 read in
    let answer : Answers (read_list c.args.bytes.now) c.finish.result = rw (inv.8, none) c.finish.ensures in
    record {
      answer = answer;
      spelled = says_spelled (records_of c.args.bytes.now) c.finish.result answer;
      fault = says_fault (records_of c.args.bytes.now) c.finish.result answer;
    }
