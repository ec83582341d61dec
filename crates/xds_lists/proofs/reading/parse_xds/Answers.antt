use Rattle.std.proofs.Common.{◌≡◌, Bor, List, ℕ, ◌≤◌, ◌∙◌, ◌+◌, ◌++◌, ◌∷◌, [], length, length-append, refl, ap, inl, inr, Some, Ok, arith}
use Rattle.cc_base.specs.declared.why.Why.TheVariants as why
use Rattle.csv.specs.Reading.{default_config, strip_bom}
use Rattle.csv.specs.Records.{fields_of}
use Rattle.cue_form.specs.Records.{records_of}
use Rattle.cue_form.proofs.Rows.{bom_shorter, read_end, read_row}
use Rattle.xds_lists.specs.Reading.{read_from, read_packets}
use Rattle.xds_lists.specs.Seen.{listed_seen}
use Rattle.xds_lists.proofs.ReadLemmas.{fault_of_read, list_of_read, refused, taken}
use Rattle.xds_lists.proofs.reading.parse_xds.Goals as goal

pub rows-init : goal.rows-init
rows-init c =
    let fr = c.from_reader-reader.ensures in
    let e = c.has_headers.ensures in
    let f = c.flexible.ensures in
    rw c.new-list.ensures (
      rw (f, e) at fr.trim ∙ c.new.ensures.trim,
      inr (inr (rw (f, e) at fr.has_headers, fr.headers)),
      rw (f, e) at fr.config ∙ c.new.ensures.config,
      strip_bom c.args.bytes.now,
      length (strip_bom c.args.bytes.now) + 1,
      fr.source,
      inl (omega arith),
      omega arith,
      rw fr.state refl,
      refl,
    )

-- a record is read: the first of those that were left
pub overflow_add-record_number : goal.overflow_add-record_number
overflow_add-record_number c =
    let inv = c.rows.invariant in
    let fits : length (strip_bom c.args.bytes.now) ≤ length c.args.bytes.now = bom_shorter c.args.bytes.now in
    let read = rw c.in-Ok-true.field-0-test at (c.in-Ok-true.ensures.reads inv.0 inv.1) in
    let row = read_row (λ (s : Bor (List ℕ)). Some s.now) c.rows.reader c.read_byte_record.new.self (fields_of c.read_byte_record.new.row) default_config inv.4 inv.3 inv.2 inv.5 inv.6 read in
    omega (arith, inv.7, row.2, c.requires)

pub push-requires : goal.push-requires
push-requires c =
    let inv = c.rows.invariant in
    let fits : length (strip_bom c.args.bytes.now) ≤ length c.args.bytes.now = bom_shorter c.args.bytes.now in
    let read = rw c.in-Ok-true.field-0-test at (c.in-Ok-true.ensures.reads inv.0 inv.1) in
    let row = read_row (λ (s : Bor (List ℕ)). Some s.now) c.rows.reader c.read_byte_record.new.self (fields_of c.read_byte_record.new.row) default_config inv.4 inv.3 inv.2 inv.5 inv.6 read in
    omega (arith, inv.7, inv.9, row.2, c.requires)

pub rows-smaller : goal.rows-smaller
rows-smaller c =
    let inv = c.rows.invariant in
    let read = rw c.in-Ok-true.field-0-test at (c.in-Ok-true.ensures.reads inv.0 inv.1) in
    let row = read_row (λ (s : Bor (List ℕ)). Some s.now) c.rows.reader c.read_byte_record.new.self (fields_of c.read_byte_record.new.row) default_config inv.4 inv.3 inv.2 inv.5 inv.6 read in
    omega (arith, inv.7, row.2)

pub rows-preserved : goal.rows-preserved
rows-preserved c =
    let inv = c.rows.invariant in
    let read = rw c.in-Ok-true.field-0-test at (c.in-Ok-true.ensures.reads inv.0 inv.1) in
    let row = read_row (λ (s : Bor (List ℕ)). Some s.now) c.rows.reader c.read_byte_record.new.self (fields_of c.read_byte_record.new.row) default_config inv.4 inv.3 inv.2 inv.5 inv.6 read in
    let added : c.push.new.self ≡ c.rows.list ++ listed_seen c.in-Ok.listed ∷ [] = c.in_default.ensures in
    let more = length-append c.rows.list (listed_seen c.in-Ok.listed ∷ []) in (
      read.3 ∙ inv.0,
      inl (c.in-Ok-true.ensures.ready inv.0),
      read.2 ∙ inv.2,
      row.1,
      row.0,
      row.3,
      row.4,
      omega (arith, inv.7, row.2),
      taken (read_packets (records_of c.args.bytes.now)) c.rows.list c.push.new.self (listed_seen c.in-Ok.listed) c.rows.record_number (fields_of c.read_byte_record.new.row) _ _ inv.8 row.5 c.in-Ok.ensures added,
      omega (arith, ap length added, more, inv.9),
    )

pub returns-in-Err-read_listed : goal.returns-in-Err-read_listed
returns-in-Err-read_listed c =
    let inv = c.rows.invariant in
    let read = rw c.in-Ok-true.field-0-test at (c.in-Ok-true.ensures.reads inv.0 inv.1) in
    let row = read_row (λ (s : Bor (List ℕ)). Some s.now) c.rows.reader c.read_byte_record.new.self (fields_of c.read_byte_record.new.row) default_config inv.4 inv.3 inv.2 inv.5 inv.6 read in
    let answer = refused (read_packets (records_of c.args.bytes.now)) c.rows.list c.rows.record_number c.in-Err-read_listed.field (fields_of c.read_byte_record.new.row) _ _ inv.8 row.5 c.in-Err-read_listed.ensures in
    record { answer = answer; spelled = tt; fault = fault_of_read (records_of c.args.bytes.now) c.rows.record_number c.in-Err-read_listed.field why.Field answer }

-- none is read: none was left
pub returns-in-Ok-false : goal.returns-in-Ok-false
returns-in-Ok-false c =
    let inv = c.rows.invariant in
    let read = rw c.in-Ok-false.field-0-test at (c.in-Ok-false.ensures.reads inv.0 inv.1) in
    let none = read_end (λ (s : Bor (List ℕ)). Some s.now) c.rows.reader c.read_byte_record.new.self (fields_of c.read_byte_record.new.row) default_config inv.4 inv.3 inv.2 inv.5 read in
    let answer : read_packets (records_of c.args.bytes.now) ≡ Ok c.rows.list = inv.8 ∙ ap (read_from c.rows.list c.rows.record_number) none in
    record { answer = answer; spelled = list_of_read (records_of c.args.bytes.now) c.rows.list answer; fault = tt }
