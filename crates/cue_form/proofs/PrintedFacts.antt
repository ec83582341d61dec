-- The bytes of a printed list are read back as the records that spell it.
use Rattle.std.proofs.Common.{◌≡◌, ℕ, zero, suc, ◌+◌, ◌≤◌, List, [], ◌∷◌, ◌++◌, map, length, codes, Option, Some, None, Ok, refl, ap, ◌∙◌, arith, length-append}
use Rattle.std.specs.Prelude.{option_to_list}
use Rattle.std.specs.List.{flat_map}
use Rattle.std.proofs.lemmas.List.{map-append}
use Rattle.csv.specs.Machine.{next_record}
use Rattle.csv.specs.Reading.{default_config, records_from, strip_bom}
use Rattle.csv.specs.Writing.{default_writer, end_text, escaped, fields_text, is_blank, read_back, row_body, row_text}
use Rattle.csv.specs.declared.parser.State.TheVariants as st
use Rattle.csv.proofs.RoundTrip.{read-write, rows_text}
use Rattle.dtvcc_codes.specs.declared.pens.PenColors.{PenColors}
use Rattle.dtvcc_codes.specs.declared.windows.WinAttr.{WinAttr}
use Rattle.cue_types.specs.Listing.{IsFormed, Listing}
use Rattle.cue_form.specs.Printing.{flexible_writer, in_order, list_bytes, record_bytes}
use Rattle.cue_form.specs.Reading.{read_list, spelled_list}
use Rattle.cue_form.specs.Records.{Field, Record, records_of}
use Rattle.cue_form.specs.Spelling.{attribute_record, attribute_records, colour_record, cue_record, cue_records, list_records, run_record, run_records, share_record}
use Rattle.cue_types.specs.declared.cue.Cue.{Cue}
use Rattle.cue_types.specs.declared.cue.Kind.{Kind}
use Rattle.cue_types.specs.declared.cue.Kind.TheVariants as kind
use Rattle.cue_types.specs.declared.cue.Run.{Run}
use Rattle.cue_types.specs.declared.head.Version.{Version}
use Rattle.cue_types.specs.declared.head.Version.TheVariants as version
use Rattle.cue_types.specs.declared.list.Share.{Share}
use Rattle.cue_form.proofs.InOrder.{in_order_formed}
use Rattle.cue_form.proofs.Complete.{list_of-spelled}

-- whether records may differ in length doesn't change their bytes
escaped_same : (text : Field) → escaped flexible_writer text ≡ escaped default_writer text
unfolding escaped
escaped_same [] = refl
escaped_same (b ∷ bs) = rw (escaped_same bs) refl

fields_same : (fields : Record) → fields_text flexible_writer fields ≡ fields_text default_writer fields
unfolding fields_text
fields_same [] = refl
fields_same (f ∷ fs) = rw (escaped_same f, fields_same fs) refl

blank_same : (fields : Record) → is_blank flexible_writer fields ≡ is_blank default_writer fields
unfolding is_blank
blank_same [] = refl
blank_same (f ∷ []) = rw (escaped_same f) refl
blank_same (f ∷ g ∷ fs) = refl

row_same : (fields : Record) → row_text flexible_writer fields ≡ row_text default_writer fields
row_same [] = rw (blank_same []) refl
row_same (f ∷ fs) = rw (escaped_same f, fields_same fs, blank_same (f ∷ fs)) refl

rows_same : (rows : List Record) → record_bytes rows ≡ rows_text rows
unfolding rows_text
rows_same [] = refl
rows_same (row ∷ rows) = rw (row_same row, rows_same rows) refl

-- a record has a byte at least, the one that ends it
rows_long : (rows : List Record) → length rows ≤ length (rows_text rows)
unfolding rows_text
rows_long [] = omega arith
rows_long (row ∷ rows) =
    let more = rows_long rows in
    rw (length-append (row_text default_writer row) (rows_text rows), length-append (row_body default_writer row) _, length-append _ (end_text default_writer.terminator)) (omega (arith, more))

-- turns enough read all records
all_read : (rows : List Record) (n : ℕ) → length rows ≤ n → records_from default_config n st.StartRecord (rows_text rows) ≡ map read_back rows
unfolding records_from rows_text next_record
all_read [] zero enough = refl
all_read [] (suc n) enough = refl
all_read (row ∷ rows) zero enough = absurd (omega arith)
all_read (row ∷ rows) (suc n) enough = rw (read-write row (rows_text rows)) (ap (λ rs. read_back row ∷ rs) (all_read rows n (omega arith)))

-- a list's bytes begin with no byte order mark
no_mark : (fields : Record) (more : List ℕ) → strip_bom (row_text flexible_writer (codes "ccsuite" ∷ fields) ++ more) ≡ row_text flexible_writer (codes "ccsuite" ∷ fields) ++ more
unfolding strip_bom
no_mark fields more = refl

-- no record of a list is without a field
shares_kept : (shares : List Share) → map read_back (map share_record shares) ≡ map share_record shares
shares_kept [] = refl
shares_kept (share ∷ shares) = ap (λ rs. share_record share ∷ rs) (shares_kept shares)

run_kept : (run : Run) (colours : Option PenColors) → map read_back (run_record run ∷ map colour_record (option_to_list colours)) ≡ run_record run ∷ map colour_record (option_to_list colours)
run_kept run None = refl
run_kept run (Some colours) = refl

runs_kept : (runs : List Run) → map read_back (flat_map run_records runs) ≡ flat_map run_records runs
runs_kept [] = refl
runs_kept (run ∷ runs) =
    map-append read_back (run_records run) (flat_map run_records runs)
    ∙ ap (λ (rs : List Record). rs ++ map read_back (flat_map run_records runs)) (run_kept run run.colors)
    ∙ ap (λ (rs : List Record). run_records run ++ rs) (runs_kept runs)

cue_kept : (k : Kind) (cue : Cue) → read_back (cue_record k cue) ≡ cue_record k cue
cue_kept (kind.Pop channel) cue = refl
cue_kept (kind.Paint channel) cue = refl
cue_kept (kind.Roll channel rows) cue = refl
cue_kept (kind.Win window) cue = refl

own_kept : (attr : Option WinAttr) → map read_back (map attribute_record (option_to_list attr)) ≡ map attribute_record (option_to_list attr)
own_kept None = refl
own_kept (Some attributes) = refl

attributes_kept : (k : Kind) → map read_back (attribute_records k) ≡ attribute_records k
attributes_kept (kind.Pop channel) = refl
attributes_kept (kind.Paint channel) = refl
attributes_kept (kind.Roll channel rows) = refl
attributes_kept (kind.Win window) = own_kept window.attr

whole_cue_kept : (cue : Cue) → map read_back (cue_records cue) ≡ cue_records cue
whole_cue_kept cue =
    let rest : map read_back (attribute_records cue.kind ++ flat_map run_records cue.runs) ≡ attribute_records cue.kind ++ flat_map run_records cue.runs =
    map-append read_back (attribute_records cue.kind) (flat_map run_records cue.runs)
    ∙ ap (λ (rs : List Record). rs ++ map read_back (flat_map run_records cue.runs)) (attributes_kept cue.kind)
    ∙ ap (λ (rs : List Record). attribute_records cue.kind ++ rs) (runs_kept cue.runs) in
    ap (λ (r : Record). r ∷ map read_back (attribute_records cue.kind ++ flat_map run_records cue.runs)) (cue_kept cue.kind cue)
    ∙ ap (λ (rs : List Record). cue_record cue.kind cue ∷ rs) rest

cues_kept : (cues : List Cue) → map read_back (flat_map cue_records cues) ≡ flat_map cue_records cues
cues_kept [] = refl
cues_kept (cue ∷ cues) =
    map-append read_back (cue_records cue) (flat_map cue_records cues)
    ∙ ap (λ (rs : List Record). rs ++ map read_back (flat_map cue_records cues)) (whole_cue_kept cue)
    ∙ ap (λ (rs : List Record). cue_records cue ++ rs) (cues_kept cues)

list_kept : (v : Version) (l : Listing) → map read_back (list_records v l) ≡ list_records v l
list_kept v l = rw (map-append read_back (map share_record l.shares) (flat_map cue_records l.cues), shares_kept l.shares, cues_kept l.cues) refl

-- the bytes of a list are read back as its records
pub records_of-bytes : (v : Version) (l : Listing) → records_of (record_bytes (list_records v l)) ≡ list_records v l
records_of-bytes v l =
    let rows = list_records v l in
    let plain : strip_bom (record_bytes rows) ≡ rows_text rows = no_mark _ _ ∙ rows_same rows in
    let long = rows_long rows in
    rw plain (all_read rows (length (rows_text rows) + 1) (omega arith) ∙ list_kept v l)

-- a list with its shares in order is in form
pub read_list-list_bytes : (l : Listing) → IsFormed l → read_list (list_bytes l) ≡ Ok (in_order l)
read_list-list_bytes l formed =
    ap spelled_list (records_of-bytes version.Two (in_order l))
    ∙ list_of-spelled (list_records version.Two (in_order l)) (in_order l) (record { version = version.Two; are = refl; formed = in_order_formed l formed; allowed = tt })
