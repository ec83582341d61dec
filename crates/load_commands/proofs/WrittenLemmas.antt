-- What is written of the list of a load is within the limit of a list's bytes: no record has more than 15 fields, and no field more
-- than 80 bytes.
use Rattle.std.proofs.Common.{◌≡◌, ℕ, zero, suc, ◌+◌, ◌*◌, ◌<◌, ◌≤◌, ◌%◌, ◌==◌, Bool, true, false, if◌then◌else◌, List, [], ◌∷◌, ◌++◌, length, map, Some, codes, decimal, encode_utf8_all, refl, ap, arith, length-append}
use Rattle.std.specs.Prelude.{flat_map}
use Rattle.std.specs.List.{AllByRecursion, range_with_len}
use Rattle.std.proofs.lemmas.Fmt.{length-decimal-le}
use Rattle.std.proofs.lemmas.Grind.{flat_map-append}
use Rattle.std.proofs.lemmas.Str.{encodes-IsAscii}
use Rattle.std.proofs.lemmas.Str.Ascii.{IsAscii-from_all}
use Rattle.csv.specs.Writing.{by_style, escaped, field_text, fields_text, is_blank, needs_quotes, row_body, row_text}
use Rattle.csv.specs.declared.writer.QuoteStyle.TheVariants.{Necessary}
use Rattle.cue_types.specs.declared.head.Version.TheVariants.{Two}
use Rattle.cc_base.specs.Streams.{whole_limit}
use Rattle.cue_form.specs.Records.{Field, Record}
use Rattle.cue_form.specs.Spelling.{cue_records}
use Rattle.cue_form.specs.Printing.{flexible_writer, list_bytes, record_bytes}
use Rattle.cue_form.proofs.PrintedFacts.{records_of-bytes}
use Rattle.load_commands.specs.LoadLaws.{IsListWritten}
use Rattle.load_commands.proofs.LetterLemmas.{letter}
use Rattle.load_commands.specs.LoadList.{load_cue, load_list, load_text, most_load}
use Rattle.load_commands.proofs.FormedLemmas.{list_formed, load_kind, load_run, of_letters}

-- a field in quotes has each byte twice, at most, and the quotes
escaped_most : (field : Field) → length (escaped flexible_writer field) ≤ 2 * length field
unfolding escaped
escaped_most [] = omega arith
escaped_most (b ∷ rest) = at (b == 34) (escaped_most rest)
  where
    at : (quote : Bool) → length (escaped flexible_writer rest) ≤ 2 * length rest
        → length (if quote then 34 ∷ b ∷ escaped flexible_writer rest else b ∷ escaped flexible_writer rest) ≤ 2 * suc (length rest)
    at true most = omega arith
    at false most = omega arith

field_most : (field : Field) → length (field_text flexible_writer field) ≤ 2 * length field + 2
field_most field = at (needs_quotes flexible_writer field)
  where
    at : (quotes : Bool) → length (if by_style Necessary quotes then 34 ∷ (escaped flexible_writer field ++ (34 ∷ [])) else field) ≤ 2 * length field + 2
    at true =
        let most = escaped_most field in
        let both = length-append (escaped flexible_writer field) (34 ∷ []) in
        omega (arith, most, both)
    at false = omega arith

-- fields of at most 80 bytes
abbrev AreShort : List Field → Type 0
AreShort fields = AllByRecursion (λ (field : Field). length field ≤ 80) fields

fields_most : (fields : List Field) → AreShort fields → length (fields_text flexible_writer fields) ≤ 163 * length fields
unfolding fields_text
fields_most [] short = omega arith
fields_most (field ∷ rest) short =
    let here = field_most field in
    let more = fields_most rest short.1 in
    let both = length-append (field_text flexible_writer field) (fields_text flexible_writer rest) in
    omega (arith, short.0, here, more, both)

-- a record of at most 15 such fields
record IsShortRecord (record_ : Record) : Type 0 where
  short : AreShort record_
  few : length record_ ≤ 15

body_most : (record_ : Record) → IsShortRecord record_ → length (row_body flexible_writer record_) ≤ 2445
body_most [] is = omega arith
body_most (field ∷ rest) is =
    let short = is.short in
    let few = is.few in
    let here = field_most field in
    let more = fields_most rest short.1 in
    let both = length-append (field_text flexible_writer field) (fields_text flexible_writer rest) in
    omega (arith, short.0, few, here, more, both)

record_most : (record_ : Record) → IsShortRecord record_ → length (row_text flexible_writer record_) ≤ 2450
record_most record_ is = at (is_blank flexible_writer record_)
  where
    at : (blank : Bool) → length (row_body flexible_writer record_ ++ ((if blank then 34 ∷ 34 ∷ [] else []) ++ 10 ∷ [])) ≤ 2450
    at true =
        let most = body_most record_ is in
        let both = length-append (row_body flexible_writer record_) (34 ∷ 34 ∷ 10 ∷ []) in
        omega (arith, most, both)
    at false =
        let most = body_most record_ is in
        let both = length-append (row_body flexible_writer record_) (10 ∷ []) in
        omega (arith, most, both)

records_most : (records : List Record) → AllByRecursion IsShortRecord records → length (record_bytes records) ≤ 2450 * length records
records_most [] short = omega arith
records_most (record_ ∷ rest) short =
    let here = record_most record_ short.0 in
    let more = records_most rest short.1 in
    let both = length-append (row_text flexible_writer record_) (record_bytes rest) in
    omega (arith, here, more, both)

-- the digits of a number below 10,000,000,000
digits : (n : ℕ) → n < 10000000000 → length (decimal n) ≤ 80
digits n below = let few = length-decimal-le 10 n (omega arith) below (omega arith) in omega (arith, few)

letter_ascii : (n : ℕ) → letter n < 128
letter_ascii n = omega arith

text_short : (k : ℕ) → length (encode_utf8_all (load_text k)) ≤ 80
text_short k =
    let same = ap length (encodes-IsAscii (load_text k) (IsAscii-from_all (load_text k) (of_letters (λ b. b < 128) letter_ascii k))) in
    omega (arith, same)

-- a caption and its run
abbrev turn_records : ℕ → ℕ → List Record
turn_records k turn =
    cue_records (record { load = 90 * k; show = 90 * k + 60; hide = Some (90 * k + 150); kind = load_kind k turn; runs = load_run k turn ∷ [] })

-- its run's record, where its row and column have these numbers, and its pen this word
run_short : (row col k : ℕ) (pen : Field) → row < 100 → col < 100 → length pen ≤ 80
    → IsShortRecord (codes "run" ∷ decimal row ∷ decimal col ∷ pen ∷ encode_utf8_all (load_text k) ∷ [])
run_short row col k pen few_rows few_cols word = record {
  short = (omega arith, (digits row (omega arith), (digits col (omega arith), (word, (text_short k, tt)))));
  few = omega arith;
}

-- a line 21 caption's own, with this kind and channel
cue_short : (k : ℕ) (kind channel : Field) → k < most_load → length kind ≤ 80 → length channel ≤ 80
    → IsShortRecord (kind ∷ channel ∷ decimal (90 * k) ∷ decimal (90 * k + 60) ∷ decimal (90 * k + 150) ∷ [])
cue_short k kind channel below one two = record {
  short = (one, (two, (digits (90 * k) (omega arith), (digits (90 * k + 60) (omega arith), (digits (90 * k + 150) (omega arith), tt)))));
  few = omega arith;
}

turn_short : (k turn : ℕ) → k < most_load → AllByRecursion IsShortRecord (turn_records k turn)
turn_short k zero below = (cue_short k _ _ below (omega arith) (omega arith), (run_short 14 4 k _ (omega arith) (omega arith) (omega arith), tt))
turn_short k (suc zero) below = (window_short, (run_short 0 0 k _ (omega arith) (omega arith) (omega arith), tt))
  where
    last : AreShort (decimal 10 ∷ decimal 0 ∷ decimal 60 ∷ decimal 50 ∷ decimal 2 ∷ decimal 32 ∷ decimal 0 ∷ decimal 1 ∷ decimal 1 ∷ [])
    last = (digits 10 (omega arith), (digits 0 (omega arith), (digits 60 (omega arith), (digits 50 (omega arith), (digits 2 (omega arith), (digits 32 (omega arith), (digits 0 (omega arith), (digits 1 (omega arith), (digits 1 (omega arith), tt)))))))))

    window_short : IsShortRecord (codes "win" ∷ decimal 1 ∷ decimal (k % 8) ∷ decimal (90 * k) ∷ decimal (90 * k + 60) ∷ decimal (90 * k + 150)
        ∷ decimal 10 ∷ decimal 0 ∷ decimal 60 ∷ decimal 50 ∷ decimal 2 ∷ decimal 32 ∷ decimal 0 ∷ decimal 1 ∷ decimal 1 ∷ [])
    window_short = record {
      short = (omega arith, (digits 1 (omega arith), (digits (k % 8) (omega arith), (digits (90 * k) (omega arith), (digits (90 * k + 60) (omega arith), (digits (90 * k + 150) (omega arith), last))))));
      few = omega arith;
    }
turn_short k (suc (suc turn)) below = (cue_short k _ _ below (omega arith) (omega arith), (run_short 15 8 k _ (omega arith) (omega arith) (omega arith), tt))

turn_count : (k turn : ℕ) → length (turn_records k turn) ≡ 2
turn_count k zero = refl
turn_count k (suc zero) = refl
turn_count k (suc (suc turn)) = refl

cues_most : (a n : ℕ) → a + n ≤ most_load → length (record_bytes (flat_map cue_records (map load_cue (range_with_len a n)))) ≤ 4900 * n
cues_most a zero within = omega arith
cues_most a (suc n) within =
    let rest = flat_map cue_records (map load_cue (range_with_len (a + 1) n)) in
    let here = records_most (cue_records (load_cue a)) (turn_short a (a % 3) (omega arith)) in
    let count = turn_count a (a % 3) in
    let more = cues_most (a + 1) n (omega arith) in
    let split = ap length (flat_map-append (row_text flexible_writer) (cue_records (load_cue a)) rest) in
    let both = length-append (record_bytes (cue_records (load_cue a))) (record_bytes rest) in
    omega (arith, here, count, more, split, both)

-- the head and the share
abbrev first_records : ℕ → List Record
first_records count =
    (codes "ccsuite" ∷ codes "2" ∷ codes "29.97" ∷ decimal (90 * count + 120) ∷ []) ∷ ((codes "share" ∷ decimal 1 ∷ decimal 31 ∷ []) ∷ [])

first_short : (count : ℕ) → count ≤ most_load → AllByRecursion IsShortRecord (first_records count)
first_short count most = (
  record { short = (omega arith, (omega arith, (omega arith, (digits (90 * count + 120) (omega arith), tt)))); few = omega arith },
  (record { short = (omega arith, (digits 1 (omega arith), (digits 31 (omega arith), tt))); few = omega arith }, tt),
)

bytes_most : (count : ℕ) → count ≤ most_load → length (list_bytes (load_list count)) ≤ whole_limit
bytes_most count most =
    let cues = flat_map cue_records (map load_cue (range_with_len 0 count)) in
    let first = records_most (first_records count) (first_short count most) in
    let rest = cues_most 0 count (omega arith) in
    let split = ap length (flat_map-append (row_text flexible_writer) (first_records count) cues) in
    let both = length-append (record_bytes (first_records count)) (record_bytes cues) in
    omega (arith, first, rest, split, both)

pub list_written : (count : ℕ) → 1 ≤ count → count ≤ most_load → IsListWritten (load_list count)
list_written count some most = record {
  within = bytes_most count most;
  spelled = record {
    version = Two;
    are = records_of-bytes Two (load_list count);
    formed = list_formed count some most;
    allowed = tt;
  };
}
