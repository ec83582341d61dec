-- Believed in part: the program's answer stands on some of these definitions.
-- How a cue list is written: its records as CSV (RFC 4180, as the crate csv writes it), each with a line feed after it, the
-- shares in ascending order of their services.
use Rattle.std.specs.Prelude.{◌≡◌, ℕ, true, false, List, [], ◌∷◌, ◌++◌, flat_map, option_map, option_to_list}
use Rattle.csv.specs.Writing.{default_writer, fields_written, has_written, row_text, with_flexible, writer_pending, writer_setup, writer_under}
use Rattle.csv.specs.declared.writer.Writer.{Writer}
use Rattle.csv.specs.declared.writer.WriterBuilder.{WriterBuilder}
use Rattle.cue_types.specs.Listing.{Listing, share_of}
use Rattle.cue_form.specs.Records.{Record}
use Rattle.cue_form.specs.Spelling.{list_records}
use Rattle.cue_types.specs.declared.head.Version.TheVariants as version
use Rattle.cue_types.specs.declared.list.Share.{Share}

-- csv's defaults, for records of differing lengths
abbrev pub flexible_writer : WriterBuilder
flexible_writer = with_flexible default_writer true

-- the bytes of records
abbrev pub record_bytes : List Record → List ℕ
record_bytes records = flat_map (row_text flexible_writer) records

-- the share of a service, if the list has one
abbrev pub share_list : Listing → ℕ → List Share
share_list l service = option_to_list (option_map (λ bytes. record { service = service; bytes = bytes }) (share_of l service))

-- the list with its shares in ascending order of their services
abbrev pub in_order : Listing → Listing
in_order l = record l { shares = flat_map (share_list l) (1 ∷ 2 ∷ 3 ∷ 4 ∷ 5 ∷ 6 ∷ []) }

-- the bytes of a cue list, which is always written in version 2
abbrev pub list_bytes : Listing → List ℕ
list_bytes l = record_bytes (list_records version.Two (in_order l))

-- a writer between two records
pub record IsBetweenRecords {W : Type 0} (writer : Writer W) : Type 0 where
  pub setup : writer_setup writer ≡ flexible_writer
  pub fields : fields_written writer ≡ 0
  pub begun : has_written writer ≡ false

-- the bytes that a writer was given, where `items` are the bytes of the writer underneath
abbrev pub bytes_given : {W : Type 0} → (W → List ℕ) → Writer W → List ℕ
bytes_given items writer = items (writer_under writer) ++ writer_pending writer

-- the writer wrote these records, and stands between two
pub record Wrote {W : Type 0} (items : W → List ℕ) (old new : Writer W) (records : List Record) : Type 0 where
  pub between : IsBetweenRecords new
  pub bytes : bytes_given items new ≡ bytes_given items old ++ record_bytes records
