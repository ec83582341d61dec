-- Believed in part: the program's answer stands on some of these definitions.
-- What `import` makes of its input: the words that carry the pairs of an SCC file, or why its bytes are refused.
use Rattle.std.specs.Prelude.{ℕ, ◌<◌, ◌≤◌, ◌==◌, if◌then◌else◌, List, [], ◌∷◌, length, Option, Some, option_map, Result}
use Rattle.cc_base.specs.Streams.{whole_limit}
use Rattle.cc_base.specs.declared.limit_of.LimitOf.TheVariants as limit
use Rattle.cc_base.specs.declared.rate.Rate.TheVariants as rate
use Rattle.line21_codes.specs.declared.pairs.Pair.{Pair}
use Rattle.line21_codes.specs.NullPairs.{null_pair}
use Rattle.frame_carrier.specs.Columns.{Columns}
use Rattle.frame_carrier.specs.Carried.{AreCarried}
use Rattle.frame_carrier.specs.Carrying.{column_bytes, column_packets}
use Rattle.cdp_packets.specs.Packets.{Frame}
use Rattle.scc_files.specs.Offences.{IsFirstOffence}
use Rattle.scc_files.specs.Reading.{frames_of}
use Rattle.scc_files.specs.SccFiles.{IsSccFile}
use Rattle.time_codes.specs.Frames.{frame_number}
use Rattle.time_codes.specs.declared.time_code.TimeCode.{TimeCode}
use Rattle.command_base.specs.MadeVerdict.{MadeVerdict}
use Rattle.command_base.specs.WholeInput.{ReadsInput}
use Rattle.command_base.specs.declared.status.Place.TheVariants.{Byte}
use Rattle.command_base.specs.declared.status.Status.{Status}
use Rattle.command_base.specs.declared.status.Status.TheVariants as status

-- pairs at their frames
abbrev pub PlacedPairs : Type 0
PlacedPairs = List (ℕ × Pair)

-- the pair that stands at a frame, and the null pair where none stands there
abbrev pub pair_at : PlacedPairs → ℕ → Pair
pair_at [] frame = null_pair
pair_at (placed ∷ pairs) frame = if placed.0 == frame then placed.1 else pair_at pairs frame

-- what each frame carries: the pair at the frame in field 1, and the null pair in field 2
abbrev pub import_columns : PlacedPairs → Columns
import_columns pairs frame = record { one = Some (pair_at pairs frame); two = Some null_pair; blocks = record { items = [] } }

-- the distribution packets of the frames up to the last pair's, at 29.97 frames a second
abbrev pub import_packets : PlacedPairs → List Frame
import_packets pairs = column_packets rate.F2997 (import_columns pairs) 0 (frames_of pairs)

-- the bytes of their ancillary packets
abbrev pub import_words : PlacedPairs → List ℕ
import_words pairs = column_bytes rate.F2997 (import_columns pairs) 0 (frames_of pairs)

-- the most frames of an import: a day
abbrev pub most_import_frames : ℕ
most_import_frames = 2592000

-- where frame 0 stands: at the frame of the day of this time code, where it is given
abbrev pub opening_of : Option TimeCode → Option ℕ
opening_of time = option_map frame_number time

-- the bytes are an SCC file of the pairs, within the limits
pub record IsImport (opening : Option ℕ) (bytes : List ℕ) (pairs : PlacedPairs) : Type 0 where
  pub within : length bytes ≤ whole_limit
  pub file : IsSccFile opening pairs bytes
  pub few : frames_of pairs ≤ most_import_frames

-- the bytes are refused with this status: they are too many, an SCC file of too many frames, or none
abbrev pub IsRefusedImport : Option ℕ → List ℕ → Status → Type 0
IsRefusedImport opening bytes (status.Limit limit.Bytes) = whole_limit < length bytes
IsRefusedImport opening bytes (status.Limit limit.Frames) =
    (length bytes ≤ whole_limit) × ((pairs : PlacedPairs) × IsSccFile opening pairs bytes × (most_import_frames < frames_of pairs))
IsRefusedImport opening bytes (status.Malformed (Byte place) why) =
    (length bytes ≤ whole_limit) × IsFirstOffence opening bytes (record { place = place; why = why })
IsRefusedImport opening bytes _ = ⊥

-- an input gives the pairs of its file, or is refused
abbrev pub ReadsImport : Option ℕ → Option (List ℕ) → Option (List ℕ) → ℕ → ℕ → Result PlacedPairs Status → Type 0
ReadsImport opening old new before now result = ReadsInput (IsImport opening) (IsRefusedImport opening) old new before now result

-- `import`, where frame 0 has this time code, or that of the first line: the words of the pairs are a words file whose frames carry just
-- these
abbrev pub ImportVerdict : Option TimeCode → List ℕ → Status → List ℕ → Type 0
ImportVerdict time =
    MadeVerdict (IsImport (opening_of time)) import_words (λ pairs. AreCarried rate.F2997 (import_columns pairs) (frames_of pairs))
    (IsRefusedImport (opening_of time))
