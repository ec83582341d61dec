-- Believed: the program's answer stands on these definitions.
-- What `export` makes of words: the SCC file of the field 1 pairs that the frames of a words file carry, or why it stops, and with what
-- text before.
use Rattle.std.specs.Prelude.{◌≡◌, ◌≢◌, ◌<◌, ◌≤◌, ℕ, suc, true, false, List, [], ◌∷◌, ◌++◌, length, map}
use Rattle.std.specs.List.{AllByRecursion}
use Rattle.cc_base.specs.declared.limit_of.LimitOf.TheVariants as limit
use Rattle.cc_base.specs.declared.rate.Rate.TheVariants as rate
use Rattle.line21_codes.specs.declared.channels.FieldNumber.TheVariants.{One}
use Rattle.line21_codes.specs.declared.pairs.Pair.{Pair}
use Rattle.findings.specs.declared.finding.Kind45.{Kind45}
use Rattle.findings.specs.declared.finding.Kind45.TheVariants as kind
use Rattle.time_codes.specs.Frames.{frame_number}
use Rattle.time_codes.specs.declared.time_code.TimeCode.{TimeCode}
use Rattle.scc_files.specs.Written.{is_past_day, written_file, written_front}
use Rattle.cdp_packets.specs.Packets.{Frame}
use Rattle.cdp_packets.specs.PacketTriplets.{packet_triplets}
use Rattle.words_files.specs.Received.{field_pairs}
use Rattle.command_base.specs.declared.status.Status.{Status}
use Rattle.command_base.specs.declared.status.Status.TheVariants as status
use Rattle.words_reading.specs.FrameTexts.{FramesHalt, FramesSay}
use Rattle.words_reading.specs.WordsVerdict.{EndsWell, WordsVerdict}
use Rattle.scc_commands.specs.Import.{PlacedPairs}

-- the field 1 pairs of a frame: the pairs of its triplets that count
abbrev pub pairs_of : Frame → List Pair
pairs_of frame = field_pairs One (packet_triplets frame)

-- the field 1 pairs of frames, each at its frame, where the first has this number
abbrev pub exported_from : ℕ → List Frame → PlacedPairs
exported_from number [] = []
exported_from number (frame ∷ frames) = map (λ pair. (number, pair)) (pairs_of frame) ++ exported_from (suc number) frames

-- the SCC file of frames, in its written form
abbrev pub export_file : TimeCode → List Frame → List ℕ
export_file time frames = written_file (frame_number time) time.drop_frame (exported_from 0 frames)

-- the same without what ends it, the two line ends after its last line
abbrev pub export_front : TimeCode → List Frame → List ℕ
export_front time frames = written_front (frame_number time) time.drop_frame (exported_from 0 frames)

-- nothing is found at a frame: it has the rate 29.97 and at most one pair of field 1
pub record HasNoFinding (frame : Frame) : Type 0 where
  pub rate_is : frame.rate ≡ rate.F2997
  pub one : length (pairs_of frame) ≤ 1

-- this is found at a frame, first a wrong rate
abbrev pub HasFinding : Frame → Kind45 → Type 0
HasFinding frame (kind.WrongRate expected seen) = (expected ≡ rate.F2997) × (seen ≡ frame.rate) × (frame.rate ≢ rate.F2997)
HasFinding frame (kind.TwoPairs seen) = (frame.rate ≡ rate.F2997) × (seen ≡ length (pairs_of frame)) × (1 < length (pairs_of frame))
HasFinding frame _ = ⊥

-- frames that are exported: nothing is found at any, and no pair that isn't null stands at or past the end of the day of frame 0
pub record AreExported (time : TimeCode) (frames : List Frame) : Type 0 where
  pub no_finding : AllByRecursion HasNoFinding frames
  pub within_day : AllByRecursion (λ (placed : ℕ × Pair). is_past_day (frame_number time) time.drop_frame placed.0 placed.1 ≡ false) (exported_from 0 frames)

-- an export stops at the frame of this number with this status: something is found at it; or nothing is, and its pair isn't null and
-- stands at or past the end of the day
abbrev pub StopsAtFrame : TimeCode → ℕ → Frame → Status → Type 0
StopsAtFrame time number frame (status.Differs finding) = (finding.frame ≡ number) × HasFinding frame finding.kind
StopsAtFrame time number frame (status.Limit limit.Day) =
    HasNoFinding frame × (pair : Pair) × (pairs_of frame ≡ pair ∷ []) × (is_past_day (frame_number time) time.drop_frame number pair ≡ true)
StopsAtFrame time number frame _ = ⊥

-- `export`, where frame 0 has this time code: a words file whose frames are exported ends well, with their whole SCC file; and bytes, none
-- of whose words offends, that end with the first frame at which an export stops have the text of the frames before it
abbrev pub ExportVerdict : TimeCode → List ℕ → Status → List ℕ → Type 0
ExportVerdict time =
    WordsVerdict (EndsWell (λ frames text. AreExported time frames × (text ≡ export_file time frames)))
    (FramesSay (export_front time) (AreExported time))
    (λ answer. FramesHalt (export_front time) (AreExported time) (λ frames last. StopsAtFrame time (length frames) last answer))
