-- Between crates: the program's answer stands on none of these definitions.
-- What an export makes of frames.
use Rattle.std.specs.Prelude.{◌≡◌, ℕ, List, Option, Some, None, length}
use Rattle.cc_base.specs.declared.limit_of.LimitOf.TheVariants as limit
use Rattle.cdp_packets.specs.Packets.{Frame}
use Rattle.command_base.specs.declared.status.Status.{Status}
use Rattle.command_base.specs.declared.status.Status.TheVariants as status
use Rattle.findings.specs.declared.finding.Kind45.{Kind45}
use Rattle.scc_files.specs.Pieces.{stand_after, standing_first}
use Rattle.scc_files.specs.Writing.{Standing, standing_of}
use Rattle.time_codes.specs.Frames.{frame_number}
use Rattle.time_codes.specs.declared.time_code.TimeCode.{TimeCode}
use Rattle.words_reading.specs.FrameTexts.{FramesHalt, FramesSay}
use Rattle.words_reading.specs.WordsVerdict.{EndsWell}
use Rattle.scc_commands.specs.Export.{AreExported, HasFinding, HasNoFinding, StopsAtFrame, export_file, export_front, exported_from}
use Rattle.scc_commands.specs.declared.exporting.ExportStop.{ExportStop}
use Rattle.scc_commands.specs.declared.exporting.ExportStop.TheVariants as reason
use Rattle.scc_commands.specs.declared.exporting.Exporting.{Exporting}

-- what is found at a frame, if anything is
abbrev pub FindsInExport : Frame → Option Kind45 → Type 0
FindsInExport frame None = HasNoFinding frame
FindsInExport frame (Some found) = HasFinding frame found

-- the status of an export that stopped at a frame
abbrev pub reason_status : ExportStop → Status
reason_status (reason.Found finding) = status.Differs finding
reason_status reason.Day = status.Limit limit.Day

-- where a file begins whose frame 0 has this time code
abbrev pub first_standing : TimeCode → Standing
first_standing time = standing_first (frame_number time) time.drop_frame

-- an export stands after frames, which are exported
pub record StandsBehind (time : TimeCode) (frames : List Frame) (export : Exporting) : Type 0 where
  pub are_exported : AreExported time frames
  pub writer : standing_of export.writer ≡ stand_after (first_standing time) (exported_from 0 frames)

-- the bytes bring frames that are exported, and this is the front of their file
abbrev pub IsExportOf : TimeCode → List ℕ → List ℕ → Type 0
IsExportOf time = FramesSay (export_front time) (AreExported time)

-- a words file whose frames are exported ends with their whole file
abbrev pub ExportEnd : TimeCode → Status → List ℕ → List ℕ → Type 0
ExportEnd time = EndsWell (λ frames text. AreExported time frames × (text ≡ export_file time frames))

-- bytes, none of whose words offends, end with the first frame at which an export stops, and this is the text of the frames before
abbrev pub ExportHalts : TimeCode → Status → List ℕ → List ℕ → Type 0
ExportHalts time answer = FramesHalt (export_front time) (AreExported time) (λ frames last. StopsAtFrame time (length frames) last answer)
