-- Believed: the program's answer stands on these definitions.
-- What `export-mcc` makes of words: the MCC file of the packets of a words file, or why the run stopped, and with what text before.
use Rattle.std.specs.Prelude.{◌≡◌, ℕ, List, ◌++◌}
use Rattle.anc_words.specs.Packets.{AncillaryPacket}
use Rattle.anc_words.specs.WordsFiles.{IsPacketBytes}
use Rattle.cdp_packets.specs.Packets.{Frame}
use Rattle.command_base.specs.declared.status.Status.{Status}
use Rattle.command_base.specs.declared.status.Status.TheVariants as status
use Rattle.mcc_files.specs.Writing.{IsWrittenFile}
use Rattle.services_files.specs.CaptionChannel.{caption_channel}
use Rattle.time_codes.specs.Countings.{frame_number_in}
use Rattle.time_codes.specs.declared.counting.Counting.{Counting}
use Rattle.time_codes.specs.declared.time_code.TimeCode.{TimeCode}
use Rattle.words_files.specs.FramesOf.{AreFramesOf}
use Rattle.words_files.specs.Offences.{IsFileUnder, IsUnoffending}
use Rattle.words_reading.specs.WordsVerdict.{OfFile, WordsVerdict}
use Rattle.mcc_commands.specs.Exported.{AreExportedAsMcc, StopsAtPacket}
use Rattle.mcc_commands.specs.Placing.{placed}
use Rattle.mcc_commands.specs.declared.start.Start.{Start}

-- where time codes start that count so, where frame 0 has this one
abbrev pub start_at : Counting → TimeCode → Start
start_at count time = record { count = count; first = frame_number_in count time }

-- the packets of a file of words are exported, and this is their MCC file
pub record IsMccOf (start : Start) (frames : List Frame) (file : List ℕ) (is_file : IsFileUnder caption_channel frames file) (text : List ℕ) : Type 0 where
  pub fit : AreExportedAsMcc start is_file.file.packets frames
  pub written : IsWrittenFile start.count (placed start.first is_file.file.packets) text

-- this is the MCC file of the packets that bytes bring, which are exported
pub record SaysMcc (start : Start) (bytes text : List ℕ) : Type 0 where
  pub frames : List Frame
  pub frames_are : AreFramesOf caption_channel frames bytes
  pub mcc : IsMccOf start frames frames_are.file frames_are.is_file text

-- bytes, none of whose words offends, are a file of packets that are exported and a packet at which an export stops so
pub record StopsBehind (start : Start) (why : Status) (bytes : List ℕ) : Type 0 where
  pub frames : List Frame
  pub file : List ℕ
  pub is_file : IsFileUnder caption_channel frames file
  pub fit : AreExportedAsMcc start is_file.file.packets frames
  pub last : AncillaryPacket
  pub packet : List ℕ
  pub is_packet : IsPacketBytes last packet
  pub spelled : bytes ≡ file ++ packet
  pub unoffending : IsUnoffending caption_channel bytes
  pub is : StopsAtPacket start frames last why

-- and this is the MCC file of the packets before that one
pub record HaltsMcc (start : Start) (why : Status) (bytes text : List ℕ) : Type 0 where
  pub at : StopsBehind start why bytes
  pub written : IsWrittenFile start.count (placed start.first at.is_file.file.packets) text

-- or the MCC file is a whole words file's
abbrev pub ExportMccEnd : Start → Status → List ℕ → List ℕ → Type 0
ExportMccEnd start status.Ok input text = OfFile (λ frames. SaysMcc start input text) input
ExportMccEnd start _ input text = ⊥

-- `export-mcc`
abbrev pub ExportMccVerdict : Start → List ℕ → Status → List ℕ → Type 0
ExportMccVerdict start = WordsVerdict (ExportMccEnd start) (SaysMcc start) (HaltsMcc start)
