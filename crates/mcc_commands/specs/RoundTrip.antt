-- Between crates: the program's answer stands on none of these definitions.
-- Words that are exported as an MCC file and imported again: the same words, byte for byte.
use Rattle.std.specs.Prelude.{◌≡◌, ◌<◌, ◌≤◌, ℕ, List, length}
use Rattle.cdp_packets.specs.Packets.{Frame}
use Rattle.command_base.specs.declared.status.Status.TheVariants as status
use Rattle.services_files.specs.CaptionChannel.{caption_channel}
use Rattle.time_codes.specs.Countings.{day_frames_in}
use Rattle.words_files.specs.Offences.{IsFileUnder}
use Rattle.words_reading.specs.Causes.{words_limit}
use Rattle.mcc_commands.specs.ExportMcc.{ExportMccVerdict, IsMccOf}
use Rattle.mcc_commands.specs.declared.start.Start.{Start}
use Rattle.mcc_commands.specs.ImportMcc.{ImportMccVerdict}
use Rattle.mcc_commands.specs.Imported.{IsMccImport}

-- the MCC file of exported words is imported as these words, and as no others
pub record IsImportedAgain (words text : List ℕ) : Type 0 where
  pub is : IsMccImport text words
  pub just : (others : List ℕ) → IsMccImport text others → others ≡ words

abbrev pub ExportedFilesAreImports : Type 0
ExportedFilesAreImports = (start : Start) (frames : List Frame) (words text : List ℕ) (is_file : IsFileUnder caption_channel frames words)
    → start.first < day_frames_in start.count → IsMccOf start frames words is_file text → length words ≤ words_limit → IsImportedAgain words text

-- what `export-mcc` makes of words with the answer Ok, `import-mcc` makes these words of, with the answer Ok, and no others
pub record ComeBack (words text : List ℕ) : Type 0 where
  pub is : ImportMccVerdict text status.Ok words
  pub just : (others : List ℕ) → ImportMccVerdict text status.Ok others → others ≡ words

abbrev pub WordsComeBack : Type 0
WordsComeBack = (start : Start) (words text : List ℕ) → start.first < day_frames_in start.count → ExportMccVerdict start words status.Ok text
    → length text ≤ words_limit → ComeBack words text
