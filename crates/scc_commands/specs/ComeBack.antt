-- Between crates: the program's answer stands on none of these definitions.
-- Words that are exported and imported again with the same time code: each of their pairs stands at its frame again.
use Rattle.std.specs.Prelude.{◌≡◌, ◌≤◌, ℕ, List, length, Some}
use Rattle.cc_base.specs.Streams.{whole_limit}
use Rattle.cdp_packets.specs.Packets.{Frame}
use Rattle.command_base.specs.declared.status.Status.TheVariants as status
use Rattle.scc_files.specs.Written.{pairs_not_null}
use Rattle.services_files.specs.CaptionChannel.{caption_channel}
use Rattle.time_codes.specs.declared.time_code.TimeCode.{TimeCode}
use Rattle.words_files.specs.Offences.{IsFileUnder}
use Rattle.scc_commands.specs.Export.{ExportVerdict, exported_from}
use Rattle.scc_commands.specs.Import.{ImportVerdict, import_words}

-- the words that carry the pairs of frames that aren't null, each in the frame of its number
abbrev pub words_of_pairs : List Frame → List ℕ
words_of_pairs frames = import_words (pairs_not_null (exported_from 0 frames))

-- with this time code `import` makes these words of the text, with the answer Ok, and no others
pub record StandAgain (time : TimeCode) (frames : List Frame) (text : List ℕ) : Type 0 where
  pub is : ImportVerdict (Some time) text status.Ok (words_of_pairs frames)
  pub just : (others : List ℕ) → ImportVerdict (Some time) text status.Ok others → others ≡ words_of_pairs frames

-- so it does of what `export` makes with the same time code, with the answer Ok, of the words of frames
abbrev pub PairsComeBack : Type 0
PairsComeBack = (time : TimeCode) (words text : List ℕ) → ExportVerdict time words status.Ok text → length text ≤ whole_limit
    → (frames : List Frame) × IsFileUnder caption_channel frames words × StandAgain time frames text
