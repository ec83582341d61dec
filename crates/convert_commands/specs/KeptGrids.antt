-- Between crates: the program's answer stands on none of these definitions.
-- The words that `convert` puts of a whole file are a words file that shows the same.
use Rattle.std.specs.Prelude.{◌<◌, ℕ, List, length}
use Rattle.cdp_packets.specs.Packets.{Frame}
use Rattle.rate_convert.specs.Conversion.{conversion, conversion_bytes}
use Rattle.rate_convert.specs.Laws.{KeepAllGrids}
use Rattle.rate_convert.specs.Misfits.{AreFit}
use Rattle.words_reading.specs.CaptionChannel.{caption_channel}
use Rattle.words_files.specs.Offences.{IsFileUnder}

-- of a words file none of whose frames has a misfit it is one of what its frames become, which at the frame 2 f + 1 shows what the file shows at f
pub record ConversionKeepsGrids (frames : List Frame) : Type 0 where
  pub output : IsFileUnder caption_channel (conversion frames) (conversion_bytes frames)
  pub shows : (f : ℕ) → f < length frames → KeepAllGrids frames f

abbrev pub ConversionsKeepGrids : Type 0
ConversionsKeepGrids = (bytes : List ℕ) (frames : List Frame) → IsFileUnder caption_channel frames bytes → AreFit frames → ConversionKeepsGrids frames
