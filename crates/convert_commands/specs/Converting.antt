-- Between crates: the program's answer stands on none of these definitions.
-- Words on their way to another rate.
use Rattle.std.specs.Prelude.{◌≡◌, ◌≤◌, ℕ, List, length, None}
use Rattle.command_base.specs.declared.status.Status.{Status}
use Rattle.command_base.specs.declared.status.Status.TheVariants as status
use Rattle.rate_convert.specs.Conversion.{conversion_bytes}
use Rattle.rate_convert.specs.Converters.{HasConverted, converted_frames, converter_misfit}
use Rattle.rate_convert.specs.declared.converter.Converter.{Converter}
use Rattle.rate_convert.specs.Misfits.{AreFit}
use Rattle.words_reading.specs.CaptionChannel.{caption_channel}
use Rattle.words_files.specs.Offences.{IsUnoffending}
use Rattle.words_reading.specs.FrameTexts.{FramesSay}
use Rattle.convert_commands.specs.declared.converting.Converting.{Converting}
use Rattle.convert_commands.specs.declared.converting.Unfit.{Unfit}

-- these are the words that the frames become which bytes bring, and none of the frames has a misfit
abbrev pub AreConverted : List ℕ → List ℕ → Type 0
AreConverted = FramesSay conversion_bytes AreFit

-- a converter took these bytes, none of whose words offends, and none of their frames has a misfit
pub record IsUnderway (bytes : List ℕ) (converter : Converter) : Type 0 where
  pub converted : HasConverted bytes converter
  pub none : converter_misfit converter ≡ None
  pub unoffending : IsUnoffending caption_channel bytes
  pub few : converted_frames converter ≤ length bytes

-- and these are the words that their frames become
pub record HasMade (bytes text : List ℕ) (converting : Converting) : Type 0 where
  pub underway : IsUnderway bytes converting.converter
  pub says : AreConverted bytes text

-- the status of a run that stopped for a misfit
abbrev pub unfit_status : Unfit → Status
unfit_status unfit = status.Misfit unfit.misfit
