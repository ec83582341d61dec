-- Believed: the program's answer stands on these definitions.
-- What `convert` makes of words.
use Rattle.std.specs.Prelude.{◌≡◌, ℕ, List}
use Rattle.command_base.specs.declared.status.Status.{Status}
use Rattle.command_base.specs.declared.status.Status.TheVariants as status
use Rattle.rate_convert.specs.Conversion.{conversion_bytes}
use Rattle.rate_convert.specs.Misfits.{AreFit, IsMisfitAt}
use Rattle.words_reading.specs.FrameTexts.{FramesHalt, FramesSay}
use Rattle.words_reading.specs.WordsVerdict.{EndsWell, WordsVerdict}

-- bytes, none of whose words offends, end with the first frame that has a misfit, and these are the words that the frames before it become
abbrev pub ConvertHalts : Status → List ℕ → List ℕ → Type 0
ConvertHalts (status.Misfit found) bytes text = FramesHalt conversion_bytes AreFit (λ earlier last. IsMisfitAt earlier last found) bytes text
ConvertHalts _ bytes text = ⊥

-- `convert`: the words that the frames become, of which none has a misfit; a file ends well with the words of all its frames
abbrev pub ConvertVerdict : List ℕ → Status → List ℕ → Type 0
ConvertVerdict =
    WordsVerdict (EndsWell (λ frames text. AreFit frames × (text ≡ conversion_bytes frames))) (FramesSay conversion_bytes AreFit) ConvertHalts
