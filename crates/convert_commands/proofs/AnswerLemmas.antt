-- What `convert` answers where a words file was read, or the reading of it stopped before.
use Rattle.std.proofs.Common.{◌≡◌, ℕ, List}
use Rattle.cc_base.specs.declared.streams.Put.TheVariants as put
use Rattle.command_base.proofs.RealisedLemmas.{IsPlain}
use Rattle.command_base.specs.Ends.{Ends, IsSteady}
use Rattle.command_base.specs.declared.status.Status.{Status}
use Rattle.command_base.specs.declared.status.Status.TheVariants as status
use Rattle.convert_commands.specs.ConvertVerdict.{ConvertHalts, ConvertVerdict}
use Rattle.convert_commands.specs.Converting.{AreConverted, HasMade, unfit_status}
use Rattle.convert_commands.specs.declared.converting.Converting.{Converting}
use Rattle.convert_commands.specs.declared.converting.Unfit.{Unfit}
use Rattle.rate_convert.specs.Conversion.{conversion_bytes}
use Rattle.rate_convert.specs.Misfits.{AreFit}
use Rattle.words_reading.proofs.WordsLemmas.{frames_stay, said_of, says_so, stopped_realised, whole_realised}
use Rattle.words_reading.specs.Causes.{IsWholeFile}
use Rattle.words_reading.specs.Reading.{Stops, StopsEarly as Stopped}
use Rattle.words_reading.specs.Statuses.{stop_status}
use Rattle.command_base.specs.Realises.{RealisesLeaving}
use Rattle.words_reading.specs.WordsVerdict.{EndsWell}
use Rattle.words_reading.specs.declared.judge.Stop.{Stop}

-- a file without a misfit ends with the words that its frames become
abbrev pub ConvertEnd : Status → List ℕ → List ℕ → Type 0
ConvertEnd = EndsWell (λ frames text. AreFit frames × (text ≡ conversion_bytes frames))

-- the words were read to their end
pub convert_done : (converting : Converting) (old new : Ends)
    → IsSteady old new × Stops (λ bytes text. HasMade bytes text converting) (IsWholeFile old.left) put.Done old new
    → RealisesLeaving ConvertVerdict old new status.Ok
convert_done converting old new (steady, stops) =
    whole_realised ConvertEnd AreConverted ConvertHalts AreConverted (said_of conversion_bytes AreFit) old new
    (steady, says_so (λ bytes text. HasMade bytes text converting) AreConverted (IsWholeFile old.left) put.Done old new (λ bytes text had. had.says) stops)

-- or the reading stopped before
is_plain : (unfit : Unfit) → IsPlain (unfit_status unfit)
is_plain unfit = tt

pub convert_stopped : (old new : Ends) (why : Stop Unfit) (answer : Status) → Stopped AreConverted (λ (unfit : Unfit). ConvertHalts (unfit_status unfit)) old new why
    → answer ≡ stop_status unfit_status why → RealisesLeaving ConvertVerdict old new answer
convert_stopped =
    stopped_realised AreConverted ConvertEnd ConvertHalts (frames_stay conversion_bytes AreFit) (λ (unfit : Unfit). ConvertHalts (unfit_status unfit)) unfit_status
    (λ unfit bytes text halts. halts) is_plain
