-- Of words `convert` makes one status, and what it puts of a whole file shows the same.
use Rattle.std.proofs.Common.{◌≡◌, ◌∙◌, ◌++◌, ◌∷◌, ap, refl, sym, ℕ, List, []}
use Rattle.cdp_packets.specs.Packets.{Frame}
use Rattle.command_base.specs.Exact.{IsOne}
use Rattle.command_base.specs.declared.status.Status.{Status}
use Rattle.command_base.specs.declared.status.Status.TheVariants as status
use Rattle.convert_commands.proofs.AnswerLemmas.{ConvertEnd}
use Rattle.convert_commands.specs.ConvertVerdict.{ConvertHalts, ConvertVerdict}
use Rattle.convert_commands.specs.Converting.{AreConverted}
use Rattle.convert_commands.specs.KeptGrids.{ConversionsKeepGrids}
use Rattle.rate_convert.proofs.ConvertedFileLemmas.{converted_file}
use Rattle.rate_convert.proofs.FitLemmas.{convertible_behind, fit_none}
use Rattle.rate_convert.proofs.LawLemmas.{fit_keeps}
use Rattle.rate_convert.proofs.OnceLemmas.{fit_among, misfit_once}
use Rattle.rate_convert.specs.Conversion.{conversion_bytes}
use Rattle.rate_convert.specs.Misfits.{AreFit, IsMisfitAt}
use Rattle.words_reading.specs.CaptionChannel.{caption_channel}
use Rattle.words_files.specs.Offences.{IsFileUnder}
use Rattle.words_reading.proofs.HaltLemmas.{HaltsAt, frames_one, halted_at, said_fit}

pub keeps_grids : ConversionsKeepGrids
keeps_grids bytes frames file fit =
    record { output = converted_file frames bytes file (convertible_behind [] frames fit); shows = λ f below. fit_keeps frames fit f below }

-- a frame has a misfit with which a run ends so
abbrev pub IsUnfit : Status → List Frame → Frame → Type 0
IsUnfit (status.Misfit found) frames last = IsMisfitAt frames last found
IsUnfit _ frames last = ⊥

not_fit : (answer : Status) (frames behind : List Frame) (last : Frame) → IsUnfit answer frames last → AreFit ((frames ++ last ∷ []) ++ behind) → ⊥
not_fit (status.Misfit found) frames behind last is fit = fit_none frames last found.kind (fit_among frames last behind fit) is.1.holds
not_fit _ frames behind last is fit = is

one_misfit : (frames : List Frame) (last : Frame) (one other : Status) → IsUnfit one frames last → IsUnfit other frames last → one ≡ other
one_misfit frames last (status.Misfit a) (status.Misfit b) is at = ap status.Misfit (misfit_once frames last a b is at)
one_misfit frames last (status.Misfit a) _ is at = absurd at
one_misfit frames last _ other is at = absurd is

convert_ends : (answer : Status) (input text : List ℕ) → ConvertEnd answer input text
    → (answer ≡ status.Ok) × ((frames : List Frame) × IsFileUnder caption_channel frames input × AreFit frames)
convert_ends status.Ok input text (frames, file, is) = (refl, (frames, file, is.0))
convert_ends _ input text ends = absurd ends

convert_halts : (answer : Status) (bytes text : List ℕ) → ConvertHalts answer bytes text → HaltsAt AreFit (IsUnfit answer) bytes
convert_halts (status.Misfit found) bytes text halts = halted_at conversion_bytes AreFit (λ earlier last. IsMisfitAt earlier last found) bytes text halts
convert_halts _ bytes text halts = absurd halts

pub convert_one : IsOne (λ aside. ConvertVerdict)
convert_one aside =
    frames_one AreFit IsUnfit not_fit one_misfit ConvertEnd AreConverted ConvertHalts
    (λ answer input text ends. (convert_ends answer input text ends).1)
    (λ input one other text more first next. (convert_ends one input text first).0 ∙ sym (convert_ends other input more next).0)
    (said_fit conversion_bytes AreFit)
    convert_halts
