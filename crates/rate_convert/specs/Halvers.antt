-- Between crates: the program's answer stands on none of these definitions.
-- What a halver is after the frames that it took.
use Rattle.std.specs.Prelude.{◌≡◌, ℕ, ◌*◌, List, [], ◌∷◌, ◌++◌, length, Option, Some, None}
use Rattle.cdp_packets.specs.Packets.{Frame}
use Rattle.dtvcc_services.specs.Objects.{all_ticks}
use Rattle.findings.specs.declared.misfit.Misfit.{Misfit}
use Rattle.rate_convert.specs.Conversion.{conversion, first_half_of, second_half_of}
use Rattle.words_files.specs.CarriedWords.{carried_words}
use Rattle.rate_convert.specs.Grids.{KeepsGrids}
use Rattle.rate_convert.specs.Misfits.{AreFit, IsMisfitAt}
use Rattle.rate_convert.specs.ServedFrames.{AreServed}
use Rattle.rate_convert.specs.declared.halver.Halver.{Halver}

-- the misfit of the last frame that it took, if it has one
abbrev pub misfit_of : Halver → Option Misfit
misfit_of halver = halver.misfit

-- the words that carry the halves of the frame of a number, one after the other
abbrev pub halves_words : ℕ → Frame → List ℕ
halves_words number frame = carried_words (first_half_of number frame) ++ carried_words (second_half_of number frame)

-- it took these frames, none of which has a misfit; the services of its own output took what they become; and it has the words of both
-- halves of the last one
pub record HasHalved (frames : List Frame) (halver : Halver) : Type 0 where
  pub fit : AreFit frames
  pub keeps : KeepsGrids frames
  pub served : AreServed (conversion frames) halver.served
  pub ticks : all_ticks halver.served.services ≡ 2 * length frames
  pub none : misfit_of halver ≡ None
  pub words : (earlier : List Frame) (last : Frame) → frames ≡ earlier ++ last ∷ [] → halver.words.items ≡ halves_words (length earlier) last

-- it took one more frame after earlier ones: that has a misfit, or else it is as before
abbrev pub TookBy : Option Misfit → List Frame → Frame → Halver → Type 0
TookBy None earlier last halver = HasHalved (earlier ++ last ∷ []) halver
TookBy (Some found) earlier last halver = IsMisfitAt earlier last found

abbrev pub Took : List Frame → Frame → Halver → Type 0
Took earlier last halver = TookBy (misfit_of halver) earlier last halver
