-- What a converter is after bytes that bring no frame, or one more.
use Rattle.std.proofs.Common.{◌≡◌, ℕ, ◌+◌, Option, None, Some, Err, Ok, take, List, [], ◌∷◌, ◌++◌, refl, subst, sym, length, length-append, arith}
use Rattle.std.specs.Prelude.{MatchOption, Result}
use Rattle.cc_base.specs.declared.refusal.Refusal.{Refusal}
use Rattle.cc_receiver.specs.declared.receiver.Fed.{Fed}
use Rattle.cdp_packets.specs.Packets.{Frame}
use Rattle.findings.specs.declared.misfit.Misfit.{Misfit}
use Rattle.services_files.specs.CaptionChannel.{caption_channel}
use Rattle.words_files.specs.FramesOf.{AreFramesOf}
use Rattle.words_files.proofs.FramesOfLemmas.{frames_of_once}
use Rattle.cc_receiver.specs.Receivers.{HasReceived, frame_count}
use Rattle.cc_receiver.specs.declared.receiver.Receiver.{Receiver}
use Rattle.cc_receiver.proofs.FedFrames.{frames_still}
use Rattle.cc_receiver.proofs.TakenLemmas.{frames_count}
use Rattle.rate_convert.specs.Converters.{ConvertsOn, HasConverted, StandsBehind}
use Rattle.rate_convert.specs.Halvers.{HasHalved, TookBy, misfit_of}
use Rattle.rate_convert.specs.Misfits.{AreFit, HasMisfit}
use Rattle.rate_convert.specs.declared.converter.Converter.{Converter}
use Rattle.rate_convert.specs.declared.halver.Halver.{Halver}

-- no frame more
pub converted_still : (before more : List ℕ) (old : Converter) (new : Receiver) → HasConverted before old → HasReceived (before ++ more) new
    → frame_count new ≡ frame_count old.input → HasConverted (before ++ more) (record old { input = new })
converted_still before more old new had now counted = record {
  received = now;
  frames = had.frames;
  frames_are = frames_still before more old.input new had.frames had.frames_are had.received now counted;
  stands = had.stands;
}

-- no frame has a misfit
pub none_stands : (frames : List Frame) (halver : Halver) → StandsBehind (misfit_of halver) frames halver → misfit_of halver ≡ None → HasHalved frames halver
none_stands frames halver stands none = subst (λ (m : Option Misfit). StandsBehind m frames halver) none stands

pub halved_stands : (frames : List Frame) (halver : Halver) → HasHalved frames halver → StandsBehind (misfit_of halver) frames halver
halved_stands frames halver halved = subst (λ (m : Option Misfit). StandsBehind m frames halver) (sym halved.none) halved

-- one frame more
pub stands_on : (m : Option Misfit) (earlier : List Frame) (last : Frame) (halver : Halver) → AreFit earlier → TookBy m earlier last halver
    → StandsBehind m (earlier ++ last ∷ []) halver
stands_on None earlier last halver fit took = took
stands_on (Some found) earlier last halver fit took = record { earlier = earlier; last = last; split = refl; fit = fit; is = took }

-- these are its frames
pub stands_behind : (bytes : List ℕ) (frames : List Frame) (converter : Converter) → HasConverted bytes converter → AreFramesOf caption_channel frames bytes
    → StandsBehind (misfit_of converter.halver) frames converter.halver
stands_behind bytes frames converter had are =
    subst (λ (fs : List Frame). StandsBehind (misfit_of converter.halver) fs converter.halver)
    (frames_of_once caption_channel had.frames frames bytes had.frames_are are) had.stands

pub told_by : (m : Option Misfit) (frames : List Frame) (halver : Halver) → StandsBehind m frames halver → MatchOption m (AreFit frames) (HasMisfit frames)
told_by None frames halver stands = stands.fit
told_by (Some found) frames halver stands = stands

-- the number of the last frame
pub last_number : (bytes : List ℕ) (earlier : List Frame) (last : Frame) (input : Receiver) (frame : ℕ) → HasReceived bytes input
    → AreFramesOf caption_channel (earlier ++ last ∷ []) bytes → frame + 1 ≡ frame_count input → frame ≡ length earlier
last_number bytes earlier last input frame had are number =
    let count = frames_count (earlier ++ last ∷ []) bytes input had are in
    let long = length-append earlier (last ∷ []) in
    omega (arith, number, count, long)

-- whatever a call answers, some bytes lead to it
pub still_converted : (before bytes : List ℕ) (new : Converter) (result : Result Fed Refusal) → ConvertsOn before bytes new result
    → (after : List ℕ) × HasConverted after new
still_converted before bytes new (Ok fed) on = (before ++ take fed.used bytes, on)
still_converted before bytes new (Err refusal) on = (before ++ bytes, on)
