-- Between crates: the program's answer stands on none of these definitions.
-- What a converter is after the bytes that it was fed.
use Rattle.std.specs.Prelude.{ℕ, ◌++◌, List, take, Option, Some, None, Result, Ok, Err}
use Rattle.cc_base.specs.declared.refusal.Refusal.{Refusal}
use Rattle.cc_receiver.specs.Receivers.{HasReceived, frame_count}
use Rattle.cc_receiver.specs.declared.receiver.Fed.{Fed}
use Rattle.cc_receiver.specs.declared.receiver.Receiver.{Receiver}
use Rattle.cdp_packets.specs.Packets.{Frame}
use Rattle.findings.specs.declared.misfit.Misfit.{Misfit}
use Rattle.services_files.specs.CaptionChannel.{caption_channel}
use Rattle.words_files.specs.FramesOf.{AreFramesOf}
use Rattle.rate_convert.specs.Halvers.{HasHalved, misfit_of}
use Rattle.rate_convert.specs.Misfits.{HasMisfit}
use Rattle.rate_convert.specs.declared.converter.Converter.{Converter}
use Rattle.rate_convert.specs.declared.halver.Halver.{Halver}

-- the receiver that reads and refuses its bytes, the number of whole frames that it counts, and the misfit of the last one
abbrev pub input_of : Converter → Receiver
input_of converter = converter.input

abbrev pub converted_frames : Converter → ℕ
converted_frames converter = frame_count converter.input

abbrev pub converter_misfit : Converter → Option Misfit
converter_misfit converter = misfit_of converter.halver

-- none of the frames has a misfit, or the last one has this
abbrev pub StandsBehind : Option Misfit → List Frame → Halver → Type 0
StandsBehind None frames halver = HasHalved frames halver
StandsBehind (Some found) frames halver = HasMisfit frames found

-- it was fed these bytes, and took their frames
pub record HasConverted (bytes : List ℕ) (converter : Converter) : Type 0 where
  pub received : HasReceived bytes converter.input
  pub frames : List Frame
  pub frames_are : AreFramesOf caption_channel frames bytes
  pub stands : StandsBehind (misfit_of converter.halver) frames converter.halver

-- it was fed a front of the bytes, or all of them, where a word is refused
abbrev pub ConvertsOn : List ℕ → List ℕ → Converter → Result Fed Refusal → Type 0
ConvertsOn before bytes new (Ok fed) = HasConverted (before ++ take fed.used bytes) new
ConvertsOn before bytes new (Err refusal) = HasConverted (before ++ bytes) new
