-- A verifier after more bytes, and how it judges them at their end.
use Rattle.std.proofs.Common.{◌≡◌, ℕ, ◌++◌, List, subst}
use Rattle.std.specs.Prelude.{None, Some}
use Rattle.cc_receiver.specs.Receivers.{HasReceived, frame_count}
use Rattle.cc_receiver.specs.declared.receiver.Receiver.{Receiver}
use Rattle.cc_receiver.proofs.FedFrames.{frames_still}
use Rattle.cdp_packets.specs.Packets.{Frame}
use Rattle.words_files.specs.Offences.{IsFileUnder}
use Rattle.cc_receiver.specs.CaptionChannel.{caption_channel}
use Rattle.words_files.proofs.FramesOfLemmas.{file_frames, frames_of_once}
use Rattle.findings.specs.declared.finding.Finding.{Finding}
use Rattle.cc_verifier.specs.Findings.{AreClean, FirstFinding}
use Rattle.cc_verifier.specs.Verifiers.{Found, GoesOn, HasVerified}
use Rattle.cc_verifier.specs.declared.verifier.Verifier.{Verifier}

-- a verifier goes on as before, whatever its receiver
pub goes_on_still : (frames : List Frame) (old : Verifier) (new : Receiver) → GoesOn frames old → GoesOn frames (record old { receiver = new })
goes_on_still frames old new on = record {
  counter = on.counter;
  ready = record { turn = on.ready.turn; channels = on.ready.channels; services = on.ready.services };
  knows = record { channels = on.knows.channels; services = on.knows.services };
}

-- more bytes that bring no frame
pub verified_still : (before more : List ℕ) (old : Verifier) (new : Receiver) → HasVerified before old → HasReceived (before ++ more) new
    → frame_count new ≡ frame_count old.receiver → HasVerified (before ++ more) (record old { receiver = new })
verified_still before more old new had now counted = record {
  received = now;
  frames = had.frames;
  frames_are = frames_still before more old.receiver new had.frames had.frames_are had.received now counted;
  found = had.found;
  goes_on = λ nothing. goes_on_still had.frames old new (had.goes_on nothing);
}

-- a file is the file of the frames
pub file_is : (bytes : List ℕ) (verifier : Verifier) (had : HasVerified bytes verifier) → ((frames : List Frame) × IsFileUnder caption_channel frames bytes)
    → IsFileUnder caption_channel had.frames bytes
file_is bytes verifier had (frames, file) =
    subst (λ (fs : List Frame). IsFileUnder caption_channel fs bytes) (frames_of_once caption_channel frames had.frames bytes (file_frames caption_channel frames bytes file) had.frames_are) file

-- nothing was found
pub found_none : (bytes : List ℕ) (verifier : Verifier) (had : HasVerified bytes verifier) → verifier.finding ≡ None → AreClean verifier.list had.frames
found_none bytes verifier had nothing = subst (Found verifier.list had.frames) nothing had.found

-- the finding is the first
pub found_is : (bytes : List ℕ) (verifier : Verifier) (had : HasVerified bytes verifier) (finding : Finding) → verifier.finding ≡ Some finding
    → FirstFinding verifier.list had.frames finding
found_is bytes verifier had finding is = subst (Found verifier.list had.frames) is had.found
