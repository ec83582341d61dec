-- Between crates: the program's answer stands on none of these definitions.
-- What a receiver shows after a frame without captions: what it showed before, but where a delay of a service ends (CTA-608-E; 47 CFR
-- 79.101; CTA-708-E, Delay).
use Rattle.std.specs.Prelude.{◌≡◌, ℕ, suc, ◌+◌, ◌-◌, ◌≤◌, List, [], ◌∷◌, ◌++◌, Some, length, take}
use Rattle.cc_receiver.specs.ReceivedServices.{received_service, received_windows}
use Rattle.cdp_packets.specs.Packets.{Frame}
use Rattle.dtvcc_screen.specs.Meaning.{Tick}
use Rattle.line21_codes.specs.declared.channels.Chan.{Chan}
use Rattle.mcc_files.specs.MccFiles.{IsMccFile, TimedPackets}
use Rattle.mcc_files.specs.Payloads.{Payload}
use Rattle.mcc_words.specs.MccWords.{AreMccWords}
use Rattle.services_files.specs.CarriedChannel.{file_triplets}
use Rattle.services_files.specs.Events.{events_behind, service_events}
use Rattle.words_files.specs.Frames.{IsFileOf}
use Rattle.words_files.specs.Received.{received_grids}
use Rattle.mcc_words.specs.Standing.{AreFromTo, HaveFramesOfTheirOwn, IsAmong, IsWithoutCaptions, caption_packets}

-- a delay of the service ends in the frame right after these
abbrev pub DelayEndsBehind : List Frame → ℕ → Type 0
DelayEndsBehind frames service = (received_service frames service).until ≡ Some (length frames + 1)

-- after later frames is shown what is shown after earlier ones: on each channel, and in each service none of whose delays ends there
pub record ShowsWhatWasShown (earlier later : List Frame) : Type 0 where
  pub grids : (chan : Chan) → received_grids later chan ≡ received_grids earlier chan
  pub windows : (service id : ℕ) → (DelayEndsBehind earlier service → ⊥) → received_windows later service id ≡ received_windows earlier service id

-- one frame without captions more shows the same
abbrev pub FramesWithoutChangeNothing : Type 0
FramesWithoutChangeNothing = (earlier : List Frame) (next : Frame) → IsWithoutCaptions next → ShowsWhatWasShown earlier (earlier ++ next ∷ [])

-- it tells each service that time passes and nothing else, and the frames after it tell what they tell without it
abbrev pub FramesWithoutTellTime : Type 0
FramesWithoutTellTime = (earlier more : List Frame) (next : Frame) → IsWithoutCaptions next → (service : ℕ)
    → service_events service (earlier ++ next ∷ more) ≡ service_events service earlier ++ (Tick next.rate ∷ events_behind service (file_triplets earlier) more)

-- of the words of an MCC file whose packets of captions have frames of their own: where none is placed at a frame of the day, the frame that
-- was put for it shows what was shown before
abbrev pub MissingFramesChangeNothing : Type 0
MissingFramesChangeNothing = (placed : TimedPackets) (text words : List ℕ) (frames : List Frame) (first last at : ℕ) → IsMccFile placed text → AreMccWords placed words
    → IsFileOf frames words → HaveFramesOfTheirOwn (caption_packets placed) → AreFromTo (caption_packets placed) first last
    → first ≤ at → at ≤ last → ((payload : Payload) → IsAmong (caption_packets placed) at payload → ⊥)
    → ShowsWhatWasShown (take (at - first) frames) (take (suc (at - first)) frames)
