-- Between crates: the program's answer stands on none of these definitions.
-- The calls of a maker, one after another.
use Rattle.std.specs.Prelude.{◌≡◌, ℕ, true, false, List, [], ◌∷◌, ◌++◌, Some}
use Rattle.anc_words.specs.Writing.{packet_bytes}
use Rattle.mcc_files.specs.MccFiles.{TimedPackets}
use Rattle.mcc_files.specs.Payloads.{Payload}
use Rattle.mcc_files.specs.PayloadWords.{payload_words}
use Rattle.mcc_words.specs.Makers.{BeginsCaptions, HasMade, PutsNext, words_left}
use Rattle.mcc_words.specs.MccWords.{AreMccWords, carries_captions}
use Rattle.mcc_words.specs.Raised.{IsRaised}
use Rattle.mcc_words.specs.declared.maker.Before.{Before}
use Rattle.mcc_words.specs.declared.maker.MccWords.{MccWords}
use Rattle.mcc_words.specs.declared.missing.MissingFrames.{MissingFrames}

-- a maker makes the words packet by packet: missing frames one by one are those that are missing, these and the packet of captions with its
-- counter raised are its words, another packet's words are as they came, and what was made of packets is their words
pub record CallsMake : Type 0 where
  pub next : (old new : MissingFrames) (front : List ℕ) → PutsNext old new true front → words_left old ≡ front ++ words_left new
  pub captions : (placed : TimedPackets) (made : List ℕ) (old new : MccWords) (frame : ℕ) (payload : Payload) (frames : MissingFrames) (raised : List ℕ) (now : Before)
      → HasMade placed made old → carries_captions payload ≡ true → BeginsCaptions old frame payload.user new frames
      → new.before ≡ Some now → IsRaised now.raised payload.user raised
      → HasMade (placed ++ (frame, payload) ∷ []) (made ++ (words_left frames ++ packet_bytes 0x61 0x01 raised)) new
  pub other : (placed : TimedPackets) (made : List ℕ) (maker : MccWords) (frame : ℕ) (payload : Payload) → HasMade placed made maker → carries_captions payload ≡ false
      → HasMade (placed ++ (frame, payload) ∷ []) (made ++ payload_words payload) maker
  pub words : (placed : TimedPackets) (made : List ℕ) (maker : MccWords) → HasMade placed made maker → AreMccWords placed made
