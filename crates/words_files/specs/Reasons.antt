-- Believed: the program's answer stands on these definitions.
-- For what reason a word of a words file offends, by the words of the open packet before it and by what it is (SMPTE ST 291-1,
-- ST 334-1 and ST 334-2); or else by what the layers above distribution packets refuse.
use Rattle.std.specs.Prelude.{◌≡◌, ℕ, ◌+◌, ◌*◌, ◌%◌, ◌<◌, List, [], ◌∷◌, ◌++◌, length, map}
use Rattle.cc_base.specs.declared.why.Why.{Why}
use Rattle.cc_base.specs.declared.why.Why.TheVariants as why
use Rattle.anc_words.specs.EightBitWords.{IsEightBit}
use Rattle.anc_words.specs.Packets.{AncillaryPacket, IsPacket}
use Rattle.anc_words.specs.Refusals.{WordOffends}
use Rattle.anc_words.specs.Words.{AreWords}
use Rattle.anc_words.specs.WordsFiles.{IsWordsFile}
use Rattle.cdp_packets.specs.Packets.{Frame, IsCdp}
use Rattle.cdp_packets.specs.Reading.{IsPacketLength}
use Rattle.cdp_packets.specs.Refusals.{StandsAt}
use Rattle.words_files.specs.Frames.{IsFileOf}
use Rattle.words_files.specs.Layers.{Layers}

-- these words are open after the bytes: the bytes are whole packets, and after them these words, with which no whole packet
-- begins
pub record AreOpenBehind (words bytes : List ℕ) : Type 0 where
  pub packets : List AncillaryPacket
  pub file : List ℕ
  pub behind : List ℕ
  pub spelled : bytes ≡ file ++ behind
  pub whole : IsWordsFile packets file
  pub are : AreWords behind words
  pub none_whole : (packet : AncillaryPacket) (front rest : List ℕ) → words ≡ front ++ rest → IsPacket packet front → ⊥

-- after these words stands the count of a packet of captions
abbrev pub CaptionCountIsNext : List ℕ → Type 0
CaptionCountIsNext (first ∷ second ∷ third ∷ did ∷ sdid ∷ []) = (did % 256 ≡ 0x61) × (sdid % 256 ≡ 0x01)
CaptionCountIsNext _ = ⊥

-- these words are of a packet of captions, and carry the first bytes of a distribution packet of this length; more of its
-- bytes are to come
abbrev pub CaptionCarries : List ℕ → ℕ → List ℕ → Type 0
CaptionCarries (first ∷ second ∷ third ∷ did ∷ sdid ∷ count ∷ user) size bytes =
    (did % 256 ≡ 0x61) × (sdid % 256 ≡ 0x01) × (size ≡ count % 256) × (bytes ≡ map (λ word. word % 256) user) × (length user < size)
CaptionCarries _ size bytes = ⊥

-- no distribution packet of this length begins with these bytes and this one
abbrev pub GoesNowhere : ℕ → List ℕ → ℕ → Type 0
GoesNowhere size bytes byte = (more : List ℕ) (frame : Frame) → IsCdp frame (bytes ++ byte ∷ more) → length (bytes ++ byte ∷ more) ≡ size → ⊥

-- after these words of an open packet a word offends for this reason: no ancillary packet can continue with it; or it is the count of
-- a packet of captions, and no distribution packet has this length; or it is a user word of captions, and no distribution packet
-- continues with its byte, for the reason that stands at that byte
pub data OffendsFor (words : List ℕ) (word : ℕ) : Why → Type 0 where
  in_packet : (reason : Why) → WordOffends words word reason → OffendsFor words word reason
  as_length : CaptionCountIsNext words → IsEightBit (word % 256) word → (IsPacketLength (word % 256) → ⊥) → OffendsFor words word why.Length
  as_byte : (reason : Why) (size : ℕ) (bytes : List ℕ) → CaptionCarries words size bytes → IsPacketLength size → IsEightBit (word % 256) word
      → GoesNowhere size bytes (word % 256) → StandsAt size bytes reason → OffendsFor words word reason

-- after these bytes the word of these two bytes offends for this reason: by the words of the open packet before it; or some file goes
-- on with it, and of whatever file does, the layers above refuse something that the frames say for this reason, and nothing before it
pub data HasReason (layers : Layers) (before : List ℕ) (high low : ℕ) : Why → Type 0 where
  by_its_packet : (reason : Why) (words : List ℕ) → AreOpenBehind words before → OffendsFor words (256 * high + low) reason
      → HasReason layers before high low reason
  by_layers_above : (reason : Why) (more : List ℕ) (frames : List Frame) → IsFileOf frames (before ++ high ∷ low ∷ more)
      → ((others : List ℕ) (said : List Frame) → IsFileOf said (before ++ high ∷ low ∷ others) → layers.Refuse said reason)
      → HasReason layers before high low reason
