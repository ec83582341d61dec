-- Believed: the library's answers stand on these definitions.
-- Where the bytes of a words file offend (SMPTE ST 291-1, ST 334-1 and ST 334-2; CTA-708-E). The layers above distribution
-- packets are a parameter.
use Rattle.std.specs.Prelude.{◌≡◌, ℕ, ◌%◌, ◌^◌, ◌≤◌, ◌⊎◌, List, [], ◌∷◌, ◌++◌, length}
use Rattle.cc_base.specs.declared.refusal.Refusal.{Refusal}
use Rattle.cc_base.specs.declared.why.Why.TheVariants as why
use Rattle.cdp_packets.specs.Packets.{Frame}
use Rattle.words_files.specs.Frames.{IsFileOf}
use Rattle.words_files.specs.Layers.{Layers}
use Rattle.words_files.specs.Reasons.{HasReason}

-- the bytes are a words file of the frames, and the layers above take all that the frames say
pub record IsFileUnder (layers : Layers) (frames : List Frame) (bytes : List ℕ) : Type 0 where
  pub file : IsFileOf frames bytes
  pub accepted : layers.Take frames

-- some such file begins with the bytes
pub record Begins (layers : Layers) (bytes : List ℕ) : Type 0 where
  pub more : List ℕ
  pub frames : List Frame
  pub is_file : IsFileUnder layers frames (bytes ++ more)

-- the bytes are whole words, two bytes each
abbrev pub AreWholeWords : List ℕ → Type 0
AreWholeWords bytes = length bytes % 2 ≡ 0

-- the bytes have a first offending word: some file begins with the words before it, and none with these and the word itself;
-- its place is the number of its first byte, modulo 2^64, and its reason is that for which it offends after them
pub record FirstOffendingWord (layers : Layers) (bytes : List ℕ) (refusal : Refusal) : Type 0 where
  pub before : List ℕ
  pub high : ℕ
  pub low : ℕ
  pub rest : List ℕ
  pub spelled : bytes ≡ before ++ high ∷ low ∷ rest
  pub whole : AreWholeWords before
  pub begins : Begins layers before
  pub offends : Begins layers (before ++ high ∷ low ∷ []) → ⊥
  pub place_is : refusal.place ≡ length before % 2 ^ 64
  pub why_is : HasReason layers before high low refusal.why

-- no word of the bytes offends: some file begins with their words. A single last byte is no word
pub record IsUnoffending (layers : Layers) (bytes : List ℕ) : Type 0 where
  pub words : List ℕ
  pub half : List ℕ
  pub spelled : bytes ≡ words ++ half
  pub whole : AreWholeWords words
  pub single : length half ≤ 1
  pub begins : Begins layers words

-- the bytes are cut short: no word offends, and they are no file; the place is their number, modulo 2^64
pub record IsCutShort (layers : Layers) (bytes : List ℕ) (refusal : Refusal) : Type 0 where
  pub unoffending : IsUnoffending layers bytes
  pub no_file : (frames : List Frame) → IsFileUnder layers frames bytes → ⊥
  pub place_is : refusal.place ≡ length bytes % 2 ^ 64
  pub why_is : refusal.why ≡ why.Truncated

-- the bytes are no file: a word of them offends, or they are cut short
abbrev pub IsMalformed : Layers → List ℕ → Refusal → Type 0
IsMalformed layers bytes refusal = FirstOffendingWord layers bytes refusal ⊎ IsCutShort layers bytes refusal
