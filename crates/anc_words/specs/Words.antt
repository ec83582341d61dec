-- Believed in part: the program's answer stands on some of these definitions.
-- The ten-bit words of ancillary data (SMPTE ST 291-1) as bytes: each word is two bytes, the high byte
-- first, with six zero bits on top. That a file writes them so is this project's choice.
use Rattle.std.specs.Prelude.{◌≡◌, ℕ, ◌+◌, ◌*◌, ◌<◌, List, [], ◌∷◌, ⊤}

-- the two bytes are the word, and the high one has six zero bits on top
pub record IsWord (high low word : ℕ) : Type 0 where
  pub zeros : high < 4
  pub byte : low < 256
  pub value : word ≡ 256 * high + low

-- the bytes are the words, two bytes each
abbrev pub AreWords : List ℕ → List ℕ → Type 0
AreWords [] [] = ⊤
AreWords (high ∷ low ∷ bytes) (word ∷ words) = IsWord high low word × AreWords bytes words
AreWords _ _ = ⊥

-- the words of bytes, pair by pair, whatever the high bytes have on top; a single byte at the end is no word
abbrev pub words_of : List ℕ → List ℕ
words_of [] = []
words_of (high ∷ []) = []
words_of (high ∷ low ∷ bytes) = (256 * high + low) ∷ words_of bytes
