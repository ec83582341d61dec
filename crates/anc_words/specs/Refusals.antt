-- Believed: the program's answer stands on these definitions.
-- Where a word of an ancillary packet can be refused, and for what (SMPTE ST 291-1, SMPTE ST 334-1): by the words of the packet
-- before it, and by what the word is.
use Rattle.std.specs.Prelude.{◌≡◌, ◌≢◌, ℕ, ◌%◌, ◌<◌, ◌≤◌, List, [], ◌∷◌, length, ⊤}
use Rattle.cc_base.specs.declared.why.Why.{Why}
use Rattle.cc_base.specs.declared.why.Why.TheVariants as why
use Rattle.anc_words.specs.Checksums.{IsChecksum}
use Rattle.anc_words.specs.EightBitWords.{IsEightBit}

-- after these words stands this word of the flag
abbrev pub FlagIsNext : List ℕ → ℕ → Type 0
FlagIsNext [] flag = flag ≡ 0x000
FlagIsNext (first ∷ []) flag = flag ≡ 0x3FF
FlagIsNext (first ∷ second ∷ []) flag = flag ≡ 0x3FF
FlagIsNext _ flag = ⊥

-- after these words stands an 8-bit word: DID, SDID, the count, or a user word of captions
abbrev pub EightBitIsNext : List ℕ → Type 0
EightBitIsNext (first ∷ second ∷ third ∷ []) = ⊤
EightBitIsNext (first ∷ second ∷ third ∷ did ∷ []) = ⊤
EightBitIsNext (first ∷ second ∷ third ∷ did ∷ sdid ∷ []) = ⊤
EightBitIsNext (first ∷ second ∷ third ∷ did ∷ sdid ∷ count ∷ user) =
    (length user < count % 256) × (did % 256 ≡ 0x61) × (sdid % 256 ≡ 0x01)
EightBitIsNext _ = ⊥

-- after these words, as many user words among them as the count says, stands the checksum word of these
abbrev pub ChecksumIsNext : List ℕ → List ℕ → Type 0
ChecksumIsNext (first ∷ second ∷ third ∷ did ∷ sdid ∷ count ∷ user) summed =
    (count % 256 ≤ length user) × (summed ≡ did ∷ sdid ∷ count ∷ user)
ChecksumIsNext _ summed = ⊥

-- after these words no packet can continue with this word, for this reason: it is above 3FF, or else it isn't the flag's word, no 8-bit
-- word, or not the checksum word, where one of these stands
abbrev pub WordOffends : List ℕ → ℕ → Why → Type 0
WordOffends words word why.HighBits = 0x400 ≤ word
WordOffends words word why.Flag = (word < 0x400) × (flag : ℕ) × FlagIsNext words flag × (word ≢ flag)
WordOffends words word why.WordParity = (word < 0x400) × EightBitIsNext words × (IsEightBit (word % 256) word → ⊥)
WordOffends words word why.AncSum = (word < 0x400) × (summed : List ℕ) × ChecksumIsNext words summed × (IsChecksum summed word → ⊥)
WordOffends words word _ = ⊥
