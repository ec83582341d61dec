-- Between crates: the program's answer stands on none of these definitions.
-- How far the end of an ancillary packet is at least (SMPTE ST 291-1): a packet has the flag of three words, DID, SDID, the
-- count, as many user words as it says, and the checksum word.
use Rattle.std.specs.Prelude.{ℕ, ◌+◌, ◌-◌, ◌*◌, ◌%◌, List, [], ◌∷◌, length, Option, Some, None}
use Rattle.anc_words.specs.Reading.{Open}

-- the number of words that a packet has at least after these of its words
abbrev pub words_to_end : List ℕ → ℕ
words_to_end [] = 7
words_to_end (first ∷ []) = 6
words_to_end (first ∷ second ∷ []) = 5
words_to_end (first ∷ second ∷ third ∷ []) = 4
words_to_end (first ∷ second ∷ third ∷ did ∷ []) = 3
words_to_end (first ∷ second ∷ third ∷ did ∷ sdid ∷ []) = 2
words_to_end (first ∷ second ∷ third ∷ did ∷ sdid ∷ count ∷ user) = count % 256 - length user + 1

-- the bytes of a word of which the high one has come
abbrev pub half_of_word : Option ℕ → ℕ
half_of_word None = 0
half_of_word (Some high) = 1

-- the number of bytes that come at least, down to the last one of a packet
abbrev pub bytes_to_end : Open → ℕ
bytes_to_end front = 2 * words_to_end front.words - half_of_word front.high
