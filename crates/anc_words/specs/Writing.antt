-- Believed in part: the program's answer stands on some of these definitions.
-- The one way in which a packet of bytes is written: each byte as its 8-bit word, whatever the packet's
-- identifiers, and each word as two bytes (SMPTE ST 291-1).
use Rattle.std.specs.Prelude.{ℕ, ◌+◌, ◌/◌, ◌%◌, ◌==◌, nat_lt, if◌then◌else◌, List, [], ◌∷◌, ◌++◌, map, length, count_ones}
use Rattle.std.specs.List.{flat_map, sum}
use Rattle.anc_words.specs.Packets.{AncillaryPacket}

-- the 8-bit word of a byte: bit 8 where the byte has an odd number of ones, else bit 9
abbrev pub eight_bit_word : ℕ → ℕ
eight_bit_word byte = if count_ones byte % 2 == 1 then byte + 0x100 else byte + 0x200

-- the word of these low nine bits: bit 9 where they lack bit 8
abbrev pub nine_bit_word : ℕ → ℕ
nine_bit_word low = if nat_lt low 0x100 then low + 0x200 else low

-- the checksum word of words; modulo 512 their sum is the sum of their low nine bits
abbrev pub checksum_word : List ℕ → ℕ
checksum_word words = nine_bit_word (sum words % 512)

-- the words of a packet that its checksum goes over: DID, SDID, count and the user words
abbrev pub summed_words : ℕ → ℕ → List ℕ → List ℕ
summed_words did sdid user =
    eight_bit_word did ∷ eight_bit_word sdid ∷ eight_bit_word (length user) ∷ map eight_bit_word user

-- the words of a packet of these user bytes
abbrev pub packet_words : ℕ → ℕ → List ℕ → List ℕ
packet_words did sdid user =
    0x000 ∷ 0x3FF ∷ 0x3FF ∷ (summed_words did sdid user ++ checksum_word (summed_words did sdid user) ∷ [])

-- the bytes of a word
abbrev pub word_bytes : ℕ → List ℕ
word_bytes word = (word / 256) ∷ (word % 256) ∷ []

-- the bytes of a packet of these user bytes
abbrev pub packet_bytes : ℕ → ℕ → List ℕ → List ℕ
packet_bytes did sdid user = flat_map word_bytes (packet_words did sdid user)

-- what it says
abbrev pub packet_of : ℕ → ℕ → List ℕ → AncillaryPacket
packet_of did sdid user = record { did = did; sdid = sdid; user = map eight_bit_word user }
