-- Believed in part: the library's answers stand on some of these definitions.
-- How the words of ancillary packets are read (SMPTE ST 291-1), one byte after another. A word is judged by the words of the
-- open packet before it: the first three are the flag, then come DID, SDID and the count, then as many user words as the
-- count says, then the checksum word. A word above 3FF is refused for its high bits, whatever stands before it.
use Rattle.std.specs.Prelude.{◌≡◌, ℕ, ◌+◌, ◌*◌, ◌%◌, ◌^◌, ◌==◌, ◌&&◌, ◌||◌, not, nat_lt, if◌then◌else◌, Bool, List, [], ◌∷◌, ◌++◌, length, map, Option, Some, None}
use Rattle.cc_base.specs.declared.refusal.Refusal.{Refusal}
use Rattle.cc_base.specs.declared.step.Step.{Step}
use Rattle.cc_base.specs.declared.step.Step.TheVariants.{Nothing, One, Refuse}
use Rattle.cc_base.specs.declared.why.Why.TheVariants as why
use Rattle.cc_base.specs.Feeding.{Verdict, hand}
use Rattle.cc_base.specs.Syntax.{AllRead, Syntax, open_behind, parts_of}
use Rattle.anc_words.specs.declared.parts.WordPart.{WordPart}
use Rattle.anc_words.specs.declared.parts.WordPart.TheVariants as part
use Rattle.anc_words.specs.Packets.{AncillaryPacket}
use Rattle.anc_words.specs.Writing.{eight_bit_word, checksum_word}

-- the word is the 8-bit word of its bits 7 to 0
abbrev pub is_eight_bit : ℕ → Bool
is_eight_bit word = word == eight_bit_word (word % 256)

-- the identifiers, as words, are a caption packet's
abbrev pub is_caption : ℕ → ℕ → Bool
is_caption did sdid = (did % 256 == 0x61) && (sdid % 256 == 0x01)

-- what is made of a word of ten bits, after the words of the open packet
abbrev pub judge_ten_bits : List ℕ → ℕ → Step WordPart
judge_ten_bits [] word = if word == 0x000 then Nothing else Refuse why.Flag
judge_ten_bits (first ∷ []) word = if word == 0x3FF then Nothing else Refuse why.Flag
judge_ten_bits (first ∷ second ∷ []) word = if word == 0x3FF then Nothing else Refuse why.Flag
judge_ten_bits (first ∷ second ∷ third ∷ []) word = if is_eight_bit word then Nothing else Refuse why.WordParity
judge_ten_bits (first ∷ second ∷ third ∷ did ∷ []) word = if is_eight_bit word then Nothing else Refuse why.WordParity
judge_ten_bits (first ∷ second ∷ third ∷ did ∷ sdid ∷ []) word =
    if is_eight_bit word then One (part.Start (did % 256) (sdid % 256) (word % 256)) else Refuse why.WordParity
judge_ten_bits (first ∷ second ∷ third ∷ did ∷ sdid ∷ count ∷ user) word =
    if nat_lt (length user) (count % 256)
    then (if is_eight_bit word || not (is_caption did sdid) then One (part.User word) else Refuse why.WordParity)
    else if word == checksum_word (did ∷ sdid ∷ count ∷ user) then One part.End else Refuse why.AncSum

-- what is made of a word
abbrev pub judge_word : List ℕ → ℕ → Step WordPart
judge_word words word = if nat_lt word 0x400 then judge_ten_bits words word else Refuse why.HighBits

-- the words of the open packet after one more; the checksum word ends the packet
abbrev pub words_after : List ℕ → ℕ → List ℕ
words_after (first ∷ second ∷ third ∷ did ∷ sdid ∷ count ∷ user) word =
    if nat_lt (length user) (count % 256) then first ∷ second ∷ third ∷ did ∷ sdid ∷ count ∷ (user ++ word ∷ []) else []
words_after words word = words ++ word ∷ []

-- what is open between two bytes: the high byte of a word whose low byte comes next, and the words of the open packet
pub record Open : Type 0 where
  pub high : Option ℕ
  pub words : List ℕ

-- nothing is open
abbrev pub nothing_open : Open
nothing_open = record { high = None; words = [] }

-- what is made of a byte: a high byte makes nothing, and a low byte ends its word
abbrev pub judge_half : Option ℕ → List ℕ → ℕ → Step WordPart
judge_half None words high = Nothing
judge_half (Some high) words low = judge_word words (256 * high + low)

abbrev pub judge_byte : Open → ℕ → Step WordPart
judge_byte front byte = judge_half front.high front.words byte

-- what is open after one more byte
abbrev pub half_after : Option ℕ → List ℕ → ℕ → Open
half_after None words high = record { high = Some high; words = words }
half_after (Some high) words low = record { high = None; words = words_after words (256 * high + low) }

abbrev pub open_after : Open → ℕ → Open
open_after front byte = half_after front.high front.words byte

-- so the bytes of ancillary packets are read
abbrev pub anc_syntax : Syntax Open ℕ WordPart
anc_syntax = record { start = nothing_open; judge = judge_byte; after = open_after }

-- and their words, where each is whole
abbrev pub word_syntax : Syntax (List ℕ) ℕ WordPart
word_syntax = record { start = []; judge = judge_word; after = words_after }

-- the parts of a packet
abbrev pub packet_parts : AncillaryPacket → List WordPart
packet_parts packet = part.Start packet.did packet.sdid (length packet.user) ∷ (map part.User packet.user ++ part.End ∷ [])

-- the bytes have a first refused word: no word before it is refused, nor is their last byte half of one. The refusal's place is
-- the number of its first byte, modulo 2^64. The reason is the word's own, or the reason above for the part which it completes
pub record HasRefusedWord (verdict : Verdict WordPart) (bytes : List ℕ) (refusal : Refusal) : Type 0 where
  pub before : List ℕ
  pub high : ℕ
  pub low : ℕ
  pub rest : List ℕ
  pub spelled : bytes ≡ before ++ high ∷ low ∷ rest
  pub unrefused : AllRead anc_syntax before
  pub whole : (open_behind anc_syntax before).high ≡ None
  pub place_is : refusal.place ≡ length before % 2 ^ 64
  pub why_is : (hand verdict (parts_of anc_syntax before) (judge_word (open_behind anc_syntax before).words (256 * high + low))).why ≡ Some refusal.why
