-- Between crates: the program's answer stands on none of these definitions.
-- The words of the bytes of a payload that were read so far, and of a file.
use Rattle.std.specs.Prelude.{ℕ, Bool, true, false, if◌then◌else◌, List, [], ◌∷◌, ◌++◌, map}
use Rattle.std.specs.List.{flat_map}
use Rattle.anc_words.specs.Writing.{eight_bit_word, word_bytes}
use Rattle.mcc_files.specs.Reading.{State, payload_in}
use Rattle.mcc_files.specs.declared.phase.Phase.{Phase}
use Rattle.mcc_files.specs.declared.phase.Phase.TheVariants as phase
use Rattle.mcc_files.specs.PayloadWords.{payload_words}
use Rattle.mcc_files.specs.PayloadReading.{is_whole}
use Rattle.mcc_words.specs.Close.{words_as_they_came}

-- the ancillary data flag
abbrev pub flag_words : List ℕ
flag_words = 0x00 ∷ 0x00 ∷ 0x03 ∷ 0xFF ∷ 0x03 ∷ 0xFF ∷ []

-- the 8-bit words of bytes
abbrev pub eight_words : List ℕ → List ℕ
eight_words bytes = flat_map word_bytes (map eight_bit_word bytes)

-- the words of the first bytes of a payload
abbrev pub open_words : List ℕ → List ℕ
open_words [] = []
open_words (byte ∷ bytes) =
    if is_whole (byte ∷ bytes) then payload_words (payload_in (byte ∷ bytes)) else flag_words ++ eight_words (byte ∷ bytes)

-- whether the line is a packet's whose payload has begun
abbrev pub is_open : Phase → Bool
is_open phase.Payload = true
is_open phase.Behind = true
is_open (phase.End packet) = packet
is_open _ = false

-- the words of a payload, where it is open
abbrev pub open_part : Bool → List ℕ → List ℕ
open_part true bytes = open_words bytes
open_part false bytes = []

-- the words of what was read: of the packets of the lines that ended, and of the open payload
abbrev pub state_words : State → List ℕ
state_words s = words_as_they_came s.placed ++ open_part (is_open s.phase) s.payload.bytes

-- with these bytes more
abbrev pub words_with : State → List ℕ → List ℕ
words_with s more = words_as_they_came s.placed ++ open_part (is_open s.phase) (s.payload.bytes ++ more)
