-- Believed: the library's answers stand on these definitions.
-- What a reader of words keeps of the open packet: which word comes next, and the sum for the checksum.
use Rattle.std.specs.Prelude.{◌≡◌, ℕ, ◌-◌, ◌%◌, ◌<◌, nat_lt, if◌then◌else◌, List, [], ◌∷◌, length, Option}
use Rattle.std.specs.List.{All, sum}
use Rattle.cc_base.specs.declared.refusal.Refusal.{Refusal}
use Rattle.cc_base.specs.Syntax.{HasTaken}
use Rattle.anc_words.specs.declared.open_packet.Next.{Next}
use Rattle.anc_words.specs.declared.open_packet.Next.TheVariants as next
use Rattle.anc_words.specs.declared.open_packet.OpenPacket.{OpenPacket}
use Rattle.anc_words.specs.declared.reader.WordReader.{WordReader}
use Rattle.anc_words.specs.Reading.{Open, anc_syntax, is_caption}

-- the word that comes next, after the words of the open packet
abbrev pub next_of : List ℕ → Next
next_of [] = next.Zeros
next_of (first ∷ []) = next.Ones
next_of (first ∷ second ∷ []) = next.MoreOnes
next_of (first ∷ second ∷ third ∷ []) = next.Did
next_of (first ∷ second ∷ third ∷ did ∷ []) = next.Sdid (did % 256)
next_of (first ∷ second ∷ third ∷ did ∷ sdid ∷ []) = next.Count (did % 256) (sdid % 256)
next_of (first ∷ second ∷ third ∷ did ∷ sdid ∷ count ∷ user) =
    if nat_lt (length user) (count % 256) then next.User (is_caption did sdid) (count % 256 - length user - 1) else next.Checksum

-- the sum of the words that the checksum goes over, modulo 512
abbrev pub sum_of : List ℕ → ℕ
sum_of (first ∷ second ∷ third ∷ summed) = sum summed % 512
sum_of words = 0

-- it keeps what is open
pub record Keeps (front : Open) (packet : OpenPacket) : Type 0 where
  pub high : packet.high ≡ front.high
  pub next : packet.next ≡ next_of front.words
  pub sum : packet.sum ≡ sum_of front.words

-- the reader was fed these bytes, and refused none of their words
abbrev pub HasRead : List ℕ → WordReader → Type 0
HasRead bytes reader = All (λ byte. byte < 256) bytes
    × HasTaken anc_syntax Keeps bytes reader.fed

-- the refusal that it keeps
abbrev pub kept_refusal : WordReader → Option Refusal
kept_refusal reader = reader.fed.refusal
