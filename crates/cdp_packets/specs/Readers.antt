-- Believed in part: the library's answers stand on some of these definitions.
-- What a reader of caption distribution packets keeps of the open packet: which byte comes next, how many are left, the
-- counter and the sum.
use Rattle.std.specs.Prelude.{◌≡◌, ℕ, ◌+◌, ◌-◌, ◌%◌, ◌==◌, nat_lt, if◌then◌else◌, List, [], ◌∷◌, length, Option}
use Rattle.cc_base.specs.declared.refusal.Refusal.{Refusal}
use Rattle.cc_base.specs.Syntax.{HasTaken}
use Rattle.cdp_packets.specs.declared.open_packet.Footer.TheVariants as footer
use Rattle.cdp_packets.specs.declared.open_packet.Head.TheVariants as head
use Rattle.cdp_packets.specs.declared.open_packet.OpenPacket.{OpenPacket}
use Rattle.cdp_packets.specs.declared.open_packet.Place.{Place}
use Rattle.cdp_packets.specs.declared.open_packet.Place.TheVariants as place
use Rattle.cdp_packets.specs.declared.open_triplet.OpenTriplet.{OpenTriplet}
use Rattle.cdp_packets.specs.declared.open_triplet.OpenTriplet.TheVariants as open_triplet
use Rattle.cdp_packets.specs.declared.within.Within.{Within}
use Rattle.cdp_packets.specs.declared.within.Within.TheVariants as within
use Rattle.cdp_packets.specs.declared.reader.CdpReader.{CdpReader}
use Rattle.cdp_packets.specs.Reading.{IsPacketLength, Open, cdp_syntax}
use Rattle.cdp_packets.specs.Sections.{section_rest}

-- the bytes of the open triplet
abbrev pub kept_of_triplet : List ℕ → OpenTriplet
kept_of_triplet [] = open_triplet.Empty
kept_of_triplet (first ∷ []) = open_triplet.One first
kept_of_triplet (first ∷ second ∷ more) = open_triplet.Two first second

-- the byte of the sections that comes next, after the open section and triplet
abbrev pub next_of_section : List ℕ → List ℕ → Within
next_of_section [] triplet = within.Id
next_of_section (id ∷ []) triplet = within.Count id
next_of_section (id ∷ second ∷ rest) triplet =
    if id == 0x72 then within.Triplet (section_rest id second - length rest) (kept_of_triplet triplet) else within.Body (section_rest id second - length rest)

-- the byte of the footer that comes next, where this many are left
abbrev pub next_of_footer : ℕ → Place
next_of_footer left =
    if left == 4 then place.Footer footer.Id
    else if left == 3 then place.Footer footer.High
    else if left == 2 then place.Footer footer.Low
    else if left == 1 then place.Footer footer.Sum
    else place.Done

-- the byte of a packet of this length that comes next
abbrev pub next_of : ℕ → List ℕ → List ℕ → List ℕ → Place
next_of size [] section triplet = place.Head head.First
next_of size (mark ∷ []) section triplet = place.Head head.Second
next_of size (mark ∷ second ∷ []) section triplet = place.Head head.Length
next_of size (mark ∷ second ∷ long ∷ []) section triplet = place.Head head.Rate
next_of size (mark ∷ second ∷ long ∷ rate ∷ []) section triplet = place.Head head.Flags
next_of size (mark ∷ second ∷ long ∷ rate ∷ flags ∷ []) section triplet = place.Head head.High
next_of size (mark ∷ second ∷ long ∷ rate ∷ flags ∷ high ∷ []) section triplet = place.Head head.Low
next_of size (mark ∷ second ∷ long ∷ rate ∷ flags ∷ high ∷ low ∷ body) section triplet =
    if nat_lt (length body + 11) size then place.Sections (next_of_section section triplet)
    else next_of_footer (size - 7 - length body)

-- the bytes of the counter, once they have come
abbrev pub high_counter_byte : List ℕ → ℕ
high_counter_byte (mark ∷ second ∷ long ∷ rate ∷ flags ∷ high ∷ rest) = high
high_counter_byte bytes = 0

abbrev pub low_counter_byte : List ℕ → ℕ
low_counter_byte (mark ∷ second ∷ long ∷ rate ∷ flags ∷ high ∷ low ∷ rest) = low
low_counter_byte bytes = 0

-- it keeps what is open of a packet of this length
pub record Keeps (size : ℕ) (front : Open) (packet : OpenPacket) : Type 0 where
  pub can_be : IsPacketLength size
  pub long : packet.length ≡ size
  pub next : packet.next ≡ next_of size front.bytes front.section front.triplet
  pub left : packet.left ≡ size - length front.bytes
  pub high : packet.high ≡ high_counter_byte front.bytes
  pub low : packet.low ≡ low_counter_byte front.bytes
  pub total : packet.total ≡ front.total % 256

-- what is kept after one more byte, where this one comes next
pub record GoesOn (old : OpenPacket) (byte : ℕ) (following : Place) (new : OpenPacket) : Type 0 where
  pub next : new.next ≡ following
  -- one byte fewer is left
  pub left : new.left ≡ old.left - 1
  -- the byte is in the sum
  pub total : new.total ≡ (old.total + byte) % 256
  -- the length of the packet and the counter's bytes stay
  pub long : new.length ≡ old.length
  pub high : new.high ≡ old.high
  pub low : new.low ≡ old.low

-- the reader of a packet of this length was fed these bytes, and refused none of them
abbrev pub HasRead : ℕ → List ℕ → CdpReader → Type 0
HasRead size bytes reader = HasTaken (cdp_syntax size) (Keeps size) bytes reader.fed

-- the refusal that it keeps
abbrev pub kept_refusal : CdpReader → Option Refusal
kept_refusal reader = reader.fed.refusal
