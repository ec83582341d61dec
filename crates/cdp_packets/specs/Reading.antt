-- Believed in part: the program's answer stands on some of these definitions.
-- How a caption distribution packet is read (SMPTE ST 334-2), one byte after another, where its length is known from the
-- ancillary packet that carries it: seven bytes, the sections, and four bytes of the footer. A byte is judged by the bytes
-- before it, and one of a section by the open section and its open triplet. It is refused where no packet of the length goes
-- on with it.
use Rattle.std.specs.Prelude.{◌≡◌, ◌≢◌, ℕ, ◌+◌, ◌-◌, ◌*◌, ◌/◌, ◌%◌, ◌<◌, ◌≤◌, ◌==◌, ◌&&◌, ◌||◌, not, nat_le, nat_lt, if◌then◌else◌, Bool, true, false, List, [], ◌∷◌, ◌++◌, length, sum, Option, Some, None}
use Rattle.std.specs.Bool.{⊤}
use Rattle.std.specs.List.{All}
use Rattle.cc_base.specs.declared.rate.Rate.{Rate}
use Rattle.cc_base.specs.declared.step.Step.{Step}
use Rattle.cc_base.specs.declared.step.Step.TheVariants.{Nothing, One, Two, Refuse}
use Rattle.cc_base.specs.declared.why.Why.TheVariants as why
use Rattle.cc_base.specs.Rate.{rate_of}
use Rattle.cc_base.specs.Syntax.{Syntax, open_behind, parts_from}
use Rattle.cc_data.specs.Triplets.{triplet_of}
use Rattle.cdp_packets.specs.declared.parts.CdpPart.{CdpPart}
use Rattle.cdp_packets.specs.declared.parts.CdpPart.TheVariants as part
use Rattle.cdp_packets.specs.Packets.{Frame, IsCdp}
use Rattle.cdp_packets.specs.Sections.{is_id, section_rest}

-- a packet can have this length: eleven bytes stand around the sections, and a list of sections never has one byte
abbrev pub IsPacketLength : ℕ → Type 0
IsPacketLength size = (11 ≤ size) × (size ≢ 12)

-- some list of sections of this many bytes begins with this id: the section needs two bytes, a time code five, and after it
-- stands no single byte
abbrev pub id_fits : ℕ → ℕ → Bool
id_fits left id = is_id id && nat_le 2 left
    && (if id == 0x71 then nat_le 5 left && not (left == 6) else if nat_le id 0x73 then not (left == 3) else true)

-- some list of sections can continue with this second byte, where this many bytes are left, itself among them: the section has no
-- more than these, and after it stands no single byte
abbrev pub count_fits : ℕ → ℕ → ℕ → Bool
count_fits left id count = nat_le (section_rest id count + 1) left && not (left == section_rest id count + 2)

-- what is made of a triplet's next byte, after those before it: two bytes make a half, with a third byte 0, and three a triplet
abbrev pub judge_triplet : List ℕ → ℕ → Step CdpPart
judge_triplet [] byte = One (part.SectionByte byte)
judge_triplet (first ∷ []) byte = Two (part.SectionByte byte) (part.Half (triplet_of first byte 0))
judge_triplet (first ∷ second ∷ more) byte = Two (part.SectionByte byte) (part.Triplet (triplet_of first second byte))

-- what is made of a byte of the sections, where this many are left, itself among them, after the open section and triplet
abbrev pub judge_section : ℕ → List ℕ → List ℕ → ℕ → Step CdpPart
judge_section left [] triplet byte = if id_fits left byte then One (part.SectionByte byte) else Refuse why.Section
judge_section left (id ∷ []) triplet byte =
    if id == 0x71 || count_fits left id byte then One (part.SectionByte byte) else Refuse why.Count
judge_section left (id ∷ second ∷ rest) triplet byte = if id == 0x72 then judge_triplet triplet byte else One (part.SectionByte byte)

-- what is made of a byte of the footer, where this many are left, itself among them: the footer's id, the counter of this high
-- and low byte, and the byte that makes the sum 0 with the bytes before it
abbrev pub judge_footer : ℕ → ℕ → ℕ → ℕ → ℕ → Step CdpPart
judge_footer left high low total byte =
    if left == 4 then (if byte == 0x74 then Nothing else Refuse why.Section)
    else if left == 3 then (if byte == high then Nothing else Refuse why.Counter)
    else if left == 2 then (if byte == low then Nothing else Refuse why.Counter)
    else if left == 1 then (if (total + byte) % 256 == 0 then One part.End else Refuse why.Sum)
    else Nothing

-- what is made of a rate
abbrev pub judge_rate : Option Rate → Step CdpPart
judge_rate None = Refuse why.Rate
judge_rate (Some rate) = One (part.Rate rate)

-- what is open between two bytes: the bytes so far, their sum, and the bytes of the open section and of its open triplet
pub record Open : Type 0 where
  pub bytes : List ℕ
  pub total : ℕ
  pub section : List ℕ
  pub triplet : List ℕ

-- nothing is open
abbrev pub nothing_open : Open
nothing_open = record { bytes = []; total = 0; section = []; triplet = [] }

-- all these bytes have come, and no section is open
abbrev pub no_section_open : List ℕ → Open
no_section_open bytes = record { bytes = bytes; total = sum bytes; section = []; triplet = [] }

-- what is made of a byte of a packet of this length, after these bytes, their sum, and the open section and triplet
abbrev pub judge_behind : ℕ → List ℕ → ℕ → List ℕ → List ℕ → ℕ → Step CdpPart
judge_behind size [] total section triplet byte = if byte == 0x96 then Nothing else Refuse why.Identifier
judge_behind size (mark ∷ []) total section triplet byte = if byte == 0x69 then Nothing else Refuse why.Identifier
judge_behind size (mark ∷ second ∷ []) total section triplet byte = if byte == size then Nothing else Refuse why.Length
judge_behind size (mark ∷ second ∷ long ∷ []) total section triplet byte = judge_rate (rate_of (byte / 16))
judge_behind size (mark ∷ second ∷ long ∷ rate ∷ []) total section triplet byte = One (part.Flags byte)
judge_behind size (mark ∷ second ∷ long ∷ rate ∷ flags ∷ []) total section triplet byte = Nothing
judge_behind size (mark ∷ second ∷ long ∷ rate ∷ flags ∷ high ∷ []) total section triplet byte = One (part.Counter (256 * high + byte))
judge_behind size (mark ∷ second ∷ long ∷ rate ∷ flags ∷ high ∷ low ∷ body) total section triplet byte =
    if nat_lt (length body + 11) size then judge_section (size - 11 - length body) section triplet byte
    else judge_footer (size - 7 - length body) high low total byte

abbrev pub judge_cdp : ℕ → Open → ℕ → Step CdpPart
judge_cdp size open_packet byte =
    judge_behind size open_packet.bytes open_packet.total open_packet.section open_packet.triplet byte

-- the open section after one more byte: none, where that was its last
abbrev pub section_behind : List ℕ → ℕ → List ℕ
section_behind [] byte = byte ∷ []
section_behind (id ∷ []) byte = if section_rest id byte == 0 then [] else id ∷ byte ∷ []
section_behind (id ∷ second ∷ rest) byte = if nat_le (section_rest id second) (length rest + 1) then [] else id ∷ second ∷ (rest ++ byte ∷ [])

-- the open triplet after one more byte
abbrev pub bytes_behind : List ℕ → ℕ → List ℕ
bytes_behind [] byte = byte ∷ []
bytes_behind (first ∷ []) byte = first ∷ byte ∷ []
bytes_behind (first ∷ second ∷ more) byte = []

-- triplets follow the first two bytes of a cc_data section
abbrev pub triplet_behind : List ℕ → List ℕ → ℕ → List ℕ
triplet_behind (id ∷ second ∷ rest) triplet byte = if id == 0x72 then bytes_behind triplet byte else []
triplet_behind section triplet byte = []

-- the next byte is one of a section of a packet of this length
abbrev pub is_in_sections : ℕ → List ℕ → Bool
is_in_sections size (mark ∷ second ∷ long ∷ rate ∷ flags ∷ high ∷ low ∷ body) = nat_lt (length body + 11) size
is_in_sections size bytes = false

-- what is open after one more byte; bytes after the packet's last one change nothing
abbrev pub open_after : ℕ → Open → ℕ → Open
open_after size open_packet byte =
    if nat_lt (length open_packet.bytes) size then record {
      bytes = open_packet.bytes ++ byte ∷ [];
      total = open_packet.total + byte;
      section = if is_in_sections size open_packet.bytes then section_behind open_packet.section byte else [];
      triplet = if is_in_sections size open_packet.bytes then triplet_behind open_packet.section open_packet.triplet byte else [];
    } else open_packet

-- so a packet of this length is read
abbrev pub cdp_syntax : ℕ → Syntax Open ℕ CdpPart
cdp_syntax size = record { start = nothing_open; judge = judge_cdp size; after = open_after size }

-- the part says nothing of captions: it isn't of a triplet, or it is a half with no byte but the first, or a triplet whose last
-- byte is 0
abbrev pub IsFilling : CdpPart → Type 0
IsFilling (part.Half triplet) = (triplet.a ≡ 0) × (triplet.b ≡ 0)
IsFilling (part.Triplet triplet) = triplet.b ≡ 0
IsFilling _ = ⊤

-- bytes begin a packet of this length, whose other bytes fill it
pub record GoesOnWithFilling (size : ℕ) (bytes : List ℕ) : Type 0 where
  pub more : List ℕ
  pub bytes_are : All (λ byte. byte < 256) more
  pub long : length (bytes ++ more) ≡ size
  pub packet : Frame
  pub is : IsCdp packet (bytes ++ more)
  pub filling : All IsFilling (parts_from (cdp_syntax size) (open_behind (cdp_syntax size) bytes) more)
