-- Between crates: the program's answer stands on none of these definitions.
-- Where a packet of extended data ends (CTA-608-E, 47 CFR 79.101), in the standard's words: the four conditions under which an end pair ends the
-- packet of the segment that it closes.
use Rattle.std.specs.Prelude.{◌≡◌, ◌↔◌, ℕ, ◌+◌, ◌-◌, ◌*◌, ◌%◌, ◌≤◌, true, false, List, ◌∷◌, ◌++◌, length, Option, Some, None}
use Rattle.std.specs.List.{All, filter, sum}
use Rattle.line21_codes.specs.declared.codes.Code.{Code}
use Rattle.line21_codes.specs.declared.codes.Code.TheVariants.{Xds}
use Rattle.xds_packets.specs.declared.packets.XdsPacket.{XdsPacket}
use Rattle.xds_packets.specs.Segments.{Segment, is_ended, is_of_type, open_of, segments, segments_text, starts_class}
use Rattle.xds_packets.specs.Reading.{ends_at}

-- the segment that is open is of the packet's class and type: an end pair now closes it
abbrev pub IsOpenOf : XdsPacket → Option Segment → Type 0
IsOpenOf packet None = ⊥
IsOpenOf packet (Some segment) = (segment.class ≡ packet.class) × (segment.kind ≡ packet.kind)

-- the bytes of the packet's start pair, of its text, 0F and the checksum
abbrev pub sum_with : XdsPacket → ℕ → ℕ
sum_with packet check = (2 * packet.class - 1) + packet.kind + sum packet.text + 0x0F + check

-- an end pair with this second byte ends the packet after these segments
pub record EndsBehind (segments : List Segment) (check : ℕ) (packet : XdsPacket) : Type 0 where
  pub closes : IsOpenOf packet (open_of segments)
  -- the last start pair of the class has the packet's type
  pub earlier : List Segment
  pub start : Segment
  pub later : List Segment
  pub segments_are : segments ≡ earlier ++ start ∷ later
  pub is_start : starts_class packet.class start ≡ true
  pub is_last : All (λ segment. starts_class packet.class segment ≡ false) later
  pub kind_is : start.kind ≡ packet.kind
  -- no earlier end pair after it closed a segment of the class and type
  pub unended : All (λ segment. is_ended segment ≡ false) (filter (is_of_type packet.class packet.kind) (start ∷ later))
  -- the segments of the class and type since then have together at most 32 bytes, which are the text
  pub text_is : packet.text ≡ segments_text (filter (is_of_type packet.class packet.kind) (start ∷ later))
  pub fits : length packet.text ≤ 32
  -- and these sum up with the start pair and the end pair
  pub sums : sum_with packet check % 128 ≡ 0

-- an end pair ends a packet exactly where these hold
abbrev pub PacketsEndHere : Type 0
PacketsEndHere = (before : List Code) (check : ℕ) (packet : XdsPacket) → (ends_at before (Xds 0x0F check) ≡ Some packet) ↔ EndsBehind (segments before) check packet

-- and nothing but an end pair does
abbrev pub EndPairsAloneEnd : Type 0
EndPairsAloneEnd = (before : List Code) (code : Code) (packet : XdsPacket) → ends_at before code ≡ Some packet → (check : ℕ) × (code ≡ Xds 0x0F check)
