-- Believed: the program's answer stands on these definitions.
-- Which packets an MCC file carries, and what stands against others: packets of captions of one rate, which is one of those that time
-- codes of the file's count can count, and within the day; and other packets whose user words are 8-bit words.
use Rattle.std.specs.Prelude.{◌≡◌, ◌≢◌, ◌+◌, ◌%◌, ◌≤◌, ◌⊎◌, Bool, true, false, List, [], ◌∷◌, ◌++◌, length}
use Rattle.std.specs.List.{All}
use Rattle.anc_words.specs.EightBitWords.{IsEightBit}
use Rattle.anc_words.specs.Packets.{AncillaryPacket, IsCaption, user_bytes}
use Rattle.cc_base.specs.declared.limit_of.LimitOf.TheVariants as limit
use Rattle.cc_base.specs.declared.rate.Rate.{Rate}
use Rattle.cc_base.specs.declared.rate.Rate.TheVariants as rate
use Rattle.cdp_packets.specs.Packets.{Frame, IsCdp}
use Rattle.command_base.specs.declared.status.Status.{Status}
use Rattle.command_base.specs.declared.status.Status.TheVariants as status
use Rattle.findings.specs.declared.finding.Kind45.{Kind45}
use Rattle.findings.specs.declared.finding.Kind45.TheVariants as kind
use Rattle.time_codes.specs.Countings.{day_frames_in}
use Rattle.time_codes.specs.declared.counting.Counting.{Counting}
use Rattle.time_codes.specs.declared.counting.Counting.TheVariants as counting
use Rattle.mcc_commands.specs.declared.start.Start.{Start}

-- the rate whose frames time codes of a count are expected to count
abbrev pub expected_rate : Counting → Rate
expected_rate counting.F24 = rate.F23976
expected_rate counting.F25 = rate.F25
expected_rate counting.F30 = rate.F2997
expected_rate counting.F30Drop = rate.F2997
expected_rate counting.F50 = rate.F50
expected_rate counting.F60 = rate.F5994
expected_rate counting.F60Drop = rate.F5994

-- they can count frames of this rate: the expected one, or without drop frame the one of 1,001 frames to its 1,000
abbrev pub counts_rate : Counting → Rate → Bool
counts_rate counting.F24 rate.F23976 = true
counts_rate counting.F24 rate.F24 = true
counts_rate counting.F25 rate.F25 = true
counts_rate counting.F30 rate.F2997 = true
counts_rate counting.F30 rate.F30 = true
counts_rate counting.F30Drop rate.F2997 = true
counts_rate counting.F50 rate.F50 = true
counts_rate counting.F60 rate.F5994 = true
counts_rate counting.F60 rate.F60 = true
counts_rate counting.F60Drop rate.F5994 = true
counts_rate count other = false

-- the frames have one rate, which the count can count
pub record HaveOneRate (count : Counting) (frames : List Frame) : Type 0 where
  pub one : Rate
  pub counted : counts_rate count one ≡ true
  pub all : All (λ frame. frame.rate ≡ one) frames

-- the user words of a packet are 8-bit words
abbrev pub IsOfBytes : AncillaryPacket → Type 0
IsOfBytes packet = All (λ word. IsEightBit (word % 256) word) packet.user

-- packets that an MCC file carries, of which the packets of captions bring these frames
pub record AreExportedAsMcc (start : Start) (packets : List AncillaryPacket) (frames : List Frame) : Type 0 where
  pub rates : HaveOneRate start.count frames
  pub of_bytes : All IsOfBytes packets
  pub within_day : start.first + length frames ≤ day_frames_in start.count

-- a frame after others hasn't the rate of the first of them, which is expected
abbrev pub IsUnlikeFirst : List Frame → Rate → Rate → Type 0
IsUnlikeFirst [] expected seen = ⊥
IsUnlikeFirst (first ∷ frames) expected seen = (expected ≡ first.rate) × (seen ≢ first.rate)

-- after these frames this rate is expected in place of the one that is seen: the count's, where it can't count the latter, and else
-- the first frame's
abbrev pub IsWrongRate : Counting → List Frame → Rate → Rate → Type 0
IsWrongRate count frames expected seen =
    ((counts_rate count seen ≡ false) × (expected ≡ expected_rate count)) ⊎ ((counts_rate count seen ≡ true) × IsUnlikeFirst frames expected seen)

-- the packet is one of captions, and brings this frame
pub record Brings (packet : AncillaryPacket) (frame : Frame) : Type 0 where
  pub is_caption : IsCaption packet
  pub carries : IsCdp frame (user_bytes packet)

-- this is found at a packet after these frames
abbrev pub IsFoundAtPacket : Counting → List Frame → AncillaryPacket → Kind45 → Type 0
IsFoundAtPacket count frames packet (kind.WrongRate expected seen) =
    (frame : Frame) × Brings packet frame × (seen ≡ frame.rate) × IsWrongRate count frames expected seen
IsFoundAtPacket count frames packet kind.EightBits = (IsCaption packet → ⊥) × (IsOfBytes packet → ⊥)
IsFoundAtPacket count frames packet _ = ⊥

-- the packet is one of captions with the rate of the frames before it, for which the day has no frame
pub record IsPastDay (start : Start) (frames : List Frame) (packet : AncillaryPacket) : Type 0 where
  pub frame : Frame
  pub brings : Brings packet frame
  pub rates : HaveOneRate start.count (frames ++ frame ∷ [])
  pub past : day_frames_in start.count ≤ start.first + length frames

-- an export stops with this status at a packet after these frames: something is found at it, or the day has no frame for it
abbrev pub StopsAtPacket : Start → List Frame → AncillaryPacket → Status → Type 0
StopsAtPacket start frames packet (status.Differs finding) = (finding.frame ≡ length frames) × IsFoundAtPacket start.count frames packet finding.kind
StopsAtPacket start frames packet (status.Limit limit.Day) = IsPastDay start frames packet
StopsAtPacket start frames packet _ = ⊥
