-- Between crates: the program's answer stands on none of these definitions.
-- Steps on the way through packets whose MCC file is put.
use Rattle.std.specs.Prelude.{◌≡◌, ◌≢◌, ℕ, ◌+◌, ◌-◌, ◌<◌, ◌≤◌, ◌⊎◌, true, false, List, [], ◌∷◌, ◌++◌, length, take, Option, Some, None, Result, Ok, Err}
use Rattle.anc_words.specs.Packets.{AncillaryPacket, IsCaption}
use Rattle.anc_words.specs.WordsFiles.{IsPacketBytes}
use Rattle.cc_base.specs.declared.limit_of.LimitOf.TheVariants as limit
use Rattle.cc_base.specs.declared.rate.Rate.{Rate}
use Rattle.cdp_packets.specs.Packets.{Frame}
use Rattle.command_base.specs.declared.status.Status.{Status}
use Rattle.command_base.specs.declared.status.Status.TheVariants as status
use Rattle.cc_base.specs.Streams.{Puts}
use Rattle.cc_base.specs.declared.streams.Put.TheVariants as put
use Rattle.findings.specs.declared.finding.Kind45.TheVariants as kind
use Rattle.mcc_files.specs.Writing.{IsWrittenLine}
use Rattle.mcc_files.specs.Payloads.{Payload}
use Rattle.mcc_files.specs.PayloadWords.{payload_of}
use Rattle.words_reading.specs.OpenPackets.{HasRead, HasReadPackets, open_bytes}
use Rattle.services_files.specs.CaptionChannel.{caption_channel}
use Rattle.time_codes.specs.Countings.{day_frames_in}
use Rattle.time_codes.specs.declared.counting.Counting.{Counting}
use Rattle.text_output.specs.Gathered.{Gathers}
use Rattle.words_files.specs.Offences.{IsUnoffending}
use Rattle.words_reading.specs.declared.judge.Stop.{Stop}
use Rattle.words_reading.specs.declared.judge.Stop.TheVariants as stop
use Rattle.mcc_commands.specs.ExportMcc.{SaysMcc}
use Rattle.mcc_commands.specs.Exported.{IsOfBytes, IsWrongRate, counts_rate, expected_rate}
use Rattle.mcc_commands.specs.declared.clock.Clock.{Clock}
use Rattle.mcc_commands.specs.declared.export_stop.MccStop.{MccStop}
use Rattle.mcc_commands.specs.declared.export_stop.MccStop.TheVariants as reason
use Rattle.mcc_commands.specs.declared.start.Start.{Start}
use Rattle.mcc_commands.specs.declared.exporting.Exporting.{Exporting}
use Rattle.mcc_commands.specs.declared.said.Said.{Said}

-- the status of an export that stopped at a packet
abbrev pub stop_status : MccStop → Status
stop_status (reason.Found finding) = status.Differs finding
stop_status reason.Day = status.Limit limit.Day

-- how the time codes of a clock count, and the frame and the rate of the packet of captions before
abbrev pub clock_count : Clock → Counting
clock_count clock = clock.count

abbrev pub clock_last : Clock → ℕ
clock_last clock = clock.last

abbrev pub clock_rate : Clock → Option Rate
clock_rate clock = clock.rate

-- the rate of the first of frames
abbrev pub first_rate : List Frame → Option Rate
first_rate [] = None
first_rate (first ∷ frames) = Some first.rate

-- a clock stands after frames
pub record StandsBehind (start : Start) (frames : List Frame) (clock : Clock) : Type 0 where
  pub count_is : clock.count ≡ start.count
  pub last_is : clock.last ≡ start.first + (length frames - 1)
  pub rate_is : clock.rate ≡ first_rate frames

-- the frame after the last one, where there is one
abbrev pub IsNext : Option Rate → ℕ → ℕ → Type 0
IsNext None last next = next ≡ last
IsNext (Some before) last next = next ≡ last + 1

-- a rate is the one before, where there is one
abbrev pub IsRateBefore : Option Rate → Rate → Type 0
IsRateBefore None seen = Unit {0}
IsRateBefore (Some before) seen = seen ≡ before

-- the rate that is expected in place of the one that is seen, if another one is
abbrev pub TellsRate : Counting → Option Rate → Rate → Option Rate → Type 0
TellsRate count before seen None = (counts_rate count seen ≡ true) × IsRateBefore before seen
TellsRate count before seen (Some expected) =
    ((counts_rate count seen ≡ false) × (expected ≡ expected_rate count))
    ⊎ ((counts_rate count seen ≡ true) × (before ≡ Some expected) × (seen ≢ expected))

-- a frame after others has a rate that is expected
abbrev pub HasRate : Counting → List Frame → Rate → Type 0
HasRate count [] seen = counts_rate count seen ≡ true
HasRate count (first ∷ frames) seen = (counts_rate count seen ≡ true) × (seen ≡ first.rate)

-- a packet of captions of this rate stops an export after these frames
abbrev pub IsStoppedBy : Start → List Frame → Rate → MccStop → Type 0
IsStoppedBy start frames seen (reason.Found finding) =
    (expected : Rate) × IsWrongRate start.count frames expected seen × (finding ≡ record { frame = length frames; kind = kind.WrongRate expected seen })
IsStoppedBy start frames seen reason.Day = HasRate start.count frames seen × (day_frames_in start.count ≤ start.first + length frames)

-- a packet of captions of this rate was passed, and stands at this frame of the day
pub record IsPassed (start : Start) (frames : List Frame) (seen : Rate) (clock : Clock) (frame : ℕ) : Type 0 where
  pub has_rate : HasRate start.count frames seen
  pub frame_is : frame ≡ start.first + length frames
  pub of_day : frame < day_frames_in start.count
  pub count_is : clock.count ≡ start.count
  pub stands : (last : Frame) → last.rate ≡ seen → StandsBehind start (frames ++ last ∷ []) clock

abbrev pub Passes : Start → List Frame → Rate → Clock → Result ℕ MccStop → Type 0
Passes start frames seen clock (Ok frame) = IsPassed start frames seen clock frame
Passes start frames seen clock (Err why) = IsStoppedBy start frames seen why

-- the bytes are an ancillary packet
pub record IsAnyPacket (bytes : List ℕ) : Type 0 where
  pub packet : AncillaryPacket
  pub is : IsPacketBytes packet bytes

-- or one of captions
pub record IsCaptionPacket (bytes : List ℕ) : Type 0 where
  pub packet : AncillaryPacket
  pub is : IsPacketBytes packet bytes
  pub is_caption : IsCaption packet

-- the user bytes of what a packet says, and its payload
abbrev pub user_in : Said → List ℕ
user_in said = take said.count said.user

abbrev pub payload_in : Said → Payload
payload_in said = record { did = said.did; sdid = said.sdid; user = user_in said }

-- the line of a packet that isn't of captions was written, or it has a user word that isn't an 8-bit word
abbrev pub WritesForeign : Clock → ℕ → AncillaryPacket → List ℕ → Result (Unit {0}) MccStop → Type 0
WritesForeign clock number packet line (Ok done) = IsOfBytes packet × IsWrittenLine clock.count clock.last (payload_of packet) line
WritesForeign clock number packet line (Err (reason.Found finding)) =
    (IsOfBytes packet → ⊥) × (finding ≡ record { frame = number; kind = kind.EightBits })
WritesForeign clock number packet line (Err reason.Day) = ⊥

-- the line of a packet of captions of this rate was written, or the export stops at it
abbrev pub WritesCaption : Start → List Frame → Rate → AncillaryPacket → Clock → List ℕ → Result (Unit {0}) MccStop → Type 0
WritesCaption start frames seen packet clock line (Ok done) =
    (frame : ℕ) × IsPassed start frames seen clock frame × IsWrittenLine start.count frame (payload_of packet) line
WritesCaption start frames seen packet clock line (Err why) = IsStoppedBy start frames seen why

-- a packet's line was added, and the next packet begins; or a put of what was gathered before failed
abbrev pub AddsLine : Option (List ℕ) → Option (List ℕ) → List ℕ → List ℕ → List ℕ → ℕ → Exporting → Exporting → Result ℕ (Stop MccStop) → Type 0
AddsLine now then held after line used old new (Ok read) =
    (read ≡ used) × Gathers now then held after put.Done line × (new.packets.receiver ≡ old.packets.receiver) × (open_bytes new.packets ≡ [])
    × (new.clock ≡ old.clock)
AddsLine now then held after line used old new (Err stop.WriteFault) = Puts now then put.Failed held
AddsLine now then held after line used old new (Err _) = ⊥

-- these bytes were read
abbrev pub HasReadWords : List ℕ → Exporting → Type 0
HasReadWords bytes exporting = HasReadPackets bytes exporting.packets

-- these bytes were judged, none of whose words offends, and this is the MCC file of their packets, after which the clock stands
pub record HasJudged (start : Start) (bytes text : List ℕ) (exporting : Exporting) : Type 0 where
  pub says : SaysMcc start bytes text
  pub unoffending : IsUnoffending caption_channel bytes
  pub spelled : bytes ≡ says.frames_are.file ++ open_bytes exporting.packets
  pub read : HasRead says.frames says.frames_are.file exporting.packets
  pub stands : StandsBehind start says.frames exporting.clock
