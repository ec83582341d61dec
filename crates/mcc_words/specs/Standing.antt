-- Between crates: the program's answer stands on none of these definitions.
-- Where the packets of captions of an MCC file stand among the frames of its words (SMPTE ST 334-1 and ST 334-2).
use Rattle.std.specs.Prelude.{◌≡◌, ⊤, ℕ, ◌+◌, ◌-◌, ◌≤◌, List, [], ◌∷◌, ◌++◌, All, Option, Some, None, filter, length, map, slice_get}
use Rattle.std.specs.List.{flat_map}
use Rattle.cc_base.specs.declared.rate.Rate.{Rate}
use Rattle.cdp_packets.specs.Packets.{Frame, IsCdp}
use Rattle.frame_carrier.specs.Carrying.{frame_packet}
use Rattle.frame_carrier.specs.End.{silent_frame}
use Rattle.mcc_files.specs.MccFiles.{IsMccFile, TimedPackets}
use Rattle.mcc_files.specs.Payloads.{Payload}
use Rattle.mcc_words.specs.MccWords.{AreMccWords, carries_captions}
use Rattle.words_files.specs.Frames.{IsFileOf}

-- the packets of captions among packets, each at its frame of the day
abbrev pub caption_packets : TimedPackets → TimedPackets
caption_packets placed = filter (λ (one : ℕ × Payload). carries_captions one.1) placed

-- a frame without captions: the packet of a programme's frame that has nothing but a null pair in each field that has a slot there
pub record IsWithoutCaptions (frame : Frame) : Type 0 where
  pub rate : Rate
  pub number : ℕ
  pub is : frame ≡ frame_packet rate number (silent_frame rate number) []

-- the frame of a payload: what its distribution packet says, but for the counter
pub record IsOfPayload (payload : Payload) (frame : Frame) : Type 0 where
  pub packet : Frame
  pub counter : ℕ
  pub carries : IsCdp packet payload.user
  pub is : frame ≡ record packet { counter = counter }

-- a packet of captions at its frame of the day, the frames that stand before it where some are missing, and its own frame
pub record CaptionPart : Type 0 where
  pub at : ℕ
  pub payload : Payload
  pub missing : List Frame
  pub own : Frame

abbrev pub placed_packet : CaptionPart → ℕ × Payload
placed_packet part = (part.at, part.payload)

abbrev pub part_frames : CaptionPart → List Frame
part_frames part = part.missing ++ part.own ∷ []

-- its missing frames are without captions, and its own is its payload's
pub record IsPart (part : CaptionPart) : Type 0 where
  pub without : All IsWithoutCaptions part.missing
  pub own : IsOfPayload part.payload part.own

-- before each packet as many frames are missing as lie between its frame of the day and the previous packet's; none before the first
abbrev pub AreSpaced : Option ℕ → List CaptionPart → Type 0
AreSpaced before [] = ⊤
AreSpaced None (part ∷ more) = (part.missing ≡ []) × AreSpaced (Some part.at) more
AreSpaced (Some before) (part ∷ more) = (length part.missing ≡ part.at - (before + 1)) × AreSpaced (Some part.at) more

-- the frames are the frames of the packets of captions in their order, each after the frames that are missing before it
pub record StandApart (placed : TimedPackets) (frames : List Frame) : Type 0 where
  pub parts : List CaptionPart
  pub are : All IsPart parts
  pub packets : map placed_packet parts ≡ caption_packets placed
  pub apart : AreSpaced None parts
  pub frames_are : frames ≡ flat_map part_frames parts

-- the words of an MCC file are a words file of frames, and so they stand there
abbrev pub WordsHaveFrames : Type 0
WordsHaveFrames = (placed : TimedPackets) (text words : List ℕ) → IsMccFile placed text → AreMccWords placed words
    → (frames : List Frame) × IsFileOf frames words

abbrev pub PacketsStandApart : Type 0
PacketsStandApart = (placed : TimedPackets) (text words : List ℕ) (frames : List Frame) → IsMccFile placed text → AreMccWords placed words → IsFileOf frames words
    → StandApart placed frames

-- there is such a frame in this place of frames
pub record HasFrameAt (frames : List Frame) (place : ℕ) (Is : Frame → Type 0) : Type 0 where
  pub frame : Frame
  pub stands : slice_get frames place ≡ Some frame
  pub is : Is frame

-- a packet of captions is placed at a frame of the day
pub record IsAmong (captions : TimedPackets) (at : ℕ) (payload : Payload) : Type 0 where
  pub before : TimedPackets
  pub after : TimedPackets
  pub split : captions ≡ before ++ (at, payload) ∷ after

-- no two packets of captions are placed at one frame of the day
abbrev pub HaveFramesOfTheirOwn : TimedPackets → Type 0
HaveFramesOfTheirOwn captions = (before after : TimedPackets) (at : ℕ) (one other : Payload) → captions ≡ before ++ (at, one) ∷ ((at, other) ∷ after) → ⊥

-- the frames of the day of the first packet of captions and of the last
pub record AreFromTo (captions : TimedPackets) (first last : ℕ) : Type 0 where
  pub one : Payload
  pub after : TimedPackets
  pub begins : captions ≡ (first, one) ∷ after
  pub other : Payload
  pub before : TimedPackets
  pub ends : captions ≡ before ++ (last, other) ∷ []

-- in each place stands the packet of captions of its frame of the day, counted from the first one's, or a frame without captions
-- where there is none
pub record StandAtTheirFrames (captions : TimedPackets) (first last : ℕ) (frames : List Frame) : Type 0 where
  pub own : (at : ℕ) (payload : Payload) → IsAmong captions at payload → HasFrameAt frames (at - first) (IsOfPayload payload)
  pub missing : (at : ℕ) → first ≤ at → at ≤ last → ((payload : Payload) → IsAmong captions at payload → ⊥) → HasFrameAt frames (at - first) IsWithoutCaptions
  pub number : length frames ≡ last + 1 - first

-- so it is in the words of an MCC file whose packets of captions have frames of their own
abbrev pub PacketsStandAtTheirFrames : Type 0
PacketsStandAtTheirFrames = (placed : TimedPackets) (text words : List ℕ) (frames : List Frame) (first last : ℕ) → IsMccFile placed text → AreMccWords placed words
    → IsFileOf frames words → HaveFramesOfTheirOwn (caption_packets placed) → AreFromTo (caption_packets placed) first last
    → StandAtTheirFrames (caption_packets placed) first last frames
