-- Between crates: the program's answer stands on none of these definitions.
-- Words that are read packet by packet (SMPTE ST 291-1): the packets that have ended, and the bytes of the one that is open.
use Rattle.std.specs.Prelude.{◌≡◌, ◌<◌, ◌≤◌, ◌+◌, ℕ, List, [], ◌∷◌, ◌++◌, length, take, Result, Ok, Err}
use Rattle.anc_words.specs.Packets.{AncillaryPacket, IsCaption, user_bytes}
use Rattle.anc_words.specs.WordsFiles.{IsPacketBytes, IsWordsFile}
use Rattle.cc_base.specs.declared.refusal.Refusal.{Refusal}
use Rattle.cc_receiver.specs.Receivers.{HasReceived, frame_count}
use Rattle.cc_receiver.specs.declared.receiver.Ended.{Ended}
use Rattle.cc_receiver.specs.declared.receiver.Ended.TheVariants as ended
use Rattle.cc_receiver.specs.declared.receiver.Fed.{Fed}
use Rattle.cdp_packets.specs.Packets.{Frame, IsCdp}
use Rattle.words_files.specs.Offences.{FirstOffendingWord, IsFileUnder, IsUnoffending}
use Rattle.cc_receiver.specs.CaptionChannel.{caption_channel}
use Rattle.words_reading.specs.declared.packets.Packets.{Packets}

-- no packet ends among the bytes after a file
abbrev pub NoPacketEnds : List ℕ → List ℕ → Type 0
NoPacketEnds file behind = (packets : List AncillaryPacket) (n : ℕ) → 0 < n → n ≤ length behind → IsWordsFile packets (file ++ take n behind) → ⊥

-- after these bytes, with which no packet ends after a file, stands the first word that offends
pub record OffendsBehind (refusal : Refusal) (file behind rest : List ℕ) : Type 0 where
  pub offends : FirstOffendingWord caption_channel ((file ++ behind) ++ rest) refusal
  pub before : offends.before ≡ file ++ behind
  pub none : NoPacketEnds file behind

-- the bytes that are kept of the open packet
abbrev pub open_bytes : Packets → List ℕ
open_bytes packets = packets.held.items

-- a file of these frames was read, and after it the bytes of the open packet
pub record HasRead (frames : List Frame) (file : List ℕ) (packets : Packets) : Type 0 where
  pub received : HasReceived (file ++ open_bytes packets) packets.receiver
  pub few : frame_count packets.receiver ≤ length (file ++ open_bytes packets)
  pub unoffending : IsUnoffending caption_channel (file ++ open_bytes packets)
  pub under : IsFileUnder caption_channel frames file
  pub none : NoPacketEnds file (open_bytes packets)

-- these bytes were read: a file, and the bytes of the packet that is open after it
pub record HasReadPackets (bytes : List ℕ) (packets : Packets) : Type 0 where
  pub frames : List Frame
  pub file : List ℕ
  pub spelled : bytes ≡ file ++ open_bytes packets
  pub read : HasRead frames file packets

-- this many bytes may follow within the limit
pub record MayFollow (limit : ℕ) (packets : Packets) (more : ℕ) : Type 0 where
  pub frames : List Frame
  pub file : List ℕ
  pub read : HasRead frames file packets
  pub within : length (file ++ open_bytes packets) + more ≤ limit

-- after this file an ancillary packet of these bytes ended, which isn't one of captions
pub record EndsForeign (frames : List Frame) (file bytes : List ℕ) (packets : Packets) : Type 0 where
  pub packet : AncillaryPacket
  pub is : IsPacketBytes packet bytes
  pub is_foreign : IsCaption packet → ⊥
  pub received : HasReceived (file ++ bytes) packets.receiver
  pub few : frame_count packets.receiver ≤ length (file ++ bytes)
  pub unoffending : IsUnoffending caption_channel (file ++ bytes)
  pub under : IsFileUnder caption_channel frames (file ++ bytes)

-- or one that brought this frame
pub record EndsCaption (frames : List Frame) (file bytes : List ℕ) (packets : Packets) : Type 0 where
  pub packet : AncillaryPacket
  pub is : IsPacketBytes packet bytes
  pub is_caption : IsCaption packet
  pub frame : Frame
  pub carries : IsCdp frame (user_bytes packet)
  pub received : HasReceived (file ++ bytes) packets.receiver
  pub few : frame_count packets.receiver ≤ length (file ++ bytes)
  pub unoffending : IsUnoffending caption_channel (file ++ bytes)
  pub under : IsFileUnder caption_channel (frames ++ frame ∷ []) (file ++ bytes)

abbrev pub IsEndedAs : Ended → List Frame → List ℕ → Packets → Type 0
IsEndedAs ended.No frames file packets = HasRead frames file packets
IsEndedAs ended.Foreign frames file packets = EndsForeign frames file (open_bytes packets) packets
IsEndedAs ended.Caption frames file packets = EndsCaption frames file (open_bytes packets) packets

-- a front of the bytes was read
pub record ReadsFront (frames : List Frame) (file bytes : List ℕ) (old new : Packets) (fed : Fed) : Type 0 where
  pub within : fed.used ≤ length bytes
  pub moves : 0 < length bytes → 0 < fed.used
  pub kept : open_bytes new ≡ open_bytes old ++ take fed.used bytes
  pub ends : IsEndedAs fed.ended frames file new

-- a word of these bytes after a file was refused
pub record RefusesWord (file bytes : List ℕ) (refusal : Refusal) : Type 0 where
  pub behind : List ℕ
  pub rest : List ℕ
  pub spelled : bytes ≡ behind ++ rest
  pub stands : OffendsBehind refusal file behind rest

abbrev pub Receives : List Frame → List ℕ → List ℕ → Packets → Packets → Result Fed Refusal → Type 0
Receives frames file bytes old new (Ok fed) = ReadsFront frames file bytes old new fed
Receives frames file bytes old new (Err refusal) = RefusesWord file (open_bytes old ++ bytes) refusal
