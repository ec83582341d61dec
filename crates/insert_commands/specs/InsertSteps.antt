-- Between crates: the program's answer stands on none of these definitions.
-- Steps on the way through words in which captions are inserted.
use Rattle.std.specs.Prelude.{◌≡◌, ◌<◌, ◌≤◌, ◌+◌, ℕ, List, [], ◌∷◌, ◌++◌, length, Result, Ok, Err}
use Rattle.cc_base.specs.declared.limit_of.LimitOf.TheVariants as limit
use Rattle.words_reading.specs.Receivers.{HasReceived, frame_count}
use Rattle.words_reading.specs.Receiver.{Receiver}
use Rattle.cdp_packets.specs.Packets.{Frame}
use Rattle.cdp_packets.specs.Sections.{AreSections}
use Rattle.std.specs.List.{concat}
use Rattle.command_base.specs.declared.status.Status.{Status}
use Rattle.command_base.specs.declared.status.Status.TheVariants as status
use Rattle.packet_inserter.specs.Insertion.{IsInserted, packet_length}
use Rattle.words_files.specs.FramesOf.{AreFramesOf}
use Rattle.words_files.specs.Offences.{IsUnoffending}
use Rattle.services_files.specs.CaptionChannel.{caption_channel}
use Rattle.words_files.specs.CarriedWords.{carried_words}
use Rattle.cue_list_commands.specs.Framing.{Framing}
use Rattle.insert_commands.specs.Captions.{captions_of}
use Rattle.insert_commands.specs.InsertVerdict.{IsHalt, SaysInserted}
use Rattle.insert_commands.specs.ListCaptions.{GivesCaptions}
use Rattle.words_reading.specs.OpenPackets.{HasRead, HasReadPackets, open_bytes}
use Rattle.cue_list_commands.specs.Plan.{Plan}
use Rattle.insert_commands.specs.declared.captions.Captions.{Captions}
use Rattle.insert_commands.specs.declared.inserting.Halt.{Halt}
use Rattle.insert_commands.specs.declared.inserting.Halt.TheVariants as halt
use Rattle.insert_commands.specs.declared.inserting.Inserting.{Inserting}

-- a frame ended last in a receiver
pub record HasLastFrame (receiver : Receiver) : Type 0 where
  pub bytes : List ℕ
  pub earlier : List Frame
  pub last : Frame
  pub received : HasReceived bytes receiver
  pub frames_are : AreFramesOf caption_channel (earlier ++ last ∷ []) bytes
  pub counted : 0 < frame_count receiver
  pub sections : AreSections last.sections
  pub short : length (concat last.sections) ≤ 244

-- what stands for the packet of a frame that follows others, or why the run stops at it
abbrev pub Replaces : Framing → List Frame → Frame → Captions Plan → List ℕ → Result (Unit {0}) Halt → Type 0
Replaces list earlier last captions words (Ok done) =
    (last.rate ≡ list.rate) × GivesCaptions list (length earlier + 1) captions
    × ((new : Frame) × IsInserted (captions_of list (length earlier)) last new × (packet_length new ≤ 255) × (words ≡ carried_words new))
Replaces list earlier last captions words (Err why) = IsHalt list why earlier last

-- the status of a run that stopped at a frame
abbrev pub halt_status : Halt → Status
halt_status (halt.Found finding) = status.Differs finding
halt_status halt.Packet = status.Limit limit.Packet

-- these bytes were read
abbrev pub HasReadWords : List ℕ → Inserting → Type 0
HasReadWords bytes inserting = HasReadPackets bytes inserting.packets

-- these bytes were judged, none of whose words offends, and this text stands for their file; the captions of the next frame are next
pub record HasJudged (list : Framing) (bytes text : List ℕ) (inserting : Inserting) : Type 0 where
  pub says : SaysInserted list bytes text
  pub unoffending : IsUnoffending caption_channel bytes
  pub spelled : bytes ≡ says.frames_are.file ++ open_bytes inserting.packets
  pub read : HasRead says.frames says.frames_are.file inserting.packets
  pub gives : GivesCaptions list (length says.frames) inserting.captions
