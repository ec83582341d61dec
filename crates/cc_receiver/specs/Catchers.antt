-- Believed in part: the library's answers stand on some of these definitions.
-- What is kept of the parts of ancillary packets: the reader of the open packet of captions with what it says so far and what judges
-- its triplets, what the last whole frame says, both fields of line 21 (CTA-608-E), the services of DTVCC (CTA-708-E), and the number of
-- whole frames.
use Rattle.std.specs.Prelude.{◌≡◌, ◌<◌, ◌%◌, ◌^◌, List, [], ◌∷◌, ◌++◌, length, Option, Some, None}
use Rattle.anc_words.specs.declared.parts.WordPart.{WordPart}
use Rattle.cdp_packets.specs.declared.parts.CdpPart.{CdpPart}
use Rattle.cdp_packets.specs.declared.reader.CdpReader.{CdpReader}
use Rattle.cdp_packets.specs.Readers.{HasRead}
use Rattle.line21_codes.specs.declared.channels.FieldNumber.{FieldNumber}
use Rattle.line21_codes.specs.declared.channels.FieldNumber.TheVariants.{One, Two}
use Rattle.line21_screen.specs.Objects.{Leads}
use Rattle.line21_screen.specs.declared.field.Field.{Field}
use Rattle.cc_receiver.specs.declared.captions.Captions.{Captions}
use Rattle.cc_receiver.specs.declared.channel.Channel.{Channel}
use Rattle.cc_receiver.specs.declared.frame.Frame.{Frame}
use Rattle.services_files.specs.Catching.{Caught, OpenCaption, caught_of}
use Rattle.services_files.specs.Services.{services_say}
use Rattle.cc_receiver.specs.Channels.{HasTried, frames_parts}
use Rattle.cc_receiver.specs.Hearing.{heard}
use Rattle.cc_receiver.specs.Gatherers.{HasGathered}
use Rattle.cc_receiver.specs.Serving.{ServesFrames, said_triplets}
use Rattle.service_blocks.specs.Channels.{IsHeard}

-- the reader has read the bytes of the open packet, and the frame took the parts that they make
abbrev pub KeepsOpen : Option OpenCaption → Option CdpReader → Frame → Type 0
KeepsOpen None None frame = Unit {0}
KeepsOpen (Some o) (Some reader) frame = HasRead o.size o.bytes reader × HasGathered o.parts frame
KeepsOpen _ _ frame = ⊥

-- the frame took the parts of the newest one, if there is one
abbrev pub KeepsLast : List (List CdpPart) → Frame → Type 0
KeepsLast [] frame = Unit {0}
KeepsLast (parts ∷ frames) frame = HasGathered parts frame

-- what judges is after the parts of the frames and of the open packet
abbrev pub JudgesParts : List (List CdpPart) → Option OpenCaption → Channel → Type 0
JudgesParts frames None judging = Unit {0}
JudgesParts frames (Some o) judging = HasTried (frames_parts frames ++ o.parts) judging

-- a field of line 21
abbrev pub captions_field : FieldNumber → Captions → Field
captions_field One captions = captions.first
captions_field Two captions = captions.second

-- it keeps what was caught
pub record Keeps (caught : Caught) (captions : Captions) : Type 0 where
  pub refused : captions.refused ≡ caught.refused
  pub is_open : caught.refused ≡ None → KeepsOpen caught.open_caption captions.open captions.gathered
  pub judges : caught.refused ≡ None → JudgesParts caught.frames caught.open_caption captions.judging
  pub last : KeepsLast caught.frames captions.last
  pub channel : HasTried (frames_parts caught.frames) captions.channel
  pub first : Leads One (heard One caught.frames) captions.first
  pub second : Leads Two (heard Two caught.frames) captions.second
  pub services : length caught.frames < 2 ^ 32 → IsHeard (said_triplets caught.frames) → ServesFrames caught.frames captions.served
  pub count : captions.frames ≡ length caught.frames % 2 ^ 32

-- one more frame of these parts was caught, and nothing is open
abbrev pub with_frame : List CdpPart → Caught → Caught
with_frame parts caught = record { open_caption = None; frames = parts ∷ caught.frames; refused = caught.refused }

-- it was handed these parts
abbrev pub HasCaught : List WordPart → Captions → Type 0
HasCaught parts captions = Keeps (caught_of services_say parts) captions
