-- Believed: the program's answer stands on these definitions.
-- What `insert` makes of words and the captions of the cue list of its side file.
use Rattle.std.specs.Prelude.{◌≡◌, ◌≢◌, ◌<◌, ◌≤◌, ℕ, List, [], ◌∷◌, ◌++◌, length}
use Rattle.cc_base.specs.declared.limit_of.LimitOf.TheVariants as limit
use Rattle.cdp_packets.specs.Packets.{Frame}
use Rattle.command_base.specs.MadeVerdict.{BesideVerdict}
use Rattle.command_base.specs.declared.status.Status.{Status}
use Rattle.command_base.specs.declared.status.Status.TheVariants as status
use Rattle.cue_list_commands.specs.Accepted.{IsRefused}
use Rattle.cue_list_commands.specs.Output.{IsPlacedAs, PlacedList, framing_of}
use Rattle.findings.specs.declared.finding.Kind45.TheVariants as kind
use Rattle.cue_list_commands.specs.Framing.{Framing}
use Rattle.insert_commands.specs.Captions.{captions_of}
use Rattle.insert_commands.specs.InsertedFile.{AreInserted, BringsFrame}
use Rattle.insert_commands.specs.Soundness.{HaveRate, IsSoundInsertion}
use Rattle.insert_commands.specs.declared.inserting.Halt.{Halt}
use Rattle.insert_commands.specs.declared.inserting.Halt.TheVariants as halt
use Rattle.packet_inserter.specs.Insertion.{IsInserted, packet_length}
use Rattle.services_files.specs.CaptionChannel.{caption_channel}
use Rattle.words_files.specs.FramesOf.{AreFramesOf}
use Rattle.words_files.specs.Offences.{IsFileUnder}
use Rattle.words_reading.specs.WordsVerdict.{WordsVerdict}

-- this text stands for the longest words file with which these bytes begin, with captions, and its frames have the list's rate
pub record SaysInserted (list : Framing) (bytes text : List ℕ) : Type 0 where
  pub frames : List Frame
  pub frames_are : AreFramesOf caption_channel frames bytes
  pub inserted : AreInserted (captions_of list) frames frames_are.file text
  pub rates : HaveRate list.rate frames

-- why an insertion stops at a frame that follows others: it has another rate than the list; or it has the list's, and its packet would
-- have more than 255 bytes with the list's captions
abbrev pub IsHalt : Framing → Halt → List Frame → Frame → Type 0
IsHalt list (halt.Found finding) frames last =
    (last.rate ≢ list.rate) × (finding ≡ record { frame = length frames; kind = kind.WrongRate list.rate last.rate })
IsHalt list halt.Packet frames last =
    (last.rate ≡ list.rate) × ((new : Frame) × IsInserted (captions_of list (length frames)) last new × (255 < packet_length new))

-- the bytes are a words file that ends with the packet of a frame at which an insertion stops so, and this text stands for the file before it
pub record HaltsInserting (list : Framing) (why : Halt) (bytes text : List ℕ) : Type 0 where
  pub frames : List Frame
  pub last : Frame
  pub is_file : IsFileUnder caption_channel (frames ++ last ∷ []) bytes
  pub file : List ℕ
  pub packet : List ℕ
  pub spelled : bytes ≡ file ++ packet
  pub brings : BringsFrame last packet
  pub inserted : AreInserted (captions_of list) frames file text
  pub rates : HaveRate list.rate frames
  pub is : IsHalt list why frames last

-- the whole file has captions, and is sound: it shows what the list authors; or it has too few frames
abbrev pub InsertEnd : PlacedList → Status → List ℕ → List ℕ → Type 0
InsertEnd made status.Ok input text =
    (says : SaysInserted (framing_of made) input text) × IsFileUnder caption_channel says.frames input
    × (made.list.frames ≤ length says.frames) × IsSoundInsertion made.list made.placed says.frames text
InsertEnd made (status.Short count) input text =
    (says : SaysInserted (framing_of made) input text) × IsFileUnder caption_channel says.frames input
    × (count ≡ length says.frames) × (count < made.list.frames)
InsertEnd made _ input text = ⊥

-- or the insertion stops at a frame
abbrev pub InsertHalts : PlacedList → Status → List ℕ → List ℕ → Type 0
InsertHalts made (status.Differs finding) judged text = HaltsInserting (framing_of made) (halt.Found finding) judged text
InsertHalts made (status.Limit limit.Packet) judged text = HaltsInserting (framing_of made) halt.Packet judged text
InsertHalts made _ judged text = ⊥

abbrev pub InsertWords : PlacedList → List ℕ → Status → List ℕ → Type 0
InsertWords made = WordsVerdict (InsertEnd made) (SaysInserted (framing_of made)) (InsertHalts made)

-- `insert`
abbrev pub InsertVerdict : List ℕ → List ℕ → Status → List ℕ → Type 0
InsertVerdict = BesideVerdict IsPlacedAs IsRefused InsertWords
