-- Believed: the program's answer stands on these definitions.
-- The captions of a programme, frame by frame: what it carries, and from its end on what a frame without captions carries.
use Rattle.std.specs.Prelude.{ℕ, nat_lt, if◌then◌else◌, List}
use Rattle.cc_data.specs.declared.triplet.Triplet.{Triplet}
use Rattle.cue_list_commands.specs.Carrying.{channel_packet_of}
use Rattle.cue_list_commands.specs.FrameTriplets.{frame_triplets}
use Rattle.cue_list_commands.specs.Columns.{Columns}
use Rattle.cue_list_commands.specs.End.{silent_frame}
use Rattle.cue_list_commands.specs.Framing.{Framing}

-- what every frame carries: those from the programme's end on are without captions
abbrev pub padded : Framing → Columns
padded list frame = if nat_lt frame list.count then list.columns frame else silent_frame list.rate frame

-- the triplets of a frame
abbrev pub captions_of : Framing → ℕ → List Triplet
captions_of list frame = frame_triplets list.rate (padded list frame) (channel_packet_of (padded list) frame)
