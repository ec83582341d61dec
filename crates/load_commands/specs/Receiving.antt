-- Between crates: the program's answer stands on none of these definitions.
-- Steps on the way of a programme into a receiver: frame by frame, its words are carried and fed.
use Rattle.std.specs.Prelude.{◌≡◌, ◌≤◌, ◌+◌, ◌*◌, ◌++◌, ℕ, List, [], None, length}
use Rattle.cc_base.specs.declared.rate.Rate.{Rate}
use Rattle.cc_receiver.specs.Receivers.{HasReceived, frame_count}
use Rattle.cc_receiver.specs.declared.receiver.Receiver.{Receiver}
use Rattle.cue_list_commands.specs.Plan.{Plan}
use Rattle.cue_list_commands.specs.Programme.{Programme}
use Rattle.cue_list_commands.specs.Carrying.{IsAt, column_bytes, column_packets, packets_before}
use Rattle.cue_list_commands.specs.Columns.{Columns}
use Rattle.cue_list_commands.specs.Frames.{GivesFrom, frames_left}
use Rattle.cue_list_commands.specs.FrameBytes.{FrameBytes}
use Rattle.cue_types.specs.Listing.{most_frames}
use Rattle.grid_print.specs.Screens.{LookAlike, received_screens}
use Rattle.grid_print.specs.Shown.{last_shown}
use Rattle.services_files.specs.Services.{services_say}
use Rattle.services_files.specs.CaptionChannel.{caption_channel}
use Rattle.words_files.specs.Catching.{refusal_of}
use Rattle.words_files.specs.Offences.{IsFileUnder}
use Rattle.load_commands.specs.LoadOutput.{change_count}
use Rattle.load_commands.specs.declared.reception.Reception.{Reception}

-- this many frames of columns are a whole words file
abbrev pub AreWhole : Rate → Columns → ℕ → Type 0
AreWhole rate columns count = IsFileUnder caption_channel (column_packets rate columns 0 count) (column_bytes rate columns 0 count)

-- so are the first of them, however many
abbrev pub AreAllWhole : Rate → Columns → ℕ → Type 0
AreAllWhole rate columns count = (first : ℕ) → first ≤ count → AreWhole rate columns first

-- the first frames of columns, this many, were carried and fed, and their changes counted
pub record HasReceivedColumns (rate : Rate) (columns : Columns) (count : ℕ) (reception : Reception) : Type 0 where
  pub carrier : IsAt rate count (packets_before columns count) reception.carrier
  pub received : HasReceived (column_bytes rate columns 0 count) reception.receiver
  pub counted : frame_count reception.receiver ≤ 524 * count
  pub shown : LookAlike (last_shown reception.shown) (received_screens (column_packets rate columns 0 count))
  pub bytes : reception.bytes ≡ length (column_bytes rate columns 0 count)
  pub most : length (column_bytes rate columns 0 count) ≤ 524 * count
  pub changes : reception.changes ≡ change_count [] (column_packets rate columns 0 count)
  pub some : reception.changes ≤ count

-- a receiver was fed these bytes, and more may follow of which no word offends
pub record MayTake (receiver : Receiver) (words : List ℕ) : Type 0 where
  pub before : List ℕ
  pub received : HasReceived before receiver
  pub within : frame_count receiver + length words ≤ 4294967294
  pub unoffending : refusal_of services_say (before ++ words) ≡ None

-- this is the next of frames that are whole, no more than a list has
pub record MayTakeFrame (reception : Reception) (frame : FrameBytes) : Type 0 where
  pub rate : Rate
  pub columns : Columns
  pub count : ℕ
  pub taken : HasReceivedColumns rate columns count reception
  pub next : frame ≡ columns count
  pub whole : AreWhole rate columns (count + 1)
  pub within : count + 1 ≤ most_frames

-- a programme's frames are whole, however many of them were sent, and no more than a list has
pub record IsSendable (programme : Programme Plan) : Type 0 where
  pub columns : Columns
  pub gives : GivesFrom columns 0 programme.frames
  pub whole : AreAllWhole programme.rate columns (frames_left programme.frames)
  pub within : frames_left programme.frames ≤ most_frames
