-- Between crates: the program's answer stands on none of these definitions.
-- The captions of a programme on their way: what its frames have given, and what the carrier has carried.
use Rattle.std.specs.Prelude.{◌≡◌, ℕ, ◌+◌, ◌<◌, ◌≤◌, MatchOption, Option}
use Rattle.cue_list_commands.specs.Carrying.{IsAt, packets_before}
use Rattle.cue_list_commands.specs.Columns.{Columns}
use Rattle.cue_list_commands.specs.Frames.{GivesFrom, frames_left}
use Rattle.cue_list_commands.specs.FrameBytes.{FrameBytes}
use Rattle.cue_list_commands.specs.Plan.{Plan}
use Rattle.cue_list_commands.specs.Framing.{Framing}
use Rattle.insert_commands.specs.Captions.{padded}
use Rattle.insert_commands.specs.declared.captions.Captions.{Captions}

-- these are the bytes of this frame, and those that are left give the frames after it
pub record IsAhead {F : Type 0} (left : F → ℕ) (Gives : Columns → ℕ → F → Type 0) (list : Framing) (frame : ℕ) (bytes : FrameBytes) (frames : F) : Type 0 where
  pub within : frame < list.count
  pub is : bytes ≡ list.columns frame
  pub behind : Gives list.columns (frame + 1) frames
  pub counted : left frames + (frame + 1) ≡ list.count

-- the bytes of this frame are ahead, or the programme is over before it
abbrev pub StandsBefore : {F : Type 0} → (F → ℕ) → (Columns → ℕ → F → Type 0) → Framing → ℕ → Option FrameBytes → F → Type 0
StandsBefore left Gives list frame ahead frames = MatchOption ahead (list.count ≤ frame) (λ bytes. IsAhead left Gives list frame bytes frames)

-- this frame is next
pub record GivesFramed {F : Type 0} (left : F → ℕ) (Gives : Columns → ℕ → F → Type 0) (list : Framing) (frame : ℕ) (captions : Captions F) : Type 0 where
  pub rate_is : captions.rate ≡ list.rate
  pub next : StandsBefore left Gives list frame captions.ahead captions.frames
  pub carrier : IsAt list.rate frame (packets_before (padded list) frame) captions.carrier

-- this frame was given, and the carrier has not carried it yet
pub record GivesPlanned {F : Type 0} (left : F → ℕ) (Gives : Columns → ℕ → F → Type 0) (list : Framing) (frame : ℕ) (captions : Captions F) : Type 0 where
  pub rate_is : captions.rate ≡ list.rate
  pub next : StandsBefore left Gives list (frame + 1) captions.ahead captions.frames
  pub carrier : IsAt list.rate frame (packets_before (padded list) frame) captions.carrier

-- this frame is next of the captions of a plan
abbrev pub GivesCaptions : Framing → ℕ → Captions Plan → Type 0
GivesCaptions list frame captions = GivesFramed frames_left GivesFrom list frame captions
