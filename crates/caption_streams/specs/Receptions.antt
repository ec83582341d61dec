-- Believed in part: the library's answers stand on some of these definitions.
-- What a receiver is after the bytes that it was fed, and what it shows after their frames: one of whole files, or one of words of which
-- frames may be missing.
use Rattle.std.specs.Prelude.{◌≡◌, ◌≤◌, ℕ, ◌-◌, ◌++◌, ⊤, List, length, take, Option, Result, Ok, Err}
use Rattle.cc_base.specs.declared.refusal.Refusal.{Refusal}
use Rattle.cc_conceal.specs.Concealed.{concealed_grids, heard_of, missing_before, number_of_last}
use Rattle.cc_conceal.specs.Concealers.{Conceals, HasConcealed, ShowsConcealed, concealed_frames, displayed_now, receiver_of}
use Rattle.cc_receiver.specs.Feeds.{Feeds}
use Rattle.cc_receiver.specs.ReceivedServices.{received_service}
use Rattle.cc_receiver.specs.ReceiverGrids.{ShowsWindows}
use Rattle.cc_receiver.specs.Receivers.{HasReceived, displayed_grid, frame_count}
use Rattle.cc_receiver.specs.declared.receiver.Fed.{Fed}
use Rattle.cc_receiver.specs.declared.receiver.Receiver.{Receiver}
use Rattle.cdp_packets.specs.Packets.{Frame}
use Rattle.dtvcc_screen.specs.Cores.{CoreState}
use Rattle.dtvcc_screen.specs.Shown.{grids}
use Rattle.dtvcc_windows.specs.Showing.{ShownWindow}
use Rattle.grid_print.specs.Screens.{IsBehind, Screens, screens_of}
use Rattle.line21_codes.specs.declared.channels.Chan.{Chan}
use Rattle.line21_screen.specs.Grid.{Grid}
use Rattle.words_files.specs.Received.{received_grids}
use Rattle.caption_streams.specs.declared.fault.FeedFault.{FeedFault}
use Rattle.caption_streams.specs.declared.fault.FeedFault.TheVariants as fault
use Rattle.caption_streams.specs.declared.reception.Reception.{Reception}
use Rattle.caption_streams.specs.declared.reception.Reception.TheVariants.{Plain, Concealing}

-- it was fed these bytes
abbrev pub HasFed : List ℕ → Reception → Type 0
HasFed bytes (Plain receiver) = HasReceived bytes receiver
HasFed bytes (Concealing concealer) = HasConcealed bytes concealer

-- it stands after these frames
abbrev pub StandsBehind : List Frame → Reception → Type 0
StandsBehind frames (Plain receiver) = IsBehind frames receiver
StandsBehind frames (Concealing concealer) = Conceals frames concealer

-- the receiver that reads and refuses its bytes
abbrev pub reader_of : Reception → Receiver
reader_of (Plain receiver) = receiver
reader_of (Concealing concealer) = receiver_of concealer

-- the number of whole frames that it counts
abbrev pub frame_total : Reception → ℕ
frame_total (Plain receiver) = frame_count receiver
frame_total (Concealing concealer) = concealed_frames concealer

-- which of both it is
abbrev pub IsPlain : Reception → Type 0
IsPlain (Plain receiver) = ⊤
IsPlain (Concealing concealer) = ⊥

abbrev pub IsConcealing : Reception → Type 0
IsConcealing (Plain receiver) = ⊥
IsConcealing (Concealing concealer) = ⊤

abbrev pub AreAlike : Reception → Reception → Type 0
AreAlike (Plain receiver) new = IsPlain new
AreAlike (Concealing concealer) new = IsConcealing new

-- what it makes of the bytes that it is fed, of which it reads a front, or refuses a word
abbrev pub HasFedOn : List ℕ → List ℕ → Reception → Result Fed Refusal → Type 0
HasFedOn before bytes new (Ok fed) = HasFed (before ++ take fed.used bytes) new
HasFedOn before bytes new (Err refusal) = HasFed (before ++ bytes) new

pub record FeedsOn (before bytes : List ℕ) (old new : Reception) (answer : Result Fed Refusal) : Type 0 where
  pub alike : AreAlike old new
  pub has : HasFedOn before bytes new answer
  pub feeds : Feeds before bytes (reader_of old) (reader_of new) answer

-- the same, where no more frames may be counted
abbrev pub AnswersFed : List ℕ → List ℕ → Reception → Reception → Result Fed FeedFault → Type 0
AnswersFed before bytes old new (Ok fed) = FeedsOn before bytes old new (Ok fed)
AnswersFed before bytes old new (Err (fault.Refused refusal)) = FeedsOn before bytes old new (Err refusal)
AnswersFed before bytes old new (Err (fault.Found finding)) = ⊥
AnswersFed before bytes old new (Err fault.TooManyFrames) = (new ≡ old) × (4294967295 ≤ frame_total old)

-- the displayed cells of each channel after frames, and each service: those that are received, or those that are concealed
abbrev pub grids_behind : Reception → List Frame → Chan → Grid
grids_behind (Plain receiver) frames = received_grids frames
grids_behind (Concealing concealer) frames = concealed_grids frames

abbrev pub service_behind : Reception → List Frame → ℕ → CoreState
service_behind (Plain receiver) frames = received_service frames
service_behind (Concealing concealer) frames = received_service (heard_of frames)

-- what is seen of the windows of each service, and the screens
abbrev pub windows_behind : Reception → List Frame → ℕ → ℕ → Option ShownWindow
windows_behind reception frames service = grids (service_behind reception frames service).screen

abbrev pub screens_behind : Reception → List Frame → Screens
screens_behind reception frames = screens_of (grids_behind reception frames) (windows_behind reception frames)

-- the number of the last of frames, and how many are missing right before it
abbrev pub number_behind : Reception → List Frame → ℕ
number_behind (Plain receiver) frames = length frames - 1
number_behind (Concealing concealer) frames = number_of_last frames

abbrev pub missing_behind : Reception → List Frame → ℕ
missing_behind (Plain receiver) frames = 0
missing_behind (Concealing concealer) frames = missing_before frames

-- as they are at the moment
abbrev pub displayed_in : Reception → Chan → Grid
displayed_in (Plain receiver) = displayed_grid receiver
displayed_in (Concealing concealer) = displayed_now concealer

abbrev pub ShowsNow : Reception → (ℕ → ℕ → Option ShownWindow) → Type 0
ShowsNow (Plain receiver) = ShowsWindows receiver
ShowsNow (Concealing concealer) = ShowsConcealed concealer
