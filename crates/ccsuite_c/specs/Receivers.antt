-- Believed: the library's answers stand on these definitions.
-- Receivers, as C holds them.
use Rattle.std.specs.Prelude.{◌≡◌, ◌⊎◌, ◌<◌, ◌≤◌, ◌++◌, ℕ, Bool, true, false, List, [], length, drop, replicate, Option, Some, None, Result}
use Rattle.caption_streams.specs.Receivings.{last_screens, reception_of}
use Rattle.caption_streams.specs.Receptions.{AnswersFed, HasFed, IsConcealing, IsPlain, frame_total, grids_behind, missing_behind, number_behind, screens_behind}
use Rattle.caption_streams.specs.declared.fault.FeedFault.{FeedFault}
use Rattle.caption_streams.specs.declared.receiving.Receiving.{Receiving}
use Rattle.caption_streams.specs.declared.reception.Reception.{Reception}
use Rattle.cc_base.specs.Why.{reason_number}
use Rattle.cc_base.specs.declared.refusal.Refusal.{Refusal}
use Rattle.cc_receiver.specs.declared.receiver.Fed.{Fed}
use Rattle.cdp_packets.specs.Packets.{Frame}
use Rattle.dtvcc_services.specs.Numbers.{IsService}
use Rattle.dtvcc_windows.specs.Windows.{WindowState}
use Rattle.caption_streams.specs.Changed.{HaveChanged}
use Rattle.grid_print.specs.declared.changed.Changed.{Changed}
use Rattle.caption_streams.specs.GridTexts.{all_text, changes_text}
use Rattle.caption_streams.specs.Screens.{LookAlike}
use Rattle.line21_codes.specs.declared.channels.Chan.{Chan}
use Rattle.line21_screen.specs.Grid.{empty_grid}
use Rattle.services_files.specs.CaptionChannel.{caption_channel}
use Rattle.words_files.specs.Offences.{IsFileUnder, IsMalformed}
use Rattle.ccsuite_c.specs.Cells.{chan_of, text_cell, window_cell, window_seen}
use Rattle.ccsuite_c.specs.Codes.{argument_code, memory_code, none_code, refused_code, room_code}
use Rattle.ccsuite_c.specs.Told.{TellsFed, read_so, refused_so}
use Rattle.ccsuite_c.specs.declared.cells.TextCell.{TextCell}
use Rattle.ccsuite_c.specs.declared.cells.WindowCell.{WindowCell}
use Rattle.ccsuite_c.specs.declared.cells.WindowSeen.{WindowSeen}
use Rattle.ccsuite_c.specs.declared.receiver.ChangedSeen.{ChangedSeen}
use Rattle.ccsuite_c.specs.declared.receiver.FrameSeen.{FrameSeen}
use Rattle.ccsuite_c.specs.declared.state.State.{State}
use Rattle.ccsuite_c.specs.declared.state.State.TheVariants as held
use Rattle.ccsuite_c.specs.declared.told.FedBytes.{FedBytes}

-- which of both kinds it is
abbrev pub IsOfKind : Bool → Reception → Type 0
IsOfKind true reception = IsConcealing reception
IsOfKind false reception = IsPlain reception

-- it was fed nothing, and nothing was put
pub record BeginsReceiving (conceals : Bool) (receiving : Receiving) : Type 0 where
  pub kind : IsOfKind conceals (reception_of receiving)
  pub fed : HasFed [] (reception_of receiving)
  pub grids : (last_screens receiving).grids ≡ (λ chan. empty_grid)
  pub windows : (service id : ℕ) → (last_screens receiving).windows service id ≡ None

-- how opening one ended
abbrev pub OpenedReceiver : Bool → ℕ → Option State → Type 0
OpenedReceiver conceals code (Some (held.Receiving receiving)) = (code ≡ 0) × BeginsReceiving conceals receiving
OpenedReceiver conceals code None = code ≡ memory_code
OpenedReceiver conceals code _ = ⊥

-- bytes were fed, and C learns what came of them
pub record ReceivesMore (before bytes : List ℕ) (old new : Receiving) (code : ℕ) (told : FedBytes) : Type 0 where
  pub answer : Result Fed FeedFault
  pub feeds : AnswersFed before bytes (reception_of old) (reception_of new) answer
  pub tells : TellsFed answer code told
  pub same : last_screens new ≡ last_screens old

abbrev pub ReceivesAnswer : List ℕ → List ℕ → Receiving → ℕ → FedBytes → Option State → Type 0
ReceivesAnswer before bytes old code told (Some (held.Receiving new)) = ReceivesMore before bytes old new code told
ReceivesAnswer before bytes old code told _ = ⊥

-- words end after these bytes: they are a words file, or the answer says why they are none
abbrev pub EndAnswer : List ℕ → ℕ → FedBytes → Type 0
EndAnswer bytes code told =
    ((code ≡ 0) × (told ≡ read_so 0 0) × ((frames : List Frame) × IsFileUnder caption_channel frames bytes))
    ⊎ ((code ≡ refused_code)
    × ((refusal : Refusal) × IsMalformed caption_channel bytes refusal × (told ≡ refused_so refusal.place (reason_number refusal.why))))

-- the number of the last frame, how many are missing before it, and how many there are
abbrev pub frame_seen : ℕ → ℕ → ℕ → FrameSeen
frame_seen number missing count = record { number = number; missing = missing; frames = count; reserved = replicate 3 0 }

-- the last frame is given, or there is none, and nothing is given
abbrev pub FrameAnswer : Reception → List Frame → ℕ → FrameSeen → FrameSeen → Type 0
FrameAnswer reception frames code old new =
    ((code ≡ 0) × (new ≡ frame_seen (number_behind reception frames) (missing_behind reception frames) (frame_total reception)))
    ⊎ ((code ≡ none_code) × (frame_total reception ≡ 0) × (new ≡ old))

-- no channel has this number, or no cell stands there
abbrev pub IsNoCell : Option Chan → ℕ → ℕ → Type 0
IsNoCell None row column = Unit {0}
IsNoCell (Some chan) row column = (row < 1) ⊎ ((15 < row) ⊎ (31 < column))

-- the displayed cell is given, or there is no such place
abbrev pub CellAnswer : Reception → List Frame → ℕ → ℕ → ℕ → ℕ → TextCell → TextCell → Type 0
CellAnswer reception frames channel row column code old new =
    ((code ≡ 0) × ((chan : Chan) × (chan_of channel ≡ Some chan) × (new ≡ text_cell (grids_behind reception frames chan row column))))
    ⊎ ((code ≡ argument_code) × IsNoCell (chan_of channel) row column × (new ≡ old))

-- a service may have a window of this id
pub record HasWindowPlace (service id : ℕ) : Type 0 where
  pub is : IsService service
  pub small : id < 8

-- and this window a cell at this place
pub record HasCellPlace (service id row column : ℕ) : Type 0 where
  pub window : HasWindowPlace service id
  pub in_rows : row < 16
  pub in_columns : column < 64

-- the window is given, or there is none
abbrev pub WindowAnswer : Option WindowState → ℕ → WindowSeen → WindowSeen → Type 0
WindowAnswer (Some window) code old new = (code ≡ 0) × (new ≡ window_seen window)
WindowAnswer None code old new = (code ≡ none_code) × (new ≡ old)

-- and its cell at a place
abbrev pub WindowCellAnswer : Option WindowState → ℕ → ℕ → ℕ → WindowCell → WindowCell → Type 0
WindowCellAnswer (Some window) row column code old new = (code ≡ 0) × (new ≡ window_cell (window.cells row column))
WindowCellAnswer None row column code old new = (code ≡ none_code) × (new ≡ old)

-- a text stands at the front of the output, whose other bytes are as they were, and its length is given
pub record TextStands (text before after : List ℕ) (count : ℕ) : Type 0 where
  pub fits : length text ≤ length before
  pub count_is : count ≡ length text
  pub stands : after ≡ text ++ drop count before

-- the output is as it was
pub record IsUntouched (before after : List ℕ) (count : ℕ) : Type 0 where
  pub untouched : after ≡ before
  pub nothing : count ≡ 0

-- a text is handed out, or it has more bytes than there is room for
abbrev pub HandsOut : List ℕ → List ℕ → List ℕ → ℕ → ℕ → Type 0
HandsOut text before after code count =
    ((code ≡ 0) × TextStands text before after count)
    ⊎ ((code ≡ room_code) × (length before < length text) × IsUntouched before after count)

-- the screens after frames were put, and nothing else changed
pub record HasPutScreens (frames : List Frame) (old new : Receiving) : Type 0 where
  pub reception : reception_of new ≡ reception_of old
  pub last : LookAlike (last_screens new) (screens_behind (reception_of old) frames)

-- what changed since the screens that were put last
abbrev pub changes_of : Receiving → List Frame → List ℕ
changes_of receiving frames =
    changes_text (number_behind (reception_of receiving) frames) (last_screens receiving) (screens_behind (reception_of receiving) frames)

-- it is handed out, or there is too little room, or memory wasn't found
abbrev pub ChangesAnswer : Receiving → List Frame → List ℕ → List ℕ → ℕ → ℕ → Option State → Type 0
ChangesAnswer old frames before after code count (Some (held.Receiving new)) =
    (HasPutScreens frames old new × HandsOut (changes_of old frames) before after code count)
    ⊎ ((code ≡ memory_code) × (new ≡ old) × IsUntouched before after count)
ChangesAnswer old frames before after code count _ = ⊥

-- what changed, as C is told of it
abbrev pub changed_seen : Changed → ChangedSeen
changed_seen changed = record { services = changed.services; channels = changed.channels; reserved = replicate 3 0 }

-- it is told which channels and services changed since the screens that were put last
abbrev pub ChangedAnswer : Receiving → List Frame → ℕ → ChangedSeen → Option State → Type 0
ChangedAnswer old frames code told (Some (held.Receiving new)) =
    (code ≡ 0) × HasPutScreens frames old new
    × ((changed : Changed) × HaveChanged (last_screens old) (screens_behind (reception_of old) frames) changed × (told ≡ changed_seen changed))
ChangedAnswer old frames code told _ = ⊥

-- all screens after frames are handed out, or there is too little room, or memory wasn't found
abbrev pub ScreensAnswer : Reception → List Frame → List ℕ → List ℕ → ℕ → ℕ → Type 0
ScreensAnswer reception frames before after code count =
    HandsOut (all_text (number_behind reception frames) (screens_behind reception frames)) before after code count
    ⊎ ((code ≡ memory_code) × IsUntouched before after count)
