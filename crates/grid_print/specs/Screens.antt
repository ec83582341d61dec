-- Believed: the library's answers stand on these definitions.
-- What a viewer sees after frames: the grid of each channel of line 21, and the windows of each service of DTVCC (CTA-608-E; CTA-708-E).
use Rattle.std.specs.Prelude.{◌≡◌, ◌<◌, ℕ, List, Option}
use Rattle.cdp_packets.specs.Packets.{Frame}
use Rattle.cc_receiver.specs.ReceivedServices.{received_windows}
use Rattle.cc_receiver.specs.Receivers.{HasReceived}
use Rattle.cc_receiver.specs.declared.receiver.Receiver.{Receiver}
use Rattle.dtvcc_services.specs.Numbers.{IsService}
use Rattle.dtvcc_windows.specs.Showing.{ShownWindow}
use Rattle.line21_codes.specs.declared.channels.Chan.{Chan}
use Rattle.line21_screen.specs.Grid.{Grid}
use Rattle.words_files.specs.FramesOf.{AreFramesOf}
use Rattle.words_files.specs.Received.{received_grids}
use Rattle.cc_receiver.specs.CaptionChannel.{caption_channel}

-- the grid of each channel, and what is seen of the window of each id of each service
pub record Screens : Type 0 where
  pub grids : Chan → Grid
  pub windows : ℕ → ℕ → Option ShownWindow

-- those that frames leave in a receiver that was reset before the first of them
abbrev pub received_screens : List Frame → Screens
received_screens frames = record { grids = received_grids frames; windows = received_windows frames }

-- screens of these grids and windows
abbrev pub screens_of : (Chan → Grid) → (ℕ → ℕ → Option ShownWindow) → Screens
screens_of grids windows = record { grids = grids; windows = windows }

-- a receiver was fed bytes that brought these frames
pub record IsBehind (frames : List Frame) (receiver : Receiver) : Type 0 where
  pub bytes : List ℕ
  pub received : HasReceived bytes receiver
  pub frames_are : AreFramesOf caption_channel frames bytes

-- the same is seen of the windows 0 to 7 of the services 1 to 63
abbrev pub HaveSameWindows : (ℕ → ℕ → Option ShownWindow) → (ℕ → ℕ → Option ShownWindow) → Type 0
HaveSameWindows one other = (service id : ℕ) → IsService service → id < 8 → one service id ≡ other service id

-- the same is seen of two screens
pub record LookAlike (one other : Screens) : Type 0 where
  pub grids : one.grids ≡ other.grids
  pub windows : HaveSameWindows one.windows other.windows
