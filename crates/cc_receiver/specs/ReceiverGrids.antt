-- Between crates: the program's answer stands on none of these definitions.
-- What is seen of the windows of a receiver, by the bytes that it was fed (CTA-708-E, caption windows).
use Rattle.std.specs.Prelude.{◌≡◌, ℕ, List, [], ◌∷◌, ◌++◌, Option}
use Rattle.cdp_packets.specs.Packets.{Frame}
use Rattle.dtvcc_windows.specs.Showing.{ShownWindow}
use Rattle.services_files.specs.FramesOf.{AreFramesOf}
use Rattle.services_files.specs.CaptionChannel.{caption_channel}
use Rattle.cc_receiver.specs.ReceivedServices.{received_windows}
use Rattle.cc_receiver.specs.Receivers.{HasReceived}
use Rattle.cc_receiver.specs.declared.receiver.Receiver.{Receiver}

-- this is what the frames of the bytes that it was fed leave of the windows
pub record ShowsWindows (receiver : Receiver) (seen : ℕ → ℕ → Option ShownWindow) : Type 0 where
  pub bytes : List ℕ
  pub frames : List Frame
  pub received : HasReceived bytes receiver
  pub frames_are : AreFramesOf caption_channel frames bytes
  pub seen_are : seen ≡ received_windows frames

-- the last frame of these bytes turned what was seen of the windows into this
pub record TurnedWindows (receiver : Receiver) (was seen : ℕ → ℕ → Option ShownWindow) : Type 0 where
  pub bytes : List ℕ
  pub earlier : List Frame
  pub last : Frame
  pub received : HasReceived bytes receiver
  pub frames_are : AreFramesOf caption_channel (earlier ++ last ∷ []) bytes
  pub was_are : was ≡ received_windows earlier
  pub seen_are : seen ≡ received_windows (earlier ++ last ∷ [])
