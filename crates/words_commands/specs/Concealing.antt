-- Between crates: the program's answer stands on none of these definitions.
-- Words on their way through a concealing receiver.
use Rattle.std.specs.Prelude.{◌≡◌, ◌≤◌, ℕ, List, [], length}
use Rattle.cc_conceal.specs.Concealers.{HasConcealed, concealed_frames}
use Rattle.cdp_packets.specs.Packets.{Frame}
use Rattle.grid_print.specs.Screens.{LookAlike}
use Rattle.grid_print.specs.Shown.{last_shown}
use Rattle.grid_print.specs.declared.shown.Shown.{Shown}
use Rattle.words_reading.specs.CaptionChannel.{caption_channel}
use Rattle.words_files.specs.FramesOf.{AreFramesOf}
use Rattle.words_files.specs.Offences.{IsUnoffending}
use Rattle.words_commands.specs.ConcealedScreens.{concealed_screens, next_concealed}
use Rattle.words_commands.specs.Screens.{texts_behind}
use Rattle.words_commands.specs.declared.concealing.Concealing.{Concealing}

-- the concealed screens of frames were shown last
abbrev pub ShownLast : List Frame → Shown → Type 0
ShownLast frames shown = LookAlike (last_shown shown) (concealed_screens frames)

-- these bytes were concealed
pub record HasReadConcealed (bytes : List ℕ) (concealing : Concealing) : Type 0 where
  pub had : HasConcealed bytes concealing.concealer
  pub few : concealed_frames concealing.concealer ≤ length bytes

-- these bytes were, of which no word offends, and this is the text of their frames, whose screens were shown last
pub record HasJudgedConcealed (bytes text : List ℕ) (concealing : Concealing) : Type 0 where
  pub had : HasConcealed bytes concealing.concealer
  pub few : concealed_frames concealing.concealer ≤ length bytes
  pub unoffending : IsUnoffending caption_channel bytes
  pub frames : List Frame
  pub frames_are : AreFramesOf caption_channel frames bytes
  pub shown : ShownLast frames concealing.shown
  pub text_is : text ≡ texts_behind next_concealed [] frames
