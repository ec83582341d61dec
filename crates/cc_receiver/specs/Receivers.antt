-- Believed in part: the library's answers stand on some of these definitions.
-- What a receiver is, after the bytes that it was fed.
use Rattle.std.specs.Prelude.{◌≡◌, ℕ, ◌<◌, List, [], length, Option}
use Rattle.std.specs.List.{All}
use Rattle.cc_base.specs.declared.refusal.Refusal.{Refusal}
use Rattle.cc_base.specs.Feeding.{Reached, place_by}
use Rattle.cc_base.specs.Syntax.{judge_by}
use Rattle.cdp_packets.specs.Packets.{Frame}
use Rattle.anc_words.specs.Readers.{HasRead, kept_refusal}
use Rattle.anc_words.specs.Reading.{anc_syntax}
use Rattle.line21_codes.specs.Channels.{field_of_channel, data_channel_of}
use Rattle.line21_codes.specs.declared.channels.Chan.{Chan}
use Rattle.line21_codes.specs.declared.channels.FieldNumber.{FieldNumber}
use Rattle.line21_screen.specs.Fields.{channel}
use Rattle.line21_screen.specs.Grid.{Grid}
use Rattle.line21_screen.specs.Objects.{field_of}
use Rattle.line21_screen.specs.declared.field.Field.{Field}
use Rattle.line21_screen.specs.declared.modes.Mode.{Mode}
use Rattle.cc_receiver.specs.declared.receiver.Receiver.{Receiver}
use Rattle.services_files.specs.Catching.{caption_verdict, caught_in}
use Rattle.services_files.specs.Services.{services_say}
use Rattle.services_files.specs.Received.{received}
use Rattle.cc_receiver.specs.Catchers.{HasCaught, captions_field}

-- the number of whole frames that it counts
abbrev pub frame_count : Receiver → ℕ
frame_count receiver = receiver.captions.frames

-- the refusal that it keeps
abbrev pub receiver_refusal : Receiver → Option Refusal
receiver_refusal receiver = kept_refusal receiver.words

-- a field of line 21
abbrev pub field_in : FieldNumber → Receiver → Field
field_in in_field receiver = captions_field in_field receiver.captions

-- the displayed cells of a channel
abbrev pub displayed_grid : Receiver → Chan → Grid
displayed_grid receiver chan = (channel (data_channel_of chan) (field_of (field_in (field_of_channel chan) receiver))).displayed

-- the mode in which the frames leave a channel
abbrev pub received_mode : List Frame → Chan → Mode
received_mode frames chan = (channel (data_channel_of chan) (received (field_of_channel chan) frames)).mode

-- it was fed these bytes, those too after a refused word, and counts their frames
pub record HasReceived (bytes : List ℕ) (receiver : Receiver) : Type 0 where
  pub reached : Reached (judge_by anc_syntax) (caption_verdict services_say) (place_by 2) HasRead kept_refusal HasCaught
      [] [] bytes receiver.words receiver.captions
  pub bytes_are : All (λ byte. byte < 256) bytes
  pub counted : frame_count receiver ≡ length (caught_in services_say bytes).frames
