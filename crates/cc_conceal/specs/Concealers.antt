-- Believed in part: the library's answers stand on some of these definitions.
-- What a concealing receiver is, after the bytes that it was fed.
use Rattle.std.specs.Prelude.{◌≡◌, ◌≤◌, ℕ, ◌+◌, ◌-◌, ◌*◌, ◌%◌, ◌==◌, not, Bool, true, false, if◌then◌else◌, List, [], ◌∷◌, ◌++◌, length, map, reverse, take, Option, Some, None, Result, Ok, Err}
use Rattle.cc_base.specs.declared.refusal.Refusal.{Refusal}
use Rattle.line21_codes.specs.Channels.{data_channel_of, field_of_channel}
use Rattle.line21_codes.specs.declared.channels.Chan.{Chan}
use Rattle.line21_codes.specs.declared.channels.FieldNumber.{FieldNumber}
use Rattle.line21_codes.specs.declared.channels.FieldNumber.TheVariants.{One, Two}
use Rattle.line21_screen.specs.Fields.{channel}
use Rattle.line21_screen.specs.Grid.{Grid}
use Rattle.line21_screen.specs.declared.field.Field.{Field}
use Rattle.line21_screen.specs.Objects as fields
use Rattle.cdp_packets.specs.Packets.{Frame}
use Rattle.words_files.specs.FramesOf.{AreFramesOf}
use Rattle.words_files.specs.Received.{received_pairs}
use Rattle.services_files.specs.CaptionChannel.{caption_channel}
use Rattle.services_files.specs.CarriedChannel.{file_triplets}
use Rattle.services_files.specs.Events.{service_events}
use Rattle.dtvcc_screen.specs.Meaning.{cleaned, served_after}
use Rattle.dtvcc_screen.specs.declared.clock.Clock.{Clock}
use Rattle.dtvcc_services.specs.Objects.{Events, all_ticks, served_now, service_behind}
use Rattle.cc_receiver.specs.Receivers.{HasReceived, frame_count}
use Rattle.cc_receiver.specs.Serving.{HasServed}
use Rattle.cc_receiver.specs.declared.services.Served.{Served}
use Rattle.cc_receiver.specs.declared.receiver.Fed.{Fed}
use Rattle.cc_receiver.specs.declared.receiver.Receiver.{Receiver}
use Rattle.dtvcc_windows.specs.Showing.{ShownWindow}
use Rattle.cc_conceal.specs.Concealed.{concealed, concealed_windows, distance, heard_of, missing_before, number_of_last}
use Rattle.cc_conceal.specs.declared.concealer.Concealer.{Concealer}

-- the receiver that reads and refuses its bytes
abbrev pub receiver_of : Concealer → Receiver
receiver_of concealer = concealer.receiver

-- the number of whole frames that it counts
abbrev pub concealed_frames : Concealer → ℕ
concealed_frames concealer = frame_count concealer.receiver

-- a field of line 21, and the displayed cells of a channel
abbrev pub concealer_field : FieldNumber → Concealer → Field
concealer_field One concealer = concealer.first
concealer_field Two concealer = concealer.second

abbrev pub displayed_now : Concealer → Chan → Grid
displayed_now concealer chan = (channel (data_channel_of chan) (fields.field_of (concealer_field (field_of_channel chan) concealer))).displayed

-- the counter of the last of frames, if there is one
abbrev pub IsLastCounter : List Frame → Option ℕ → Type 0
IsLastCounter frames None = frames ≡ []
IsLastCounter frames (Some counter) = (before : List Frame) × ((last : Frame) × (frames ≡ before ++ last ∷ []) × (counter ≡ last.counter))

-- a counter doesn't go on from the last one
abbrev pub jumps_from : Option ℕ → ℕ → Bool
jumps_from None counter = false
jumps_from (Some former) counter = not (counter == (former + 1) % 65536)

-- the number of the next frame, and how many are missing before it, by the last counter and number
abbrev pub next_number : Option ℕ → ℕ → ℕ → ℕ
next_number None number counter = counter
next_number (Some former) number counter = number + distance former counter

abbrev pub next_missing : Option ℕ → ℕ → ℕ
next_missing None counter = 0
next_missing (Some former) counter = distance former counter - 1

-- the frames that are kept when one comes
abbrev pub kept_at : Bool → List Frame → List Frame
kept_at jumps heard = if jumps then [] else heard

-- each service is where its events in the frames lead from a reset
abbrev pub LeadFromReset : List Frame → Events → Events → Type 0
LeadFromReset heard earlier last =
    (service : ℕ) → (clock : Clock) × (served_now earlier last service ≡ served_after (cleaned clock) (service_events service heard))

-- and where its events before the last frame lead
abbrev pub LeadBefore : List Frame → Events → Type 0
LeadBefore earlier events =
    (service : ℕ) → (clock : Clock) × (service_behind events service ≡ served_after (cleaned clock) (service_events service earlier))

-- services took these frames, as if they had been reset before them
pub record AreServed (heard : List Frame) (served : Served) : Type 0 where
  pub earlier : Events
  pub last : Events
  pub has : HasServed (file_triplets heard) earlier last served
  pub leads : LeadFromReset heard earlier last
  pub before : (others : List Frame) (newest : Frame) → heard ≡ others ++ newest ∷ [] → LeadBefore others earlier

-- the fields are after these frames, as if they had been reset before them; so are its own services, which take frames from the first
-- jump on
pub record IsBehind (heard : List Frame) (concealer : Concealer) : Type 0 where
  pub first : fields.Leads One (reverse (map concealed (received_pairs One heard))) concealer.first
  pub second : fields.Leads Two (reverse (map concealed (received_pairs Two heard))) concealer.second
  pub apart : concealer.apart ≡ true → AreServed heard concealer.served
  pub beside : concealer.apart ≡ false → AreServed [] concealer.served

-- frames acted: it is after those since the last jump
pub record HasActed (frames : List Frame) (concealer : Concealer) : Type 0 where
  pub counter : IsLastCounter frames concealer.counter
  pub behind : IsBehind (heard_of frames) concealer
  pub together : concealer.apart ≡ false → heard_of frames ≡ frames
  pub ticks : all_ticks concealer.served.services ≤ length frames
  pub number : concealer.number ≡ number_of_last frames
  pub missing : concealer.missing ≡ missing_before frames
  pub small : concealer.number ≤ 65536 * length frames
  pub goes_on : concealer.jumped ≡ false → (earlier : List Frame) (last : Frame) → frames ≡ earlier ++ last ∷ []
      → heard_of frames ≡ heard_of earlier ++ last ∷ []

-- it conceals frames: they acted, and bytes brought them
pub record Conceals (frames : List Frame) (concealer : Concealer) : Type 0 where
  pub acted : HasActed frames concealer
  pub bytes : List ℕ
  pub received : HasReceived bytes concealer.receiver
  pub frames_are : AreFramesOf caption_channel frames bytes

-- it was fed these bytes, and conceals their frames
pub record HasConcealed (bytes : List ℕ) (concealer : Concealer) : Type 0 where
  pub received : HasReceived bytes concealer.receiver
  pub frames : List Frame
  pub frames_are : AreFramesOf caption_channel frames bytes
  pub conceals : Conceals frames concealer

-- it was fed a front of the bytes, or all of them, where a word is refused
abbrev pub ConcealsOn : List ℕ → List ℕ → Concealer → Result Fed Refusal → Type 0
ConcealsOn before bytes new (Ok fed) = HasConcealed (before ++ take fed.used bytes) new
ConcealsOn before bytes new (Err refusal) = HasConcealed (before ++ bytes) new

-- this is what the frames that it conceals leave of the windows
pub record ShowsConcealed (concealer : Concealer) (seen : ℕ → ℕ → Option ShownWindow) : Type 0 where
  pub frames : List Frame
  pub conceals : Conceals frames concealer
  pub seen_are : seen ≡ concealed_windows frames

-- the last of the frames that it conceals turned what was seen of the windows into this
pub record TurnedConcealed (concealer : Concealer) (was seen : ℕ → ℕ → Option ShownWindow) : Type 0 where
  pub bytes : List ℕ
  pub earlier : List Frame
  pub last : Frame
  pub had : HasConcealed bytes concealer
  pub frames_are : AreFramesOf caption_channel (earlier ++ last ∷ []) bytes
  pub was_are : was ≡ concealed_windows earlier
  pub seen_are : seen ≡ concealed_windows (earlier ++ last ∷ [])
