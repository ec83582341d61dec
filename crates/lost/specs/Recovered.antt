-- Between crates: the program's answer stands on none of these definitions.
-- What a concealing receiver shows of a placed list of which frames are lost: it is reset after each loss, and what is authored is seen
-- again on each channel and in each service that is back (CTA-608-E; 47 CFR 79.101; CTA-708-E,
-- caption windows; SMPTE ST 334-2).
use Rattle.std.specs.Prelude.{◌≡◌, ℕ, ◌<◌, ◌≤◌, ◌⊎◌, List, [], ◌∷◌, ◌++◌, Option, None}
use Rattle.line21_codes.specs.declared.channels.Chan.{Chan}
use Rattle.line21_codes.specs.declared.channels.Chan.TheVariants.{Cc2, Cc4}
use Rattle.line21_codes.specs.declared.channels.FieldNumber.{FieldNumber}
use Rattle.line21_codes.specs.declared.channels.FieldNumber.TheVariants.{One, Two}
use Rattle.line21_codes.specs.declared.styles.Cell.{Cell}
use Rattle.cdp_packets.specs.Packets.{Frame}
use Rattle.words_files.specs.Offences.{IsFileUnder}
use Rattle.services_files.specs.CaptionChannel.{caption_channel}
use Rattle.dtvcc_windows.specs.Showing.{ShownWindow}
use Rattle.cue_lists.specs.AuthoredGrid.{IsSettled, authored_grid, blank}
use Rattle.cue_lists.specs.Channels.{cues_on}
use Rattle.cue_lists.specs.Listing.{IsFormed, Listing}
use Rattle.cue_lists.specs.Rules.{IsRuled}
use Rattle.cue_lists.specs.AuthoredServiceGrid.{authored_windows}
use Rattle.cue_lists.specs.declared.cue.Cue.{Cue}
use Rattle.line21_screen.specs.Fields.{FieldState}
use Rattle.frame_carrier.specs.Planned.{IsListPlaced, Placement, authored_channel}
use Rattle.lost.specs.ChannelLoss.{Resynchronises}
use Rattle.lost.specs.WindowLoss.{IsServiceBack}
use Rattle.cc_conceal.specs.Concealed.{concealed_field, concealed_grids, concealed_windows}
use Rattle.cc_conceal.specs.Concealers.{Conceals, HasConcealed}
use Rattle.cc_conceal.specs.declared.concealer.Concealer.{Concealer}
use Rattle.lost.specs.Delivered.{AreDelivered, IsInStep, delivered_bytes, delivered_packets}

-- a channel is back at a frame after a lost one: it has no cue, or one resynchronises it that has its SHOW by then
abbrev pub IsChannelBack : Chan → List Cue → ℕ → ℕ → Type 0
IsChannelBack channel cues frame lost =
    (cues_on channel cues ≡ []) ⊎ ((cue : Cue) × Resynchronises channel cues lost cue × (cue.show ≤ frame))

-- a channel is in step at the last frame that came, and a service
abbrev pub IsChannelInStep : Listing → Chan → List ℕ → ℕ → Type 0
IsChannelInStep list channel came frame = IsInStep came frame (IsChannelBack channel list.cues frame)

abbrev pub IsServiceInStep : Listing → ℕ → List ℕ → ℕ → Type 0
IsServiceInStep list service came frame = IsInStep came frame (IsServiceBack list service frame)

-- a field after frames that came shows at the last of them what is authored on its first channel, where that is in step there and the frame is
-- settled for it, and nothing on its second
pub record ShowsFieldAgain (state : FieldState) (list : Listing) (channel : Chan) (came : List ℕ) (frame : ℕ) : Type 0 where
  pub first : IsChannelInStep list channel came frame → IsSettled channel list.cues frame → state.first.displayed ≡ authored_grid channel list.cues frame
  pub second : state.second.displayed ≡ blank

-- whichever frames of a placed list came: at the last of them what is authored is seen on each channel that is in step there, and in each
-- service that is, and nothing on the channels that aren't authored
abbrev pub LossIsRecovered : Type 0
LossIsRecovered = (list : Listing) (placed : Placement) → IsFormed list → IsRuled list → IsListPlaced list placed
    → (earlier : List ℕ) (frame : ℕ) → AreDelivered (earlier ++ frame ∷ [])
    → ((in_field : FieldNumber) → ShowsFieldAgain (concealed_field in_field (delivered_packets list placed (earlier ++ frame ∷ []))) list
    (authored_channel in_field) (earlier ++ frame ∷ []) frame)
    × ((service id : ℕ) → id < 8 → IsServiceInStep list service (earlier ++ frame ∷ []) frame
    → concealed_windows (delivered_packets list placed (earlier ++ frame ∷ [])) service id ≡ authored_windows service list.cues frame id)

-- the words of the frames that came are a words file whose caption channel is whole, whichever are lost; and a concealing receiver that was
-- fed them conceals just the packets that came
abbrev pub DeliveredAreConcealed : Type 0
DeliveredAreConcealed = (list : Listing) (placed : Placement) → IsFormed list → IsRuled list → IsListPlaced list placed → (came : List ℕ)
    → IsFileUnder caption_channel (delivered_packets list placed came) (delivered_bytes list placed came)
    × ((receiver : Concealer) → HasConcealed (delivered_bytes list placed came) receiver → Conceals (delivered_packets list placed came) receiver)

-- the cell is one that the receiver's call `cell` may answer, and this is what may be seen of the window that its call `window` answers: what
-- stands there after whatever frames the receiver conceals
abbrev pub IsCellOf : Concealer → Chan → ℕ → ℕ → Option Cell → Type 0
IsCellOf receiver channel row column cell = (frames : List Frame) → Conceals frames receiver → cell ≡ concealed_grids frames channel row column

abbrev pub IsWindowOf : Concealer → ℕ → ℕ → Option ShownWindow → Type 0
IsWindowOf receiver service id seen = (frames : List Frame) → Conceals frames receiver → seen ≡ concealed_windows frames service id

-- the channel of a field that isn't authored
abbrev pub other_channel : FieldNumber → Chan
other_channel One = Cc2
other_channel Two = Cc4

-- the receiver's cells are those that are authored on a field's channel, where that is in step and the frame is settled for it, and none on its
-- other channel
pub record AreCellsAuthored (receiver : Concealer) (list : Listing) (in_field : FieldNumber) (came : List ℕ) (frame : ℕ) : Type 0 where
  pub own : IsChannelInStep list (authored_channel in_field) came frame → IsSettled (authored_channel in_field) list.cues frame
      → (row column : ℕ) (cell : Option Cell) → IsCellOf receiver (authored_channel in_field) row column cell
      → cell ≡ authored_grid (authored_channel in_field) list.cues frame row column
  pub other : (row column : ℕ) (cell : Option Cell) → IsCellOf receiver (other_channel in_field) row column cell → cell ≡ None

-- so are its windows of a service
abbrev pub AreWindowsAuthored : Concealer → Listing → ℕ → ℕ → Type 0
AreWindowsAuthored receiver list service frame = (id : ℕ) → id < 8 → (seen : Option ShownWindow) → IsWindowOf receiver service id seen
    → seen ≡ authored_windows service list.cues frame id

-- a concealing receiver that was fed the words of the frames that came, in any pieces, answers what is authored on each channel and in each
-- service that is in step at the last of them
abbrev pub ConcealerRecovers : Type 0
ConcealerRecovers = (list : Listing) (placed : Placement) → IsFormed list → IsRuled list → IsListPlaced list placed
    → (earlier : List ℕ) (frame : ℕ) → AreDelivered (earlier ++ frame ∷ [])
    → (receiver : Concealer) → HasConcealed (delivered_bytes list placed (earlier ++ frame ∷ [])) receiver
    → ((in_field : FieldNumber) → AreCellsAuthored receiver list in_field (earlier ++ frame ∷ []) frame)
    × ((service : ℕ) → IsServiceInStep list service (earlier ++ frame ∷ []) frame → AreWindowsAuthored receiver list service frame)
