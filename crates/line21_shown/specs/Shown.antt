-- Believed in part: the program's answer stands on some of these definitions.
-- What a viewer sees of a placed cue list: the screen that the pairs of each field leave at a frame, and that it is what
-- was authored (CTA-608-E; 47 CFR 79.101).
use Rattle.std.specs.Prelude.{◌≡◌, ℕ, suc, List, reverse}
use Rattle.line21_codes.specs.declared.channels.FieldNumber.{FieldNumber}
use Rattle.line21_codes.specs.declared.channels.Chan.{Chan}
use Rattle.cue_lists.specs.AuthoredGrid.{IsSettled, authored_grid, blank}
use Rattle.cue_lists.specs.Listing.{IsFormed, Listing}
use Rattle.cue_lists.specs.Rules.{IsRuled}
use Rattle.cue_lists.specs.declared.cue.Cue.{Cue}
use Rattle.line21_screen.specs.Fields.{FieldState}
use Rattle.line21_screen.specs.Meaning.{after}
use Rattle.frame_scheduler.specs.Columns.{Columns, first_pairs}
use Rattle.frame_scheduler.specs.Planned.{IsListPlaced, Placement, authored_channel, columns_of}

-- a field's state at a frame: what its pairs up to the frame's leave in a receiver that was reset
abbrev pub state_at : FieldNumber → Columns → ℕ → FieldState
state_at in_field columns frame = after in_field (reverse (first_pairs in_field columns (suc frame)))

-- a field's state at a frame shows the cues of its first channel, where the frame is settled for it, and nothing on its second
pub record ShowsField (state : FieldState) (channel : Chan) (cues : List Cue) (frame : ℕ) : Type 0 where
  pub first : IsSettled channel cues frame → state.first.displayed ≡ authored_grid channel cues frame
  pub second : state.second.displayed ≡ blank

-- the states of the fields at a frame show a list's cues: each field its channel's, CC1's or CC3's, with CC2 or CC4 blank
abbrev pub ShowsList : Listing → (FieldNumber → FieldState) → ℕ → Type 0
ShowsList list states frame = (in_field : FieldNumber) → ShowsField (states in_field) (authored_channel in_field) list.cues frame

-- what is authored is what is seen: the pairs of a list that keeps the rules, in its earliest placement, at every frame
abbrev pub AuthoredIsSeen : Type 0
AuthoredIsSeen = (list : Listing) (placed : Placement) → IsFormed list → IsRuled list → IsListPlaced list placed → (frame : ℕ)
    → ShowsList list (λ in_field. state_at in_field (columns_of list placed) frame) frame
