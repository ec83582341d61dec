-- Between crates: the program's answer stands on none of these definitions.
-- Line 21 where frames are missing: what a receiver shows that is reset right after them, and which cues bring a channel back
-- (CTA-608-E; 47 CFR 79.101; that a receiver is reset there is this project's own choice).
use Rattle.std.specs.Prelude.{◌≡◌, ℕ, zero, suc, ◌+◌, ◌<◌, ◌≤◌, List, [], ◌∷◌, ◌++◌, reverse, take, option_to_list}
use Rattle.std.specs.List.{AllByRecursion}
use Rattle.line21_codes.specs.declared.channels.Chan.{Chan}
use Rattle.line21_codes.specs.declared.channels.FieldNumber.{FieldNumber}
use Rattle.line21_codes.specs.declared.pairs.Pair.{Pair}
use Rattle.cue_lists.specs.AuthoredGrid.{IsSettled, authored_grid, blank, chain_of}
use Rattle.cue_lists.specs.Channels.{cues_on}
use Rattle.cue_lists.specs.Listing.{IsFormed, Listing}
use Rattle.cue_lists.specs.Rules.{IsRuled}
use Rattle.cue_lists.specs.declared.cue.Cue.{Cue}
use Rattle.cue_lists.specs.declared.cue.Kind.{Kind}
use Rattle.cue_lists.specs.declared.cue.Kind.TheVariants as kind
use Rattle.line21_screen.specs.Fields.{FieldState}
use Rattle.line21_screen.specs.Meaning.{after}
use Rattle.frame_carrier.specs.Columns.{Columns, pair_in}
use Rattle.frame_carrier.specs.Planned.{IsListPlaced, Placement, authored_channel, columns_of}

-- the pairs of a field in this many frames from one on
abbrev pub pairs_between : FieldNumber → Columns → ℕ → ℕ → List Pair
pairs_between in_field columns from zero = []
pairs_between in_field columns from (suc count) =
    pairs_between in_field columns from count ++ option_to_list (pair_in in_field (columns (from + count)))

-- what they leave in a field that was reset right before them
abbrev pub state_from : FieldNumber → Columns → ℕ → ℕ → FieldState
state_from in_field columns from count = after in_field (reverse (pairs_between in_field columns from count))

-- the rows of which cues are seen with a cue: a roll-up cue shows as many as it says, one a cue, and another cue itself alone
abbrev pub rows_of : Kind → ℕ
rows_of (kind.Pop channel) = 1
rows_of (kind.Paint channel) = 1
rows_of (kind.Roll channel rows) = rows
rows_of (kind.Win window) = 1

-- the cues of which something is seen from a cue's SHOW on, itself first, where those before it stand newest first: the last ones of its chain
abbrev pub seen_with : Cue → List Cue → List Cue
seen_with cue earlier = take (rows_of cue.kind) (chain_of cue earlier)

-- a cue resynchronises its channel after a lost frame. It stands among the cues of the channel, and each cue of which something is seen
-- with it has its LOAD later, so all that is sent of it comes
pub record Resynchronises (channel : Chan) (cues : List Cue) (lost : ℕ) (cue : Cue) : Type 0 where
  pub earlier : List Cue
  pub later : List Cue
  pub stands : cues_on channel cues ≡ earlier ++ cue ∷ later
  pub loaded : AllByRecursion (λ (seen : Cue). lost < seen.load) (seen_with cue (reverse earlier))

-- a receiver that was reset after a lost frame, and then hears all frames up to one, shows at that one what is authored for its field,
-- from the SHOW of a cue on that resynchronises the channel: whatever was heard before the loss, and whatever the loss cut apart
abbrev pub AuthoredIsSeenAgain : Type 0
AuthoredIsSeenAgain = (list : Listing) (placed : Placement) → IsFormed list → IsRuled list → IsListPlaced list placed
    → (in_field : FieldNumber) (lost count frame : ℕ) (cue : Cue) → suc lost + count ≡ suc frame
    → Resynchronises (authored_channel in_field) list.cues lost cue → cue.show ≤ frame
    → IsSettled (authored_channel in_field) list.cues frame
    → (state_from in_field (columns_of list placed) (suc lost) count).first.displayed ≡ authored_grid (authored_channel in_field) list.cues frame

-- a receiver that was reset before a frame, and then hears some frames, shows nothing on a field's other channel, nor on its own one where that
-- has no cue
pub record ShowsNoOther (in_field : FieldNumber) (list : Listing) (state : FieldState) : Type 0 where
  pub other : state.second.displayed ≡ blank
  pub own : cues_on (authored_channel in_field) list.cues ≡ [] → state.first.displayed ≡ blank

abbrev pub SilentIsBlank : Type 0
SilentIsBlank = (list : Listing) (placed : Placement) → IsFormed list → IsRuled list → IsListPlaced list placed
    → (in_field : FieldNumber) (since count : ℕ) → ShowsNoOther in_field list (state_from in_field (columns_of list placed) since count)
