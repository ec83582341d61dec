-- Believed: the library's answers stand on these definitions.
-- Where a cursor over the cues of a list stands.
use Rattle.std.specs.Prelude.{◌≡◌, ℕ, ◌<◌, ◌≤◌, true, List, [], ◌∷◌, length, slice_get, IfSome, ⊤}
use Rattle.line21_codes.specs.declared.channels.Chan.{Chan}
use Rattle.cc_verifier.specs.ChannelNewest.{IsLastOn, newest}
use Rattle.cc_verifier.specs.declared.channel_cursor.ChannelCursor.{ChannelCursor}
use Rattle.cue_types.specs.Channels.{is_on}
use Rattle.cue_types.specs.declared.cue.Cue.{Cue}

-- its channel
abbrev pub cursor_channel : ChannelCursor → Chan
cursor_channel cursor = cursor.channel

-- the SHOW of each of the cues has come
abbrev pub HasCome : ℕ → List Cue → Type 0
HasCome frame [] = ⊤
HasCome frame (cue ∷ earlier) = (cue.show ≤ frame) × HasCome frame earlier

-- a cue on the channel whose SHOW has not come
pub record IsToCome (channel : Chan) (frame : ℕ) (cue : Cue) : Type 0 where
  pub on : is_on channel cue.kind ≡ true
  pub later : frame < cue.show

-- it has passed cues of the channel whose SHOW has come by a frame, and no others
pub record HasPassedShown (cues : List Cue) (frame : ℕ) (cursor : ChannelCursor) : Type 0 where
  pub within : cursor.next ≤ length cues
  pub last : IsLastOn cursor.channel cues cursor.next cursor.last
  pub come : HasCome frame (newest cursor.channel cues cursor.next)

-- it stands at a frame: it has passed all of them
pub record StandsAtFrame (cues : List Cue) (frame : ℕ) (cursor : ChannelCursor) : Type 0 where
  pub passed : HasPassedShown cues frame cursor
  pub next : IfSome (slice_get cues cursor.next) (IsToCome cursor.channel frame)
