-- Believed in part: the library's answers stand on some of these definitions.
-- The cues on a channel among the first cues of a list, the newest first, and the number of the newest one.
use Rattle.std.specs.Prelude.{◌≡◌, ℕ, ◌<◌, true, List, [], ◌∷◌, reverse, slice_get, take, Option, Some, None}
use Rattle.line21_codes.specs.declared.channels.Chan.{Chan}
use Rattle.cue_types.specs.Channels.{cues_on, is_on}
use Rattle.cue_types.specs.declared.cue.Cue.{Cue}

-- those among this many cues, the newest first
abbrev pub newest : Chan → List Cue → ℕ → List Cue
newest channel cues count = reverse (cues_on channel (take count cues))

-- the cue of a number, if there is one
abbrev pub cue_at : List Cue → Option ℕ → Option Cue
cue_at cues None = None
cue_at cues (Some number) = slice_get cues number

-- the cue of this number is the newest of them, and the others come before it
pub record IsNewest (channel : Chan) (cues : List Cue) (count number : ℕ) : Type 0 where
  pub cue : Cue
  pub before : number < count
  pub is : slice_get cues number ≡ Some cue
  pub on : is_on channel cue.kind ≡ true
  pub are : newest channel cues count ≡ cue ∷ newest channel cues number

-- the number of the newest of them, if there is one
abbrev pub IsLastOn : Chan → List Cue → ℕ → Option ℕ → Type 0
IsLastOn channel cues count None = newest channel cues count ≡ []
IsLastOn channel cues count (Some number) = IsNewest channel cues count number
