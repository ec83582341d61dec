-- Believed in part: the library's answers stand on some of these definitions.
-- Where the cursors of the windows stand at a frame: window 0 of service 1 has the first place, and window 7 of service 6 the last.
use Rattle.std.specs.Prelude.{◌<◌, ◌+◌, ◌/◌, ◌%◌, ℕ, List, slice_index_or}
use Rattle.cue_types.specs.declared.cue.Cue.{Cue}
use Rattle.cc_verifier.specs.WindowPlaces.{HasPassed, StandsUntil}
use Rattle.cc_verifier.specs.declared.window_cursors.WindowCursors.{WindowCursors}

-- the service and the id of a place
abbrev pub service_at : ℕ → ℕ
service_at place = place / 8 + 1

abbrev pub id_at : ℕ → ℕ
id_at place = place % 8

-- the cue at which a window stands
abbrev pub cursor_place : WindowCursors → ℕ → ℕ
cursor_place cursors k = slice_index_or cursors.places k 0

-- all have passed cues that are over, and no others
abbrev pub HavePassed : List Cue → ℕ → WindowCursors → Type 0
HavePassed cues frame cursors = (k : ℕ) → k < 48 → HasPassed (service_at k) (id_at k) cues frame (cursor_place cursors k)

-- all stand at a frame
abbrev pub AreAt : List Cue → ℕ → WindowCursors → Type 0
AreAt cues frame cursors = (k : ℕ) → k < 48 → StandsUntil (service_at k) (id_at k) cues frame cursors.due (cursor_place cursors k)
