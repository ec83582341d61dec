-- Believed in part: the program's answer stands on some of these definitions.
-- The former cue: the nearest cue before a cue on the same line 21 channel or of the same service. Cues are numbered
-- from 1 in their order, and the cues before a cue are a list with the newest first.
use Rattle.std.specs.Prelude.{ℕ, ◌+◌, Bool, if◌then◌else◌, List, [], ◌∷◌, length, Option, Some, None}
use Rattle.std.specs.List.{find}
use Rattle.cue_types.specs.declared.cue.Cue.{Cue}
use Rattle.cue_types.specs.Lane.{kind_lane, on_lane}

-- the number of the nearest cue before that passes a test
abbrev pub nearest_number : (Cue → Bool) → List Cue → Option ℕ
nearest_number test [] = None
nearest_number test (cue ∷ earlier) = if test cue then Some (length earlier + 1) else nearest_number test earlier

-- the former cue of a cue, which is the first in the list on its lane
abbrev pub former_cue : Cue → List Cue → Option Cue
former_cue cue earlier = find (on_lane (kind_lane cue.kind)) earlier

-- and its number
abbrev pub former_number : Cue → List Cue → Option ℕ
former_number cue earlier = nearest_number (on_lane (kind_lane cue.kind)) earlier
