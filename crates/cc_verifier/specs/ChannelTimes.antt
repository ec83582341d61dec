-- Believed: the library's answers stand on these definitions.
-- The times of the cues of a channel: each is loaded before it is shown, and not before the one before it is shown.
use Rattle.std.specs.Prelude.{ℕ, ◌<◌, ◌≤◌, List, [], ◌∷◌, ⊤}
use Rattle.cue_types.specs.declared.cue.Cue.{Cue}

-- from a frame on
abbrev pub AreCuesTimed : ℕ → List Cue → Type 0
AreCuesTimed from [] = ⊤
AreCuesTimed from (cue ∷ later) = (from ≤ cue.load) × (cue.load < cue.show) × AreCuesTimed cue.show later
