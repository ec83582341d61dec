-- Between crates: the program's answer stands on none of these definitions.
-- Placements in slots and in frames. Each slot of a field lies in a frame, a later one in a later frame: the earliest placement
-- in slots is the earliest in the frames of these slots.
use Rattle.std.specs.Prelude.{◌≡◌, ℕ, ◌<◌, List, map}
use Rattle.cue_lists.specs.Cadences.{slot_frame}
use Rattle.cue_lists.specs.Cadence.{Cadence}
use Rattle.lanes.specs.Placing.{IsEarliest}

-- the units with the frames of their slots
abbrev pub all_in_frames : {U : Type 0} → (ℕ → ℕ) → List (U × ℕ) → List (U × ℕ)
all_in_frames {U} frame placed = map (λ (p : U × ℕ). (p.0, frame p.1)) placed

-- what a lane of slots allows in frames: the units before stand in frames of slots, and the frame is a slot's, where the lane
-- allows the unit after them
abbrev pub allowed_in_frames : {U : Type 0} → (ℕ → ℕ) → (List (U × ℕ) → U → ℕ → Type 0) → List (U × ℕ) → U → ℕ → Type 0
allowed_in_frames {U} frame allowed before unit f =
    (slots : List (U × ℕ)) × (slot : ℕ) × (before ≡ all_in_frames frame slots) × (f ≡ frame slot) × allowed slots unit slot

-- a later slot lies in a later frame
abbrev pub IsRising : (ℕ → ℕ) → Type 0
IsRising frame = (j k : ℕ) → j < k → frame j < frame k

-- the earliest placement in slots is the earliest in their frames, with every cadence
abbrev pub EarliestInFrames : {U : Type 0} → (List (U × ℕ) → U → ℕ → Type 0) → Type 0
EarliestInFrames {U} allowed = (cadence : Cadence) (units : List U) (slots : List ℕ) → IsEarliest allowed units slots
    → IsEarliest (allowed_in_frames (slot_frame cadence) allowed) units (map (slot_frame cadence) slots)
