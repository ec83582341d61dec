-- Believed in part: the program's answer stands on some of these definitions.
-- Room in a lane: whether the units of its cues have a placement.
use Rattle.std.specs.Prelude.{ℕ, ◌<◌, ◌≤◌, List, [], ◌∷◌, nat_le, ⊤}
use Rattle.std.specs.List.{filter}
use Rattle.lanes.specs.Placing.{IsPlaced}

-- each unit is of a cue with this number or a higher one
abbrev pub AreOfCuesFrom : {U : Type 0} → (U → ℕ) → ℕ → List U → Type 0
AreOfCuesFrom cue_of cue [] = ⊤
AreOfCuesFrom cue_of cue (u ∷ us) = (cue ≤ cue_of u) × AreOfCuesFrom cue_of cue us

-- the units stand in the order of their cues
abbrev pub AreInCueOrder : {U : Type 0} → (U → ℕ) → List U → Type 0
AreInCueOrder cue_of [] = ⊤
AreInCueOrder cue_of (u ∷ us) = AreOfCuesFrom cue_of (cue_of u) us × AreInCueOrder cue_of us

-- the units of the cues up to number `cue`: the lane's units up to that cue's own last one
abbrev pub up_to : {U : Type 0} → (U → ℕ) → ℕ → List U → List U
up_to cue_of cue us = filter (λ u. nat_le (cue_of u) cue) us

-- up to the cue there is room: the units of its lane up to its own last one have a placement
abbrev pub HasRoom : {U : Type 0} → (List (U × ℕ) → U → ℕ → Type 0) → (U → ℕ) → List U → ℕ → Type 0
HasRoom allowed cue_of us cue =
    (fs : List ℕ) × IsPlaced allowed [] (filter (λ u. nat_le (cue_of u) cue) us) fs

-- the cue has no room, and it is the first: up to each earlier cue there is room
pub record IsFirstCrowded {U : Type 0} (allowed : List (U × ℕ) → U → ℕ → Type 0) (cue_of : U → ℕ) (us : List U) (cue : ℕ) : Type 0 where
  pub none : HasRoom allowed cue_of us cue → ⊥
  pub first : (earlier : ℕ) → earlier < cue → HasRoom allowed cue_of us earlier
