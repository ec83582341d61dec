-- Believed: the program's answer stands on these definitions.
-- A lane beside another one of its field: where its units may stand, and where a cue's first unit comes again, so that what follows
-- reaches its own channel (a pair of text goes to the channel of the last control code: CTA-608-E; 47 CFR 79.101).
use Rattle.std.specs.Prelude.{◌≡◌, ⊤, ℕ, ◌+◌, ◌<◌, ◌≤◌, true, false, List, [], ◌∷◌, Option, Some, None, fold}
use Rattle.dual_fields.specs.Parts.{part_slots}
use Rattle.dual_fields.specs.Slots.{Slots}
use Rattle.dual_fields.specs.declared.part.Part.{Part}

-- the first slot after the units placed so far
abbrev pub end_of_parts : List (Part × ℕ) → ℕ
end_of_parts before = fold (λ (end : ℕ) (placed : Part × ℕ). placed.1 + part_slots placed.0) 0 before

-- two neighbouring free slots after slot m and before slot n
pub record HasTwo (slots : Slots) (m n : ℕ) : Type 0 where
  pub at : ℕ
  pub behind : m < at
  pub before : at + 2 ≤ n
  pub first : slots.free at ≡ true
  pub second : slots.free (at + 1) ≡ true

-- the unit may begin at the slot, where `end` is the first slot after the units before it: where a foreign slot lies between it and
-- the unit of its cue before it, so do two neighbouring free ones, after each such slot
pub record IsAllowedBeside (slots : Slots) (end : ℕ) (part : Part) (slot : ℕ) : Type 0 where
  pub behind : end ≤ slot
  pub loaded : part.chunk.load ≤ slot
  pub ended : slot + part_slots part ≤ part.chunk.until
  pub free : (n : ℕ) → slot ≤ n → n < slot + part_slots part → slots.free n ≡ true
  pub resumed : part.later ≡ true → (m : ℕ) → end ≤ m → m < slot → slots.foreign m ≡ true → HasTwo slots m slot

-- what the lane allows, for the placements of its units
abbrev pub resumed_lane : Slots → List (Part × ℕ) → Part → ℕ → Type 0
resumed_lane slots before part slot = IsAllowedBeside slots (end_of_parts before) part slot

-- the last foreign slot from `end` on and before a slot
pub record IsLastForeign (slots : Slots) (end slot last : ℕ) : Type 0 where
  pub behind : end ≤ last
  pub before : last < slot
  pub foreign : slots.foreign last ≡ true
  pub none_later : (m : ℕ) → last < m → m < slot → slots.foreign m ≡ false

-- the first two neighbouring free slots after a slot, before another
pub record IsFirstTwo (slots : Slots) (last slot at : ℕ) : Type 0 where
  pub behind : last < at
  pub before : at + 2 ≤ slot
  pub first : slots.free at ≡ true
  pub second : slots.free (at + 1) ≡ true
  pub earliest : (other : ℕ) → last < other → other < at → slots.free other ≡ true → slots.free (other + 1) ≡ false

-- between `end` and a unit of a cue's at a slot its first unit comes again at this one
pub record IsResume (slots : Slots) (end slot at : ℕ) : Type 0 where
  pub last : ℕ
  pub last_is : IsLastForeign slots end slot last
  pub at_is : IsFirstTwo slots last slot at

-- whether, and where, the cue's first unit comes again before a unit at a slot: exactly where a foreign slot lies between it and
-- the unit of its cue before it
abbrev pub ResumesAt : Slots → ℕ → Part → ℕ → Option ℕ → Type 0
ResumesAt slots end part slot (Some at) = (part.later ≡ true) × IsResume slots end slot at
ResumesAt slots end part slot None = part.later ≡ true → (m : ℕ) → end ≤ m → m < slot → slots.foreign m ≡ false

-- the units stand in these slots after `end`, and their cues' first units come again in those
abbrev pub Stand : Slots → ℕ → List Part → List ℕ → List (Option ℕ) → Type 0
Stand slots end [] [] [] = ⊤
Stand slots end (part ∷ parts) (f ∷ fs) (r ∷ rs) =
    IsAllowedBeside slots end part f × ResumesAt slots end part f r × Stand slots (f + part_slots part) parts fs rs
Stand slots end _ _ _ = ⊥
