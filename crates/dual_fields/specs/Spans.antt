-- Believed in part: the program's answer stands on some of these definitions.
-- The spans of a lane: from the first slot of a cue's first unit to the last slot of its last unit.
use Rattle.std.specs.Prelude.{◌≡◌, ⊤, ℕ, ◌+◌, ◌≤◌, ◌||◌, ◌&&◌, not, nat_le, nat_lt, Bool, false, if◌then◌else◌, List, [], ◌∷◌}
use Rattle.dual_fields.specs.Parts.{BeginWithFirst, part_slots}
use Rattle.dual_fields.specs.declared.part.Part.{Part}

-- the slot after the last unit of a cue, whose units so far end at `end`
abbrev pub span_end : ℕ → List Part → List ℕ → ℕ
span_end end (part ∷ parts) (f ∷ fs) = if part.later then span_end (f + part_slots part) parts fs else end
span_end end _ _ = end

-- the slot is in a span, where the units begin in these slots
abbrev pub in_spans : List Part → List ℕ → ℕ → Bool
in_spans (part ∷ parts) (f ∷ fs) n =
    (not part.later && (nat_le f n && nat_lt n (span_end (f + part_slots part) parts fs))) || in_spans parts fs n
in_spans _ _ n = false

-- the same step by step: from a cue's first unit on, each unit goes on where the one before, which ends at `end`, ended
abbrev pub covers : ℕ → List Part → List ℕ → ℕ → Bool
covers end [] fs n = false
covers end (part ∷ parts) [] n = false
covers end (part ∷ parts) (f ∷ fs) n =
    (nat_le (if part.later then end else f) n && nat_lt n (f + part_slots part)) || covers (f + part_slots part) parts fs n

-- each unit begins after the one before
abbrev pub GoOn : ℕ → List Part → List ℕ → Type 0
GoOn end (part ∷ parts) (f ∷ fs) = (end ≤ f) × GoOn (f + part_slots part) parts fs
GoOn end _ _ = ⊤

-- step by step the same slots are covered
abbrev pub SpansAreCovered : Type 0
SpansAreCovered = (parts : List Part) (fs : List ℕ) → BeginWithFirst parts → GoOn 0 parts fs → (n : ℕ) → covers 0 parts fs n ≡ in_spans parts fs n
