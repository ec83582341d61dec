-- Between crates: the program's answer stands on none of these definitions.
-- The lane as it is without a word of the unit before: any foreign slot before a unit that isn't its cue's first has two neighbouring
-- free slots after it.
use Rattle.std.specs.Prelude.{◌≡◌, ℕ, ◌+◌, ◌<◌, ◌≤◌, true, List}
use Rattle.dual_fields.specs.Parts.{part_slots}
use Rattle.dual_fields.specs.ResumedLane.{HasTwo, end_of_parts}
use Rattle.dual_fields.specs.Slots.{Slots}
use Rattle.dual_fields.specs.declared.part.Part.{Part}

pub record IsAllowedAlone (slots : Slots) (end : ℕ) (part : Part) (slot : ℕ) : Type 0 where
  pub behind : end ≤ slot
  pub loaded : part.chunk.load ≤ slot
  pub ended : slot + part_slots part ≤ part.chunk.until
  pub free : (n : ℕ) → slot ≤ n → n < slot + part_slots part → slots.free n ≡ true
  pub resumed : part.later ≡ true → (m : ℕ) → m < slot → slots.foreign m ≡ true → HasTwo slots m slot

abbrev pub lane_alone : Slots → List (Part × ℕ) → Part → ℕ → Type 0
lane_alone slots before part slot = IsAllowedAlone slots (end_of_parts before) part slot
