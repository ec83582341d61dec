-- Believed in part: the program's answer stands on some of these definitions.
-- What the slots of a field are for a lane: free ones, in which its units may stand, and foreign ones, which belong to the other lane.
use Rattle.std.specs.Prelude.{◌≡◌, ℕ, Bool, true, false, List, Option, Some, None, slice_get}
use Rattle.dual_fields.specs.declared.slot_use.SlotUse.{SlotUse}
use Rattle.dual_fields.specs.declared.slot_use.SlotUse.TheVariants.{Free, Own, Foreign}

pub record Slots : Type 0 where
  pub free : ℕ → Bool
  pub foreign : ℕ → Bool

-- no foreign slot is free
abbrev pub AreSound : Slots → Type 0
AreSound slots = (n : ℕ) → slots.foreign n ≡ true → slots.free n ≡ false

abbrev pub is_free : Option SlotUse → Bool
is_free (Some Free) = true
is_free (Some Own) = false
is_free (Some Foreign) = false
is_free None = false

abbrev pub is_foreign : Option SlotUse → Bool
is_foreign (Some Foreign) = true
is_foreign (Some Free) = false
is_foreign (Some Own) = false
is_foreign None = false

-- the slots that a table lists; after it none is free
abbrev pub slots_in : List SlotUse → Slots
slots_in uses = record { free = λ n. is_free (slice_get uses n); foreign = λ n. is_foreign (slice_get uses n) }
