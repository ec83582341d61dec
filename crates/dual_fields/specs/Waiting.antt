-- Between crates: the program's answer stands on none of these definitions.
-- What a cursor knows after a slot of whether a cue's first unit has to come again.
use Rattle.std.specs.Prelude.{◌≡◌, ℕ, ◌+◌, ◌<◌, ◌≤◌, Bool, true, false, nat_le, nat_lt, not, ◌==◌, ◌||◌, ◌&&◌, if◌then◌else◌, Option, Some, None}
use Rattle.dual_fields.specs.Parts.{part_slots}
use Rattle.dual_fields.specs.ResumedLane.{IsLastForeign}
use Rattle.dual_fields.specs.Slots.{Slots}
use Rattle.dual_fields.specs.declared.part.Part.{Part}
use Rattle.dual_fields.specs.declared.place.Resume.{Resume}
use Rattle.dual_fields.specs.declared.place.Resume.TheVariants.{NotNeeded, Needed, At}

-- from which slot on a unit is looked for: what lies before its LOAD says nothing of a cue's first unit
abbrev pub start_of : ℕ → Part → ℕ
start_of end part = if part.later || nat_le part.chunk.load end then end else part.chunk.load

abbrev pub is_ready : Resume → ℕ → Bool
is_ready NotNeeded slot = true
is_ready Needed slot = false
is_ready (At at) slot = nat_lt at slot && nat_lt (at + 1) slot

abbrev pub resume_at : Resume → Option ℕ
resume_at NotNeeded = None
resume_at Needed = None
resume_at (At at) = Some at

abbrev pub resume_of : Resume → Bool → Option ℕ
resume_of resume later = if later then resume_at resume else None

abbrev pub are_free : Slots → ℕ → ℕ → Bool
are_free slots slot size = slots.free slot && (size == 1 || slots.free (slot + 1))

abbrev pub may_begin : Slots → Resume → ℕ → Part → Bool
may_begin slots resume slot part =
    nat_le part.chunk.load slot && (nat_le (slot + part_slots part) part.chunk.until
    && (are_free slots slot (part_slots part) && (not part.later || is_ready resume slot)))

-- where two free slots begin at a slot, and the first unit has to come again
abbrev pub begun : Resume → ℕ → Bool → Resume
begun NotNeeded slot two = NotNeeded
begun Needed slot two = if two then At slot else Needed
begun (At at) slot two = At at

abbrev pub next_resume : Resume → ℕ → Bool → Bool → Resume
next_resume resume slot foreign two = if foreign then Needed else begun resume slot two

-- between `end` and the slot there is no foreign one
abbrev pub NoForeign : Slots → ℕ → ℕ → Type 0
NoForeign slots end slot = (m : ℕ) → end ≤ m → m < slot → slots.foreign m ≡ false

-- no two neighbouring free slots begin after a slot and before another
abbrev pub NoTwo : Slots → ℕ → ℕ → Type 0
NoTwo slots last slot = (other : ℕ) → last < other → other < slot → slots.free other ≡ true → slots.free (other + 1) ≡ false

-- two begin first at this one
pub record FirstTwo (slots : Slots) (last slot at : ℕ) : Type 0 where
  pub behind : last < at
  pub before : at < slot
  pub first : slots.free at ≡ true
  pub second : slots.free (at + 1) ≡ true
  pub earliest : NoTwo slots last at

pub record WaitsBehind (slots : Slots) (end slot last : ℕ) : Type 0 where
  pub last_is : IsLastForeign slots end slot last
  pub none : NoTwo slots last slot

pub record FoundBehind (slots : Slots) (end slot at last : ℕ) : Type 0 where
  pub last_is : IsLastForeign slots end slot last
  pub at_is : FirstTwo slots last slot at

abbrev pub Describes : Slots → ℕ → ℕ → Resume → Type 0
Describes slots end slot NotNeeded = NoForeign slots end slot
Describes slots end slot Needed = (last : ℕ) × WaitsBehind slots end slot last
Describes slots end slot (At at) = (last : ℕ) × FoundBehind slots end slot at last
