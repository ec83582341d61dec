-- Believed in part: the program's answer stands on some of these definitions.
-- Slots. A slot is one byte pair of one field. At 29.97 and 30 frames a second each frame has one slot in each field; at 59.94
-- and 60 a frame with an even number has one in field 1 and none in field 2, and a frame with an odd number one in field 2 and
-- none in field 1. The slots of a field are counted from 0, and a cadence says in which frames they lie.
use Rattle.std.specs.Prelude.{ℕ, ◌+◌, ◌*◌, ◌/◌, ◌%◌, ◌==◌, if◌then◌else◌, Bool, true, false, Option, Some, None}
use Rattle.cc_base.specs.declared.rate.Rate.{Rate}
use Rattle.cc_base.specs.declared.rate.Rate.TheVariants as rate
use Rattle.line21_codes.specs.Channels.{field_of_channel}
use Rattle.line21_codes.specs.declared.channels.Chan.{Chan}
use Rattle.line21_codes.specs.declared.channels.FieldNumber.{FieldNumber}
use Rattle.line21_codes.specs.declared.channels.FieldNumber.TheVariants.{One, Two}
use Rattle.line21_slots.specs.declared.cadence.Cadence.{Cadence}
use Rattle.line21_slots.specs.declared.cadence.Cadence.TheVariants.{EveryFrame, EvenFrames, OddFrames}

-- at these rates the fields take turns
abbrev pub is_double : Rate → Bool
is_double rate.F5994 = true
is_double rate.F60 = true
is_double _ = false

-- the frames from one slot of a field to the next
abbrev pub slot_step : Rate → ℕ
slot_step rate = if is_double rate then 2 else 1

-- the cadence of a field where the fields take turns
abbrev pub turn_of : FieldNumber → Cadence
turn_of One = EvenFrames
turn_of Two = OddFrames

-- the cadence of a channel's field
abbrev pub cadence_of : Rate → Chan → Cadence
cadence_of rate channel = if is_double rate then turn_of (field_of_channel channel) else EveryFrame

-- the frame of a slot
abbrev pub slot_frame : Cadence → ℕ → ℕ
slot_frame EveryFrame slot = slot
slot_frame EvenFrames slot = 2 * slot
slot_frame OddFrames slot = 2 * slot + 1

-- the frames from one slot to the next
abbrev pub step_of : Cadence → ℕ
step_of EveryFrame = 1
step_of EvenFrames = 2
step_of OddFrames = 2

-- a frame has a slot
abbrev pub has_slot_in : Cadence → ℕ → Bool
has_slot_in EveryFrame frame = true
has_slot_in EvenFrames frame = frame % 2 == 0
has_slot_in OddFrames frame = frame % 2 == 1

-- the first slot that isn't before a frame, which is the number of the slots that are
abbrev pub slot_from : Cadence → ℕ → ℕ
slot_from EveryFrame frame = frame
slot_from EvenFrames frame = (frame + 1) / 2
slot_from OddFrames frame = frame / 2

-- the slot of a frame, where it has one
abbrev pub slot_in : Cadence → ℕ → Option ℕ
slot_in cadence frame = if has_slot_in cadence frame then Some (slot_from cadence frame) else None
