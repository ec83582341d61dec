-- Slots and frames.
use Rattle.std.proofs.Common.{◌≡◌, ◌≢◌, ℕ, suc, ◌+◌, ◌*◌, ◌%◌, ◌<◌, ◌≤◌, ◌↔◌, true, false, refl, sym, subst, arith}
use Rattle.std.proofs.lemmas.Bool.{eqb-true}
use Rattle.std.proofs.lemmas.Bool.Decides.{nat_tests}
use Rattle.cc_base.specs.declared.rate.Rate.{Rate}
use Rattle.cc_base.specs.declared.rate.Rate.TheVariants as rates
use Rattle.line21_codes.specs.declared.channels.FieldNumber.{FieldNumber}
use Rattle.line21_codes.specs.declared.channels.FieldNumber.TheVariants.{One, Two}
use Rattle.line21_codes.specs.Channels.{field_of_channel}
use Rattle.line21_codes.specs.declared.channels.Chan.{Chan}
use Rattle.line21_slots.specs.Cadences.{cadence_of, has_slot_in, slot_frame, slot_from, slot_step, step_of, turn_of}
use Rattle.line21_slots.specs.declared.cadence.Cadence.{Cadence}
use Rattle.line21_slots.specs.declared.cadence.Cadence.TheVariants.{EveryFrame, EvenFrames, OddFrames}

-- a slot is none before a frame where its own frame isn't
pub slot_not_before : (c : Cadence) (f k : ℕ) → f ≤ slot_frame c k → slot_from c f ≤ k
slot_not_before EveryFrame f k below = below
slot_not_before EvenFrames f k below = omega arith
slot_not_before OddFrames f k below = omega arith

pub frame_not_before : (c : Cadence) (f k : ℕ) → slot_from c f ≤ k → f ≤ slot_frame c k
frame_not_before EveryFrame f k below = below
frame_not_before EvenFrames f k below = omega arith
frame_not_before OddFrames f k below = omega arith

pub slot_and_frame : (c : Cadence) (f k : ℕ) → (slot_from c f ≤ k) ↔ (f ≤ slot_frame c k)
slot_and_frame c f k = (frame_not_before c f k, slot_not_before c f k)

-- no slot is before frame 0
pub slot_from_first : (c : Cadence) → slot_from c 0 ≡ 0
slot_from_first EveryFrame = refl
slot_from_first EvenFrames = refl
slot_from_first OddFrames = refl

-- there are no more slots than frames
pub slot_low : (c : Cadence) (f : ℕ) → slot_from c f ≤ f
slot_low EveryFrame f = omega arith
slot_low EvenFrames f = omega arith
slot_low OddFrames f = omega arith

-- the slot of a slot's frame is that slot
pub slot_of_frame : (c : Cadence) (k : ℕ) → slot_from c (slot_frame c k) ≡ k
slot_of_frame EveryFrame k = refl
slot_of_frame EvenFrames k = omega arith
slot_of_frame OddFrames k = omega arith

-- slots are in the order of frames
pub slots_rise : (c : Cadence) (f g : ℕ) → f ≤ g → slot_from c f ≤ slot_from c g
slots_rise EveryFrame f g low = low
slots_rise EvenFrames f g low = omega arith
slots_rise OddFrames f g low = omega arith

-- times that lie two steps apart lie two slots apart
pub slots_apart : (c : Cadence) (f g : ℕ) → f + 2 * step_of c ≤ g → slot_from c f + 2 ≤ slot_from c g
slots_apart EveryFrame f g apart = omega arith
slots_apart EvenFrames f g apart = omega arith
slots_apart OddFrames f g apart = omega arith

-- a frame that has a slot is that slot's
pub own_frame : (c : Cadence) (f : ℕ) → has_slot_in c f ≡ true → slot_frame c (slot_from c f) ≡ f
own_frame EveryFrame f has = refl
own_frame EvenFrames f has = let even : f % 2 ≡ 0 = eqb-true (f % 2) 0 has in omega arith
own_frame OddFrames f has = let odd : f % 2 ≡ 1 = eqb-true (f % 2) 1 has in omega arith

-- and the frame of a slot has one
pub frame_has_slot : (c : Cadence) (k f : ℕ) → slot_frame c k ≡ f → has_slot_in c f ≡ true
frame_has_slot EveryFrame k f is = refl
frame_has_slot EvenFrames k f is = let even : f % 2 ≡ 0 = omega arith in grind (arith, nat_tests)
frame_has_slot OddFrames k f is = let odd : f % 2 ≡ 1 = omega arith in grind (arith, nat_tests)

-- a frame has a slot exactly where it is the frame of some slot
pub has_slot_exactly : (c d : Cadence) (f : ℕ) → c ≡ d → (has_slot_in d f ≡ true) ↔ ((k : ℕ) × (slot_frame c k ≡ f))
has_slot_exactly c d f is =
    subst (λ (e : Cadence). (has_slot_in d f ≡ true) ↔ ((k : ℕ) × (slot_frame e k ≡ f))) (sym is)
    (λ has. (slot_from d f, own_frame d f has), λ some. frame_has_slot d some.0 f some.1)

-- after a frame with a slot there is one slot more, and after another frame there is none
pub slot_more : (c : Cadence) (f : ℕ) → has_slot_in c f ≡ true → slot_from c (suc f) ≡ suc (slot_from c f)
slot_more EveryFrame f has = refl
slot_more EvenFrames f has = let even : f % 2 ≡ 0 = eqb-true (f % 2) 0 has in omega arith
slot_more OddFrames f has = let odd : f % 2 ≡ 1 = eqb-true (f % 2) 1 has in omega arith

pub slot_no_more : (c : Cadence) (f : ℕ) → has_slot_in c f ≡ false → slot_from c (suc f) ≡ slot_from c f
slot_no_more EveryFrame f none = cc
slot_no_more EvenFrames f none = let other : f % 2 ≢ 0 = grind (arith, nat_tests) in omega arith
slot_no_more OddFrames f none = let other : f % 2 ≢ 1 = grind (arith, nat_tests) in omega arith

-- the slot of a frame that has one is before the slots of later frames
pub slot_before : (c : Cadence) (f g : ℕ) → has_slot_in c f ≡ true → f < g → slot_from c f < slot_from c g
slot_before c f g has less =
    let more : slot_from c (suc f) ≡ suc (slot_from c f) = slot_more c f has in
    let low : slot_from c (suc f) ≤ slot_from c g = slots_rise c (suc f) g (omega arith) in
    omega arith

-- a pair that is sent at a slot and again at the next has ended where a step and a frame more have
pub slots_ended : (c : Cadence) (f frames : ℕ) → has_slot_in c f ≡ true → f + step_of c + 1 ≤ frames → slot_from c f + 2 ≤ slot_from c frames
slots_ended EveryFrame f frames has ended = omega arith
slots_ended EvenFrames f frames has ended = let even : f % 2 ≡ 0 = eqb-true (f % 2) 0 has in omega arith
slots_ended OddFrames f frames has ended = let odd : f % 2 ≡ 1 = eqb-true (f % 2) 1 has in omega arith

-- the step of a channel's field is the rate's step
double_step : (in_field : FieldNumber) → 2 ≡ step_of (turn_of in_field)
double_step Two = refl
double_step One = refl

pub slot_step_is : (r : Rate) (channel : Chan) → slot_step r ≡ step_of (cadence_of r channel)
slot_step_is rates.F23976 channel = refl
slot_step_is rates.F24 channel = refl
slot_step_is rates.F25 channel = refl
slot_step_is rates.F2997 channel = refl
slot_step_is rates.F30 channel = refl
slot_step_is rates.F50 channel = refl
slot_step_is rates.F5994 channel = double_step (field_of_channel channel)
slot_step_is rates.F60 channel = double_step (field_of_channel channel)
