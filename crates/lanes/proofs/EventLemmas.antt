-- Events of a lane: from a slot on, over by a slot, and the slots that they hold.
use Rattle.std.proofs.Common.{◌≡◌, ◌≢◌, ℕ, ◌+◌, ◌<◌, ◌≤◌, List, [], ◌∷◌, ◌++◌, None, true, false, cond, refl, arith}
use Rattle.std.proofs.lemmas.Bool.Decides.{nat_tests}
use Rattle.line21_author.specs.declared.event.Event.{Event}
use Rattle.lanes.specs.declared.chunk.FieldChunk.{FieldChunk}
use Rattle.lanes.specs.LaneEvents.{IsFree, AreOver, event_at}
use Rattle.line21_author.specs.EventOrder.{AreFrom, AreApart}
use Rattle.lanes.specs.FieldLane.{slots_of}

-- events from a frame on are from an earlier one on
pub from_earlier : (m n : ℕ) (es : List Event) → m ≤ n → AreFrom n es → AreFrom m es
from_earlier m n [] h a = tt
from_earlier m n (e ∷ es) h a = (omega (arith, h, a.0), from_earlier m n es h a.1)

-- events that are over are over later
pub over_later : (m n : ℕ) (es : List Event) → m ≤ n → AreOver m es → AreOver n es
over_later m n [] h a = tt
over_later m n (e ∷ es) h a = (omega (arith, h, a.0), over_later m n es h a.1)

-- one more event that is over
pub over_push : (n : ℕ) (es : List Event) (e : Event) → AreOver n es → e.slot + 2 ≤ n → AreOver n (es ++ e ∷ [])
over_push n [] e a h = (h, tt)
over_push n (d ∷ es) e a h = (a.0, over_push n es e a.1 h)

-- the events are from a frame on where the first one is
pub from_first : (n : ℕ) (es : List Event) → AreApart es → ((e : Event) (rest : List Event) → es ≡ e ∷ rest → n ≤ e.slot) → AreFrom n es
from_first n [] a h = tt
from_first n (e ∷ es) a h =
    let here : n ≤ e.slot = h e es refl in
    (here, from_earlier n (e.slot + 2) es (omega arith) a.0)

-- events that are over hold no slot from there on
pub free_over : (m n : ℕ) (es : List Event) → AreOver m es → m ≤ n → IsFree es n
free_over m n [] a h = tt
free_over m n (e ∷ es) a h = (omega (arith, a.0, h), omega (arith, a.0, h), free_over m n es a.1 h)

-- events from a frame on hold no slot before it
pub free_from : (m n : ℕ) (es : List Event) → AreFrom m es → n < m → IsFree es n
free_from m n [] a h = tt
free_from m n (e ∷ es) a h = (omega (arith, a.0, h), omega (arith, a.0, h), free_from m n es a.1 h)

-- a slot that neither of two lists of events holds
pub free_append : (es ds : List Event) (n : ℕ) → IsFree es n → IsFree ds n → IsFree (es ++ ds) n
free_append [] ds n a b = b
free_append (e ∷ es) ds n a b = (a.0, a.1, free_append es ds n a.2 b)

-- no slot of an event is free
pub held_first : (past : List Event) (e : Event) (es : List Event) (n : ℕ) → IsFree (past ++ e ∷ es) n → (e.slot ≢ n) × (e.slot + 1 ≢ n)
held_first [] e es n a = (a.0, a.1)
held_first (d ∷ past) e es n a = held_first past e es n a.2

-- no event begins before the first one
pub event_none : (m n : ℕ) (es : List Event) → AreFrom m es → n < m → event_at es n ≡ None
event_none m n [] a h = refl
event_none m n (e ∷ es) a h =
    let later : m ≤ e.slot = a.0 in
    let rest : event_at es n ≡ None = event_none m n es a.1 h in
    grind (arith, nat_tests)

-- a unit takes at least one slot
pub some_slot : (f : ℕ) (u : FieldChunk) → f < f + slots_of u
some_slot f u = elim u.unit.doubled as (λ b. f < f + cond b 2 1) [ true ↦ omega arith | false ↦ omega arith ]
