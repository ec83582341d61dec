-- The front of the units placed so far: passing an event, and what is free after the last one passed.
use Rattle.std.proofs.Common.{◌≡◌, ◌≢◌, ℕ, ◌+◌, ◌<◌, ◌≤◌, List, [], ◌∷◌, ◌++◌, refl, sym, ap, ◌∙◌, subst, arith, take, drop, max, ⊎_elim, zero, suc}
use Rattle.std.proofs.lemmas.Bool.{cases_lt}
use Rattle.std.proofs.lemmas.List.{take-append-drop}
use Rattle.line21_author.specs.declared.event.Event.{Event}
use Rattle.lanes.specs.LaneEvents.{IsFree, AreOver}
use Rattle.line21_author.specs.EventOrder.{AreFrom, AreApart}
use Rattle.lanes.specs.LaneFront.{AreFree}
use Rattle.lanes.specs.LaneCursor.{IsNext}
use Rattle.lanes.proofs.NextLemmas.{next_take, next_from_drop}
use Rattle.lanes.proofs.EventLemmas.{from_first, over_later, over_push, free_over, free_from, free_append, held_first}

-- a list around the element that stands next
next_split : {T : Type 0} (xs : List T) (k : ℕ) (x : T) → IsNext xs k x → xs ≡ take k xs ++ x ∷ drop (k + 1) xs
next_split xs k x n = sym (take-append-drop k xs) ∙ ap (λ l. take k xs ++ l) n.splits

-- the slots of the next event aren't free
next_held : (events : List Event) (k : ℕ) (e : Event) (n : ℕ) → IsNext events k e → IsFree events n → (e.slot ≢ n) × (e.slot + 1 ≢ n)
next_held events k e n next free = held_first (take k events) e (drop (k + 1) events) n (subst (λ l. IsFree l n) (next_split events k e next) free)

-- one more event is passed
pub over_next : (events : List Event) (k end : ℕ) (e : Event) → IsNext events k e → AreOver end (take k events)
    → AreOver (max end (e.slot + 2)) (take (k + 1) events)
over_next events k end e next passed =
    subst (λ l. AreOver (max end (e.slot + 2)) l) (sym (next_take events k e next))
    (over_push (max end (e.slot + 2)) (take k events) e (over_later end (max end (e.slot + 2)) (take k events) (omega arith) passed) (omega arith))

-- no frame before the end of an event that begins before the slots' end has them all free
pub first_next : (events : List Event) (slots start end k : ℕ) (e : Event) → 1 ≤ slots → IsNext events k e → e.slot < end + slots
    → ((f : ℕ) → start ≤ f → AreFree events slots f → end ≤ f) → (f : ℕ) → start ≤ f → AreFree events slots f → max end (e.slot + 2) ≤ f
first_next events slots start end k e some next low first f from free =
    let behind : end ≤ f = first f from free in
    ⊎_elim
    (λ (h : f < e.slot + 2). ⊎_elim
    (λ (i : e.slot < f). absurd ((next_held events k e f next (free f (omega arith) (omega arith))).1 (omega arith)))
    (λ (i : f ≤ e.slot). absurd ((next_held events k e e.slot next (free e.slot i (omega arith))).0 refl))
    (cases_lt e.slot f))
    (λ (h : e.slot + 2 ≤ f). omega arith)
    (cases_lt f (e.slot + 2))

-- after the events passed, slots before the next event are free
pub free_behind : (events : List Event) (slots k end : ℕ) → AreApart (drop k events) → AreOver end (take k events)
    → ((e : Event) → IsNext events k e → end + slots ≤ e.slot) → AreFree events slots end
free_behind events slots k end apart passed clear n low high =
    let from : AreFrom (end + slots) (drop k events) = from_first (end + slots) (drop k events) apart (λ e rest is. clear e (next_from_drop events k e rest is)) in
    subst (λ l. IsFree l n) (take-append-drop k events)
    (free_append (take k events) (drop k events) n (free_over end n (take k events) passed low) (free_from (end + slots) n (drop k events) from high))

-- what is left of events that lie apart lies apart
pub apart_drop : (k : ℕ) (events : List Event) → AreApart events → AreApart (drop k events)
apart_drop zero events a = a
apart_drop (suc k) [] a = a
apart_drop (suc k) (e ∷ events) a = apart_drop k events a.1
