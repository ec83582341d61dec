-- Believed in part: the library's answers stand on some of these definitions.
-- Resumable readers: the parts that a reader hands upward, and its refusal, as functions of the whole list of items that it
-- was fed, whatever the pieces in which they came.
use Rattle.std.specs.Prelude.{◌≡◌, ℕ, ◌-◌, ◌%◌, ◌^◌, List, [], ◌∷◌, ◌++◌, length, Option, Some, None}
use Rattle.cc_base.specs.declared.refusal.Refusal.{Refusal}
use Rattle.cc_base.specs.declared.step.Step.{Step}
use Rattle.cc_base.specs.declared.step.Step.TheVariants.{Nothing, One, Two, Refuse}
use Rattle.cc_base.specs.declared.why.Why.{Why}

-- what a layer answers for a part after these parts: why it refuses it, if it does
abbrev pub Verdict : Type 0 → Type 0
Verdict P = List P → P → Option Why

-- what a reader makes of an item after these items
abbrev pub Judge : Type 0 → Type 0 → Type 0
Judge I P = List I → I → Step P

-- the parts of one item that were handed upward, of which only the last may have been refused, and why the item was refused
pub record Handed (P : Type 0) : Type 0 where
  pub parts : List P
  pub why : Option Why

-- first this part, and then the rest, unless the part is refused
abbrev pub hand_first : {P : Type 0} → Option Why → P → Handed P → Handed P
hand_first None part rest = record { parts = part ∷ rest.parts; why = rest.why }
hand_first (Some why) part rest = record { parts = part ∷ []; why = Some why }

-- what is handed upward at a step, after the parts above
abbrev pub hand : {P : Type 0} → Verdict P → List P → Step P → Handed P
hand verdict above Nothing = record { parts = []; why = None }
hand verdict above (One part) = hand_first (verdict above part) part (record { parts = []; why = None })
hand verdict above (Two first second) =
    hand_first (verdict above first) first
    (hand_first (verdict (above ++ first ∷ []) second) second (record { parts = []; why = None }))
hand verdict above (Refuse why) = record { parts = []; why = Some why }

-- the refusal of an item at this place
abbrev pub refused_at : ℕ → Option Why → Option Refusal
refused_at place None = None
refused_at place (Some why) = Some (record { place = place; why = why })

-- the reason of a refusal
abbrev pub why_of : Option Refusal → Option Why
why_of None = None
why_of (Some refusal) = Some refusal.why

-- the parts that a reader handed upward, and its refusal, if it refused
pub record Reading (P : Type 0) : Type 0 where
  pub parts : List P
  pub refusal : Option Refusal

-- first these parts, and then what is read of the rest, unless there was a refusal
abbrev pub read_first : {P : Type 0} → Option Refusal → List P → Reading P → Reading P
read_first None parts rest = record { parts = parts ++ rest.parts; refusal = rest.refusal }
read_first (Some refusal) parts rest = record { parts = parts; refusal = Some refusal }

-- what is read of items: each is judged after the items before it, and its parts are handed upward after the parts above,
-- up to the first refusal
abbrev pub reading : {I P : Type 0} → Judge I P → Verdict P → (List I → ℕ) → List I → List P → List I → Reading P
reading judge verdict place before above [] = record { parts = []; refusal = None }
reading judge verdict place before above (item ∷ items) =
    let handed = hand verdict above (judge before item) in
    read_first (refused_at (place before) handed.why) handed.parts
    (reading judge verdict place (before ++ item ∷ []) (above ++ handed.parts) items)

-- the items have a first refused one: those before it were read without a refusal, the refusal has the item's place,
-- and its reason is why the item was refused after them
pub record HasRefused {I P : Type 0} (judge : Judge I P) (verdict : Verdict P) (place : List I → ℕ)
    (before : List I) (above : List P) (items : List I) (refusal : Refusal) : Type 0 where
  pub taken : List I
  pub item : I
  pub rest : List I
  pub spelled : items ≡ taken ++ item ∷ rest
  pub unrefused : (reading judge verdict place before above taken).refusal ≡ None
  pub place_is : refusal.place ≡ place (before ++ taken)
  pub why_is : (hand verdict (above ++ (reading judge verdict place before above taken).parts) (judge (before ++ taken) item)).why ≡ Some refusal.why

-- the place of the next item after these, where `unit` items have one place: the number of the first of them, counted from
-- 0 modulo 2^64
abbrev pub place_by : {I : Type 0} → ℕ → List I → ℕ
place_by unit before = let count = length before % 2 ^ 64 in count - count % unit

-- a reader that was fed items after those before, and the layer above it: the layer took the parts read, the reader is led
-- to by all its items where it refused none, and it keeps its refusal
pub record Reached {I P R U : Type 0} (judge : Judge I P) (verdict : Verdict P) (place : List I → ℕ)
    (Leads : List I → R → Type 0) (refusal : R → Option Refusal) (Took : List P → U → Type 0)
    (before : List I) (above : List P) (items : List I) (reader : R) (up : U) : Type 0 where
  pub took : Took (above ++ (reading judge verdict place before above items).parts) up
  pub leads : (reading judge verdict place before above items).refusal ≡ None → Leads (before ++ items) reader
  pub kept : (refused : Refusal) → (reading judge verdict place before above items).refusal ≡ Some refused → refusal reader ≡ Some refused
