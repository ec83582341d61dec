-- Believed in part: the library's answers stand on some of these definitions.
-- Syntaxes: how items are read one after another, each judged by what is open before it. What is read of a list of items:
-- whether one is refused, the parts that they make, and what is open after them.
use Rattle.std.specs.Prelude.{◌≡◌, ℕ, ◌%◌, ◌^◌, List, [], ◌∷◌, ◌++◌, length, None, ⊤}
use Rattle.cc_base.specs.declared.machine.Fed.{Fed}
use Rattle.cc_base.specs.declared.step.Step.{Step}
use Rattle.cc_base.specs.Feeding.{Judge, Reading, Verdict, place_by, reading}
use Rattle.cc_base.specs.Steps.{IsTaken, front_from, step_parts}

-- what is open before the first item, what is made of the next item by what is open before it, and what is open after it
pub record Syntax (Front I P : Type 0) : Type 0 where
  pub start : Front
  pub judge : Front → I → Step P
  pub after : Front → I → Front

-- after this front none of the items is refused
abbrev pub AllTaken : {Front I P : Type 0} → Syntax Front I P → Front → List I → Type 0
AllTaken syntax front [] = ⊤
AllTaken syntax front (item ∷ items) = IsTaken (syntax.judge front item) × AllTaken syntax (syntax.after front item) items

-- the parts that items make after this front
abbrev pub parts_from : {Front I P : Type 0} → Syntax Front I P → Front → List I → List P
parts_from syntax front [] = []
parts_from syntax front (item ∷ items) = step_parts (syntax.judge front item) ++ parts_from syntax (syntax.after front item) items

-- none of the items is refused
abbrev pub AllRead : {Front I P : Type 0} → Syntax Front I P → List I → Type 0
AllRead syntax items = AllTaken syntax syntax.start items

-- what is open after the items
abbrev pub open_behind : {Front I P : Type 0} → Syntax Front I P → List I → Front
open_behind syntax items = front_from syntax.after syntax.start items

-- the parts that the items make
abbrev pub parts_of : {Front I P : Type 0} → Syntax Front I P → List I → List P
parts_of syntax items = parts_from syntax syntax.start items

-- an item is judged by what is open after the items before it
abbrev pub judge_by : {Front I P : Type 0} → Syntax Front I P → Judge I P
judge_by syntax before item = syntax.judge (open_behind syntax before) item

-- what is read of the items under this layer, where `unit` items have one place: up to the first item that is refused. It is refused
-- for its own reason, or for the reason above for the part which it completes
abbrev pub read_under : {Front I P : Type 0} → Syntax Front I P → ℕ → Verdict P → List I → Reading P
read_under syntax unit verdict items = reading (judge_by syntax) verdict (place_by unit) [] [] items

-- items are read after one front: none is refused, they make these parts, and this is open after them
pub record Reads {Front I P : Type 0} (syntax : Syntax Front I P) (front : Front) (items : List I) (parts : List P) (behind : Front) : Type 0 where
  pub taken : AllTaken syntax front items
  pub made : parts_from syntax front items ≡ parts
  pub leads : front_from syntax.after front items ≡ behind

-- a reader was fed these items and refused none of them: its machine is at what is open after them, they are counted modulo
-- 2^64, and it keeps no refusal
pub record HasTaken {Front I P M : Type 0} (syntax : Syntax Front I P) (Matches : Front → M → Type 0) (items : List I) (reader : Fed M) : Type 0 where
  pub all : AllRead syntax items
  pub matches : Matches (open_behind syntax items) reader.machine
  pub counted : reader.taken ≡ length items % 2 ^ 64
  pub unrefused : reader.refusal ≡ None
