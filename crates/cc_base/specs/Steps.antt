-- Believed in part: the library's answers stand on some of these definitions.
-- What readers make of items one after another: what is open after them, the parts of a step, and whether a layer takes parts.
use Rattle.std.specs.Prelude.{◌≡◌, List, [], ◌∷◌, ◌++◌, Option, Some, None, ⊤}
use Rattle.cc_base.specs.declared.step.Step.{Step}
use Rattle.cc_base.specs.declared.step.Step.TheVariants.{Nothing, One, Two, Refuse}
use Rattle.cc_base.specs.declared.why.Why.{Why}
use Rattle.cc_base.specs.Feeding.{Verdict}

-- the front to which items lead
abbrev pub front_from : {Front I : Type 0} → (Front → I → Front) → Front → List I → Front
front_from after front [] = front
front_from after front (item ∷ items) = front_from after (after front item) items

-- the step isn't a refusal
abbrev pub IsTaken : {P : Type 0} → Step P → Type 0
IsTaken Nothing = ⊤
IsTaken (One part) = ⊤
IsTaken (Two first second) = ⊤
IsTaken (Refuse why) = ⊥

-- the reason of a step that is a refusal
abbrev pub step_why : {P : Type 0} → Step P → Option Why
step_why Nothing = None
step_why (One part) = None
step_why (Two first second) = None
step_why (Refuse why) = Some why

-- the parts of a step
abbrev pub step_parts : {P : Type 0} → Step P → List P
step_parts Nothing = []
step_parts (One part) = part ∷ []
step_parts (Two first second) = first ∷ second ∷ []
step_parts (Refuse why) = []

-- a layer takes all the parts, after those above
abbrev pub AreAccepted : {P : Type 0} → Verdict P → List P → List P → Type 0
AreAccepted verdict above [] = ⊤
AreAccepted verdict above (part ∷ parts) = (verdict above part ≡ None) × AreAccepted verdict (above ++ part ∷ []) parts
