-- Items one after another: the fronts to which they lead, and the parts that a layer above takes.
use Rattle.std.proofs.Common.{◌≡◌, ℕ, ◌++◌, List, [], ◌∷◌, Option, Some, None, refl, ap, sym, subst, ◌∙◌, append_assoc, append-nil}
use Rattle.cc_base.specs.declared.refusal.Refusal.{Refusal}
use Rattle.cc_base.specs.declared.step.Step.{Step}
use Rattle.cc_base.specs.declared.step.Step.TheVariants.{Nothing, One, Two, Refuse}
use Rattle.cc_base.specs.declared.why.Why.{Why}
use Rattle.cc_base.specs.Feeding.{Verdict, Handed, Reading, hand, hand_first, read_first, refused_at}
use Rattle.cc_base.specs.Steps.{AreAccepted, IsTaken, front_from, step_parts, step_why}

-- the front after more items
pub front_from-append : {Front I : Type 0} (after : Front → I → Front) (front : Front) (items more : List I)
    → front_from after front (items ++ more) ≡ front_from after (front_from after front items) more
front_from-append after front [] more = refl
front_from-append after front (item ∷ items) more = front_from-append after (after front item) items more

-- parts and more parts, all accepted
pub AreAccepted-append : {P : Type 0} (verdict : Verdict P) (above parts more : List P)
    → AreAccepted verdict above parts → AreAccepted verdict (above ++ parts) more → AreAccepted verdict above (parts ++ more)
AreAccepted-append verdict above [] more all next = subst (λ ps. AreAccepted verdict ps more) (append-nil above) next
AreAccepted-append verdict above (part ∷ parts) more (is, all) next = (
  is,
  AreAccepted-append verdict (above ++ part ∷ []) parts more all
      (subst (λ ps. AreAccepted verdict ps more) (sym (append_assoc above (part ∷ []) parts)) next),
)

-- the first of them, and the others
pub AreAccepted-split : {P : Type 0} (verdict : Verdict P) (above parts more : List P)
    → AreAccepted verdict above (parts ++ more) → AreAccepted verdict above parts × AreAccepted verdict (above ++ parts) more
AreAccepted-split verdict above [] more all = (tt, subst (λ ps. AreAccepted verdict ps more) (sym (append-nil above)) all)
AreAccepted-split verdict above (part ∷ parts) more (is, all) =
    let (some, rest) = AreAccepted-split verdict (above ++ part ∷ []) parts more all in
    ((is, some), subst (λ ps. AreAccepted verdict ps more) (append_assoc above (part ∷ []) parts) rest)

-- a first part that isn't refused, before others
hand_first-none : {P : Type 0} (why : Option Why) (part : P) (rest : Handed P) → (hand_first why part rest).why ≡ None
    → (why ≡ None) × (rest.why ≡ None) × ((hand_first why part rest).parts ≡ part ∷ rest.parts)
hand_first-none None part rest none = (refl, none, refl)
hand_first-none (Some why) part rest none = absurd cc

-- a step that is no refusal has no reason, and one without a reason is taken
pub step_why-none : {P : Type 0} (step : Step P) → ((why : Why) → step ≡ Refuse why → ⊥) → step_why step ≡ None
step_why-none Nothing other = refl
step_why-none (One part) other = refl
step_why-none (Two first second) other = refl
step_why-none (Refuse why) other = absurd (other why refl)

-- an item that is refused neither by the reader nor above: its step is no refusal, and its parts are accepted
pub hand-none : {P : Type 0} (verdict : Verdict P) (above : List P) (step : Step P) → (hand verdict above step).why ≡ None
    → IsTaken step × AreAccepted verdict above (step_parts step) × ((hand verdict above step).parts ≡ step_parts step)
hand-none verdict above Nothing none = (tt, tt, refl)
hand-none verdict above (One part) none =
    let (is, _, parts) = hand_first-none (verdict above part) part _ none in
    (tt, (is, tt), parts)
hand-none verdict above (Two first second) none =
    let (one, more, parts) = hand_first-none (verdict above first) first _ none in
    let (two, _, others) = hand_first-none (verdict (above ++ first ∷ []) second) second _ more in
    (tt, (one, (two, tt)), parts ∙ ap (λ ps. first ∷ ps) others)
hand-none verdict above (Refuse why) none = absurd cc

-- and the other way round
pub hand-accepted : {P : Type 0} (verdict : Verdict P) (above : List P) (step : Step P) → IsTaken step → AreAccepted verdict above (step_parts step)
    → hand verdict above step ≡ record { parts = step_parts step; why = None }
hand-accepted verdict above Nothing is all = refl
hand-accepted verdict above (One part) is (one, _) = ap (λ why. hand_first why part (record { parts = []; why = None })) one
hand-accepted verdict above (Two first second) is (one, (two, _)) =
    ap (λ why. hand_first why first (hand_first (verdict (above ++ first ∷ []) second) second (record { parts = []; why = None }))) one
    ∙ ap (λ why. hand_first None first (hand_first why second (record { parts = []; why = None }))) two
hand-accepted verdict above (Refuse why) is all = absurd is

-- a refusal or none
pub refused_at-none : (place : ℕ) (why : Option Why) → refused_at place why ≡ None → why ≡ None
refused_at-none place None none = refl
refused_at-none place (Some why) none = absurd cc

-- what is read where there is no refusal
pub read_first-none : {P : Type 0} (refusal : Option Refusal) (parts : List P) (rest : Reading P) → (read_first refusal parts rest).refusal ≡ None
    → (refusal ≡ None) × (rest.refusal ≡ None)
read_first-none None parts rest none = (refl, none)
read_first-none (Some refusal) parts rest none = absurd cc
