-- Up to a slot the events of cues are the same if all further cues are shown after the slot.
use Rattle.std.proofs.Common.{◌≡◌, ◌∙◌, ◌↔◌, ℕ, ◌<◌, ◌≤◌, ◌==◌, ◌&&◌, leb, cond, Bool, true, false, List, [], ◌∷◌, ◌++◌, refl, sym, ap, subst, arith}
use Rattle.std.specs.Prelude.{Option, Some, None, IfSome, if◌then◌else◌}
use Rattle.std.specs.List.{AllByRecursion, filter}
use Rattle.std.proofs.lemmas.Bool.{eqb-true}
use Rattle.std.proofs.lemmas.Bool.Decides.{nat_tests}
use Rattle.std.proofs.lemmas.List.Elements.{filter-append}
use Rattle.line21_codes.specs.declared.channels.FieldNumber.{FieldNumber}
use Rattle.line21_codes.specs.declared.codes.Control.{Control}
use Rattle.line21_codes.specs.declared.codes.Control.TheVariants.{Eoc, Edm}
use Rattle.cue_lists.specs.declared.cue.Cue.{Cue}
use Rattle.cue_lists.specs.Rules.Lane.{is_pop}
use Rattle.lanes.specs.CueEvents.{control_event, show_events, is_replaced_at, hide_events, cue_events}
use Rattle.lanes.specs.Event.{Event}
use Rattle.lanes.specs.Unit.{Unit}
use Rattle.lanes.specs.LaneEvents.{IsFree, event_at}

-- the events up to a slot
abbrev pub up_to : ℕ → List Event → List Event
up_to last events = filter (λ (event : Event). leb event.slot last) events

-- the cue is shown and hidden after the slot
pub record IsShownAfter (last : ℕ) (cue : Cue) : Type 0 where
  pub shown : last < cue.show
  pub hidden : IfSome cue.hide (λ hide. last < hide)

module _ (in_field : FieldNumber) (last : ℕ) where
  -- an event after the slot
  control_after : (slot : ℕ) (control : Control) → last < slot → up_to last (control_event in_field slot control ∷ []) ≡ []
  control_after slot control late =
      let test : leb slot last ≡ false = grind (arith, nat_tests) in
      rw test refl

  show_after : (pop_on : Bool) (show : ℕ) → last < show → up_to last (if pop_on then control_event in_field show Eoc ∷ [] else []) ≡ []
  show_after true show late = control_after show Eoc late
  show_after false show late = refl

  hide_after_at : (replaced : Bool) (hide : ℕ) → last < hide → up_to last (if replaced then [] else control_event in_field hide Edm ∷ []) ≡ []
  hide_after_at true hide late = refl
  hide_after_at false hide late = control_after hide Edm late

  hide_after : (hide : Option ℕ) (later : List Cue) → IfSome hide (λ h. last < h) → up_to last (hide_events in_field hide later) ≡ []
  hide_after None later late = refl
  hide_after (Some hide) later late = hide_after_at (is_replaced_at hide later) hide late

  -- three parts
  parts : (a b c : List Event) → up_to last ((a ++ b) ++ c) ≡ (up_to last a ++ up_to last b) ++ up_to last c
  parts a b c =
      filter-append (λ (event : Event). leb event.slot last) (a ++ b) c
      ∙ ap (λ (l : List Event). l ++ up_to last c) (filter-append (λ (event : Event). leb event.slot last) a b)

  -- cues that are shown after the slot have no events up to it
  none_up_to : (cues : List Cue) → AllByRecursion (IsShownAfter last) cues → up_to last (cue_events in_field cues) ≡ []
  none_up_to [] after = refl
  none_up_to (cue ∷ later) after =
      let show = show_after (is_pop cue.kind) cue.show after.0.shown in
      let hide = hide_after cue.hide later after.0.hidden in
      let rest = none_up_to later after.1 in
      parts (show_events in_field cue) (hide_events in_field cue.hide later) (cue_events in_field later)
      ∙ ap (λ (l : List Event). (l ++ up_to last (hide_events in_field cue.hide later)) ++ up_to last (cue_events in_field later)) show
      ∙ ap (λ (l : List Event). l ++ up_to last (cue_events in_field later)) hide
      ∙ rest

  -- what hides a cue up to the slot is the same: one that replaces it is shown there
  replaced_after : (hide : ℕ) (next : Cue) → last < next.show → (b : Bool) → (is_pop next.kind && (next.show == hide)) ≡ b
      → up_to last (if b then [] else control_event in_field hide Edm ∷ []) ≡ up_to last (control_event in_field hide Edm ∷ [])
  replaced_after hide next late false is = refl
  replaced_after hide next late true is =
      let same : next.show ≡ hide = eqb-true next.show hide (second (is_pop next.kind) (next.show == hide) is) in
      sym (control_after hide Edm (subst (λ (n : ℕ). last < n) same late))
    where
      second : (a b : Bool) → (a && b) ≡ true → b ≡ true
      second true b both = both
      second false b both = cc

  hide_same : (hide : Option ℕ) (later more : List Cue) → AllByRecursion (IsShownAfter last) more
      → up_to last (hide_events in_field hide (later ++ more)) ≡ up_to last (hide_events in_field hide later)
  hide_same None later more after = refl
  hide_same (Some hide) (next ∷ later) more after = refl
  hide_same (Some hide) [] [] after = refl
  hide_same (Some hide) [] (next ∷ more) after =
      replaced_after hide next after.0.shown (is_pop next.kind && (next.show == hide)) refl

  -- up to the slot the events are the same with further cues
  pub events_same : (cues more : List Cue) → AllByRecursion (IsShownAfter last) more
      → up_to last (cue_events in_field (cues ++ more)) ≡ up_to last (cue_events in_field cues)
  events_same [] more after = none_up_to more after
  events_same (cue ∷ later) more after =
      let hide = hide_same cue.hide later more after in
      let rest = events_same later more after in
      parts (show_events in_field cue) (hide_events in_field cue.hide (later ++ more)) (cue_events in_field (later ++ more))
      ∙ ap (λ (l : List Event). (up_to last (show_events in_field cue) ++ l) ++ up_to last (cue_events in_field (later ++ more))) hide
      ∙ ap (λ (l : List Event). (up_to last (show_events in_field cue) ++ up_to last (hide_events in_field cue.hide later)) ++ l) rest
      ∙ sym (parts (show_events in_field cue) (hide_events in_field cue.hide later) (cue_events in_field later))

module _ (last n : ℕ) (low : n ≤ last) where
  -- what begins at a slot is one of the events up to a later one
  event_up_to : (events : List Event) → event_at events n ≡ event_at (up_to last events) n
  event_up_to [] = refl
  event_up_to (event ∷ events) = at (leb event.slot last) refl (event_up_to events)
    where
      at : (b : Bool) → leb event.slot last ≡ b → event_at events n ≡ event_at (up_to last events) n
          → event_at (event ∷ events) n ≡ event_at (cond b (event ∷ up_to last events) (up_to last events)) n
      at true is rest = ap (λ (o : Option Unit). if n == event.slot then Some (record { pair = event.pair; doubled = true }) else o) rest
      at false is rest = let test : (n == event.slot) ≡ false = grind (arith, nat_tests) in rw test rest

  -- and a slot is free where these leave it free
  free_up_to : (events : List Event) → IsFree events n ↔ IsFree (up_to last events) n
  free_up_to [] = ((λ free. free), (λ free. free))
  free_up_to (event ∷ events) = at (leb event.slot last) refl (free_up_to events)
    where
      at : (b : Bool) → leb event.slot last ≡ b → IsFree events n ↔ IsFree (up_to last events) n
          → IsFree (event ∷ events) n ↔ IsFree (cond b (event ∷ up_to last events) (up_to last events)) n
      at true is rest = ((λ free. (free.0, free.1, rest.0 free.2)), (λ free. (free.0, free.1, rest.1 free.2)))
      at false is rest =
          let late : last < event.slot = grind (arith, nat_tests) in
          ((λ free. rest.0 free.2), (λ free. ((λ same. absurd (omega arith)), (λ same. absurd (omega arith)), rest.1 free)))

  pub event_same : (one two : List Event) → up_to last one ≡ up_to last two → event_at one n ≡ event_at two n
  event_same one two same =
      event_up_to one ∙ ap (λ (l : List Event). event_at l n) same ∙ sym (event_up_to two)

  pub free_same : (one two : List Event) → up_to last one ≡ up_to last two → IsFree one n → IsFree two n
  free_same one two same free = (free_up_to two).1 (subst (λ (l : List Event). IsFree l n) same ((free_up_to one).0 free))
