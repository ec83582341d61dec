-- In a list that keeps the rules, the cues of a window are shown one at a time.
use Rattle.std.proofs.Common.{◌≡◌, ℕ, ◌<◌, ◌≤◌, ◌==◌, ◌&&◌, Bool, true, false, cond, List, [], ◌∷◌, Option, Some, None, suc, refl, sym, subst, ◌∙◌, arith, inl, inr}
use Rattle.std.specs.Prelude.{nat_le, IfSome, IsSome}
use Rattle.std.specs.List.{AllByRecursion}
use Rattle.std.proofs.lemmas.Bool.{eqb-true}
use Rattle.std.proofs.lemmas.Bool.Decides.{leb_tells}
use Rattle.std.proofs.lemmas.List.Elements.{recursion_from_All}
use Rattle.cue_lists.specs.AuthoredServiceGrid.{AreOneAtATime, is_before, shows_in}
use Rattle.cue_types.specs.Channels.{cues_of_service, is_of_service, uses_window}
use Rattle.cue_types.specs.Cues.{IsCueFormed}
use Rattle.cue_types.specs.Listing.{IsFormed, Listing}
use Rattle.cue_types.specs.declared.cue.Cue.{Cue}
use Rattle.cue_types.specs.declared.cue.Kind.{Kind}
use Rattle.cue_types.specs.declared.cue.Kind.TheVariants as kind
use Rattle.cue_lists.specs.Rules.{IsRuled}
use Rattle.cue_lists.specs.Rules.Sentences.{AreInService, IsSoundWindow, KeepsClear}
use Rattle.cue_lists.specs.Rules.WindowBusy.{same_window}
use Rattle.cue_lists.proofs.ServiceCues.{window_of_service}
use Rattle.cue_lists.proofs.RulesSaid.{lanes_ruled}
use Rattle.cue_lists.proofs.ServiceRules.{of_all, window_hides}

-- two tests in one
first_of : (a b : Bool) → (a && b) ≡ true → a ≡ true
first_of true b both = refl
first_of false b both = cc

second_of : (a b : Bool) → (a && b) ≡ true → b ≡ true
second_of true b both = both
second_of false b both = cc

fails : (b : Bool) → (b ≡ true → ⊥) → b ≡ false
fails true not = absurd (not refl)
fails false not = refl

-- a cue that uses a window of a service is of the service
of_window : (service id : ℕ) (k : Kind) → uses_window service id k ≡ true → is_of_service service k ≡ true
of_window service id (kind.Pop channel) uses = cc
of_window service id (kind.Paint channel) uses = cc
of_window service id (kind.Roll channel rows) uses = cc
of_window service id (kind.Win w) uses = first_of (service == w.service) (id == w.id) uses

-- two cues that use one window
both_use : (service id : ℕ) (a b : Kind) → uses_window service id a ≡ true → uses_window service id b ≡ true → same_window a b ≡ true
both_use service id (kind.Pop channel) b is at = cc
both_use service id (kind.Paint channel) b is at = cc
both_use service id (kind.Roll channel rows) b is at = cc
both_use service id (kind.Win a) (kind.Pop channel) is at = cc
both_use service id (kind.Win a) (kind.Paint channel) is at = cc
both_use service id (kind.Win a) (kind.Roll channel rows) is at = cc
both_use service id (kind.Win a) (kind.Win b) is at =
    let of : service ≡ a.service = eqb-true service a.service (first_of (service == a.service) (id == a.id) is) in
    let in_it : id ≡ a.id = eqb-true id a.id (second_of (service == a.service) (id == a.id) is) in
    subst (λ s. ((s == b.service) && (a.id == b.id)) ≡ true) of (subst (λ i. ((service == b.service) && (i == b.id)) ≡ true) in_it at)

-- what it is to be shown
le_holds : (a b : ℕ) → nat_le a b ≡ true → a ≤ b
le_holds a b passes = elim (leb_tells a b) [ inl t ↦ t.1 | inr t ↦ cc ]

below_hide : (frame hide : ℕ) (o : Option ℕ) → o ≡ Some hide → is_before frame o ≡ true → frame < hide
below_hide frame hide None is before = cc
below_hide frame hide (Some h) is before =
    let same : h ≡ hide = cc in
    let under : suc frame ≤ h = le_holds (suc frame) h before in
    omega arith

hide_at : (Q : Type 0) (o : Option ℕ) → IsSome o → ((hide : ℕ) → o ≡ Some hide → Q) → Q
hide_at Q None some each = cc
hide_at Q (Some hide) some each = each hide refl

if_some : (P : ℕ → Type 0) (o : Option ℕ) (hide : ℕ) → IfSome o P → o ≡ Some hide → P hide
if_some P None hide fact is = cc
if_some P (Some h) hide fact is = let same : h ≡ hide = cc in subst P same fact

-- where a cue is shown in its window, none that follows it is
not_both : (list : Listing) (service id frame : ℕ) (cue other : Cue) → IsCueFormed cue → IsSoundWindow list service other
    → KeepsClear list.rate cue other → shows_in service id frame cue ≡ true → shows_in service id frame other ≡ false
not_both list service id frame cue other formed sound clear shows =
    fails (shows_in service id frame other)
    (λ also.
    let uses = first_of (uses_window service id cue.kind) _ shows in
    let uses_too = first_of (uses_window service id other.kind) _ also in
    let here = second_of (uses_window service id cue.kind) _ shows in
    let there = second_of (uses_window service id other.kind) _ also in
    let of : is_of_service service cue.kind ≡ true = of_window service id cue.kind uses in
    let gone = clear.vacated (both_use service id other.kind cue.kind uses_too uses) in
    hide_at ⊥ cue.hide (window_hides cue.kind cue (window_of_service service cue.kind of) formed.kind)
    (λ hide is.
    let before : frame < hide = below_hide frame hide cue.hide is (second_of (nat_le cue.show frame) (is_before frame cue.hide) here) in
    let left : hide ≤ other.load = if_some (λ h. h ≤ other.load) cue.hide hide gone is in
    let shown : other.show ≤ frame = le_holds other.show frame (first_of (nat_le other.show frame) (is_before frame other.hide) there) in
    let loaded : other.load < other.show = sound.loaded in
    omega arith))

-- each cue of a service is sound
all_sound : (list : Listing) (service : ℕ) (cues : List Cue) → AreInService list service cues → AllByRecursion (IsSoundWindow list service) cues
all_sound list service [] are = tt
all_sound list service (cue ∷ cues) are = (are.0, all_sound list service cues are.2)

module _ (list : Listing) (service id frame : ℕ) where
  none_behind : (cue : Cue) (cues : List Cue) → IsCueFormed cue → AllByRecursion (KeepsClear list.rate cue) cues
      → AllByRecursion (IsSoundWindow list service) cues → shows_in service id frame cue ≡ true
      → AllByRecursion (λ (other : Cue). shows_in service id frame other ≡ false) cues
  none_behind cue [] formed clear sound shows = tt
  none_behind cue (other ∷ cues) formed clear sound shows =
      (not_both list service id frame cue other formed sound.0 clear.0 shows, none_behind cue cues formed clear.1 sound.1 shows)

  not_of : (other : Cue) → is_of_service service other.kind ≡ false → shows_in service id frame other ≡ false
  not_of other off =
      fails (shows_in service id frame other)
      (λ shows. let of = of_window service id other.kind (first_of (uses_window service id other.kind) _ shows) in let q = sym off ∙ of in cc)

  one_by_one : (cues : List Cue) → AllByRecursion IsCueFormed cues → AreInService list service (cues_of_service service cues)
      → AreOneAtATime service id frame cues
  one_by_one [] formed are = tt
  one_by_one (cue ∷ cues) formed are = by_test (is_of_service service cue.kind) refl (one_by_one cues formed.1) are
    where
      by_test : (b : Bool) → is_of_service service cue.kind ≡ b
          → (AreInService list service (cues_of_service service cues) → AreOneAtATime service id frame cues)
          → AreInService list service (cond b (cue ∷ cues_of_service service cues) (cues_of_service service cues))
          → AreOneAtATime service id frame (cue ∷ cues)
      by_test true on rest are = (
        λ shows. of_all (λ (other : Cue). shows_in service id frame other ≡ false) service cues not_of
            (none_behind cue (cues_of_service service cues) formed.0 are.1 (all_sound list service (cues_of_service service cues) are.2) shows),
        rest are.2,
      )
      by_test false off rest are = (λ shows. absurd (let no = not_of cue off in let q = sym no ∙ shows in cc), rest are)

-- so in a list that keeps the rules
pub one_at_a_time : (list : Listing) → IsFormed list → IsRuled list → (service id frame : ℕ) → AreOneAtATime service id frame list.cues
one_at_a_time list formed ruled service id frame =
    one_by_one list service id frame list.cues (recursion_from_All IsCueFormed list.cues formed.cues) ((lanes_ruled list ruled).services service)
