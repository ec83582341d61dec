-- The cues of each window of a list that keeps the rules are shown one after another.
use Rattle.std.proofs.Common.{◌≡◌, ◌∙◌, ℕ, ◌<◌, ◌≤◌, Bool, true, false, cond, List, [], ◌∷◌, arith, refl, sym}
use Rattle.std.proofs.lemmas.Bool.Decides.{nat_tests}
use Rattle.std.proofs.lemmas.List.Elements.{All-head, All-tail}
use Rattle.std.specs.List.{AllByRecursion}
use Rattle.std.specs.Prelude.{All, IfSome, IsSome, None, Option, Some}
use Rattle.cue_lists.specs.Rules.{IsRuled}
use Rattle.cue_lists.proofs.RulesSaid.{lanes_ruled}
use Rattle.cue_lists.specs.Rules.Sentences.{AreInService, KeepsClear}
use Rattle.cue_lists.specs.Rules.WindowBusy.{same_window}
use Rattle.cue_types.specs.Channels.{cues_of_service, is_of_service, uses_window}
use Rattle.cue_types.specs.Cues.{IsCueFormed, IsOfKind}
use Rattle.cue_types.specs.Listing.{IsFormed, Listing}
use Rattle.cue_types.specs.declared.cue.Cue.{Cue}
use Rattle.cue_types.specs.declared.cue.Kind.{Kind}
use Rattle.cue_types.specs.declared.cue.Kind.TheVariants as kind
use Rattle.cue_types.specs.declared.cue.Run.{Run}
use Rattle.cc_verifier.specs.WindowTurns.{AreAllInTurn, AreInTurn, IsLater}

-- a cue of a window is one of its service
of_service : (service id : ℕ) (kind : Kind) → uses_window service id kind ≡ true → is_of_service service kind ≡ true
of_service service id (kind.Pop channel) uses = cc
of_service service id (kind.Paint channel) uses = cc
of_service service id (kind.Roll channel rows) uses = cc
of_service service id (kind.Win window) uses = grind (arith, nat_tests)

-- and two cues of one window are so
of_window : (service id : ℕ) (one other : Kind) → uses_window service id one ≡ true → uses_window service id other ≡ true → same_window one other ≡ true
of_window service id (kind.Pop channel) other uses same = cc
of_window service id (kind.Paint channel) other uses same = cc
of_window service id (kind.Roll channel rows) other uses same = cc
of_window service id (kind.Win one) (kind.Pop channel) uses same = cc
of_window service id (kind.Win one) (kind.Paint channel) uses same = cc
of_window service id (kind.Win one) (kind.Roll channel rows) uses same = cc
of_window service id (kind.Win one) (kind.Win other) uses same = grind (arith, nat_tests)

-- a cue of a window is hidden
is_hidden : (service id : ℕ) (kind : Kind) (hide : Option ℕ) (runs : List Run) → uses_window service id kind ≡ true → IsOfKind kind hide runs → IsSome hide
is_hidden service id (kind.Pop channel) hide runs uses formed = cc
is_hidden service id (kind.Paint channel) hide runs uses formed = cc
is_hidden service id (kind.Roll channel rows) hide runs uses formed = cc
is_hidden service id (kind.Win window) hide runs uses formed = formed.1

before_later : (show load later : ℕ) (hide : Option ℕ) → IsSome hide → IfSome hide (λ h. show < h) → IfSome hide (λ h. h ≤ load) → load < later → show < later
before_later show load later None some hidden vacated loaded = cc
before_later show load later (Some hide) some hidden vacated loaded = omega arith

-- the later cues of a window are shown later
all_later : (list : Listing) (service id : ℕ) (cue : Cue) (later : List Cue) → uses_window service id cue.kind ≡ true → IsCueFormed cue
    → IfSome cue.hide (λ h. cue.show < h) → AllByRecursion (KeepsClear list.rate cue) (cues_of_service service later)
    → AreInService list service (cues_of_service service later) → AllByRecursion (IsLater service id cue) later
all_later list service id cue [] uses formed hidden clear sound = tt
all_later list service id cue (other ∷ later) uses formed hidden clear sound = by_test (is_of_service service other.kind) refl clear sound
    (λ rest_clear rest_sound. all_later list service id cue later uses formed hidden rest_clear rest_sound)
  where
    by_test : (b : Bool) → is_of_service service other.kind ≡ b
        → AllByRecursion (KeepsClear list.rate cue) (cond b (other ∷ cues_of_service service later) (cues_of_service service later))
        → AreInService list service (cond b (other ∷ cues_of_service service later) (cues_of_service service later))
        → (AllByRecursion (KeepsClear list.rate cue) (cues_of_service service later) → AreInService list service (cues_of_service service later)
        → AllByRecursion (IsLater service id cue) later)
        → AllByRecursion (IsLater service id cue) (other ∷ later)
    by_test true of clear sound rest = (
      λ same. before_later cue.show other.load other.show cue.hide (is_hidden service id cue.kind cue.hide cue.runs uses formed.kind) hidden
          (clear.0.vacated (of_window service id other.kind cue.kind same uses)) sound.0.loaded,
      rest clear.1 sound.2,
    )
    by_test false of clear sound rest = (
      λ same. let e : true ≡ false = sym (of_service service id other.kind same) ∙ of in cc,
      rest clear sound,
    )

in_turn : (list : Listing) (service id : ℕ) (cues : List Cue) → All IsCueFormed cues → AreInService list service (cues_of_service service cues)
    → AreInTurn service id cues
in_turn list service id [] formed sound = tt
in_turn list service id (cue ∷ later) formed sound = by_test (is_of_service service cue.kind) refl sound
    (λ rest. in_turn list service id later (All-tail IsCueFormed cue later formed) rest)
  where
    by_test : (b : Bool) → is_of_service service cue.kind ≡ b
        → AreInService list service (cond b (cue ∷ cues_of_service service later) (cues_of_service service later))
        → (AreInService list service (cues_of_service service later) → AreInTurn service id later)
        → AreInTurn service id (cue ∷ later)
    by_test true of sound rest = (
      λ uses. all_later list service id cue later uses (All-head IsCueFormed cue later formed) sound.0.hidden sound.1 sound.2,
      rest sound.2,
    )
    by_test false of sound rest = (
      λ uses. let e : true ≡ false = sym (of_service service id cue.kind uses) ∙ of in cc,
      rest sound,
    )

-- the cues of each window are in turn
pub ruled_in_turn : (list : Listing) → IsFormed list → IsRuled list → AreAllInTurn list.cues
ruled_in_turn list formed ruled service id = in_turn list service id list.cues formed.cues ((lanes_ruled list ruled).services service)
