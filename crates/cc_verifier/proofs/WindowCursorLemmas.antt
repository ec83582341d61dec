-- The place of a window among the cursors.
use Rattle.std.proofs.Common.{◌≡◌, ◌∙◌, ℕ, ◌+◌, ◌-◌, ◌*◌, ◌<◌, ◌≤◌, ◌==◌, nat_lt, Bool, true, false, List, [], ◌∷◌, length, get_or, get_or-set_same, get_or-set_other, min, ap, arith, refl, subst, sym, zero, suc, below_more}
use Rattle.std.proofs.Math.ListN.{set}
use Rattle.std.proofs.lemmas.Bool.{ltb-false, ltb-true}
use Rattle.std.proofs.lemmas.Bool.Decides.{nat_tests}
use Rattle.std.proofs.lemmas.Option.{slice_get_past, slice_get_read}
use Rattle.std.specs.List.{list_all}
use Rattle.std.specs.Borrow.{Bor}
use Rattle.std.specs.Prelude.{◌&&◌, All, IfSome, None, Option, Some, is_some, slice_get, slice_index_or}
use Rattle.cue_lists.specs.AuthoredServiceGrid.{authored_windows, cue_window}
use Rattle.cue_types.specs.Cues.{IsCueFormed}
use Rattle.cue_types.specs.declared.cue.Cue.{Cue}
use Rattle.cc_verifier.specs.WindowCursors.{AreAt, HavePassed, cursor_place, id_at, service_at}
use Rattle.cc_verifier.specs.WindowPlaces.{HasPassed, IsQuiet, IsWindowId, SameWindows, StandsAtPlace, StandsUntil}
use Rattle.cc_verifier.specs.WindowTurns.{AreAllInTurn}
use Rattle.cc_verifier.specs.declared.window_cursors.WindowCursors.{WindowCursors}
use Rattle.cc_verifier.proofs.WindowPlaceLemmas.{hidden_there, none_quiet, none_there, shown_there, stays_same}

-- the place of a window
abbrev pub place_at : ℕ → ℕ → ℕ
place_at service id = (service - 1) * 8 + id

pub place_within : (service id : ℕ) → IsWindowId service id → place_at service id < 48
place_within service id is = let a = is.from in let b = is.to in let c = is.id_to in omega arith

pub service_there : (service id : ℕ) → IsWindowId service id → service_at (place_at service id) ≡ service
service_there service id is = let a = is.from in let b = is.to in let c = is.id_to in omega arith

pub id_there : (service id : ℕ) → IsWindowId service id → id_at (place_at service id) ≡ id
id_there service id is = let a = is.from in let b = is.to in let c = is.id_to in omega arith

pub placed_there : (cues : List Cue) (frame : ℕ) (cursors : WindowCursors) (service id : ℕ) → IsWindowId service id → AreAt cues frame cursors
    → StandsUntil service id cues frame cursors.due (cursor_place cursors (place_at service id))
placed_there cues frame cursors service id is at =
    subst (λ s. StandsUntil s id cues frame cursors.due (cursor_place cursors (place_at service id))) (service_there service id is)
    (subst (λ i. StandsUntil (service_at (place_at service id)) i cues frame cursors.due (cursor_place cursors (place_at service id))) (id_there service id is)
    (at (place_at service id) (place_within service id is)))

-- before the next change all windows show the same
pub all_same : (cues : List Cue) (former frame : ℕ) (cursors : WindowCursors) → AreAllInTurn cues → AreAt cues former cursors → former ≤ frame
    → frame < cursors.due → SameWindows cues former frame
all_same cues former frame cursors turn at le before service id is =
    stays_same service id cues former frame cursors.due (cursor_place cursors (place_at service id)) (turn service id) le before
    (placed_there cues former cursors service id is at)

-- no cue was passed yet
first_zero : (place : ℕ) (rest : Bool) → ((place == 0) && rest) ≡ true → place ≡ 0
first_zero place rest zeros = grind (arith, nat_tests)

rest_zero : (first rest : Bool) → (first && rest) ≡ true → rest ≡ true
rest_zero true rest zeros = zeros
rest_zero false rest zeros = cc

zero_at : (places : List ℕ) → list_all (λ n. n == 0) places ≡ true → (k : ℕ) → slice_index_or places k 0 ≡ 0
zero_at [] zeros k = refl
zero_at (place ∷ places) zeros zero = first_zero place _ zeros
zero_at (place ∷ places) zeros (suc k) = zero_at places (rest_zero (place == 0) (list_all (λ n. n == 0) places) zeros) k

pub all_begin : (cues : List Cue) (cursors : WindowCursors) → list_all (λ n. n == 0) cursors.places ≡ true → HavePassed cues 0 cursors
all_begin cues cursors zeros k within =
    subst (HasPassed (service_at k) (id_at k) cues 0) (sym (zero_at cursors.places zeros k))
    (record { within = omega arith; over = λ j below. absurd (omega arith) })

-- the cue of a window
pub shown_cue : (cues : List Cue) (frame : ℕ) (cursors : WindowCursors) (service id : ℕ) (cue : Cue) (place : ℕ) → place ≡ place_at service id
    → IsWindowId service id → AreAllInTurn cues → AreAt cues frame cursors → true ≡ nat_lt (cursor_place cursors place) (length cues)
    → cue ≡ get_or cues (cursor_place cursors place) cue → cue.show ≤ frame → authored_windows service cues frame id ≡ cue_window cue.kind cue.runs
shown_cue cues frame cursors service id cue place there is turn at within read come =
    let there_is : true ≡ nat_lt (cursor_place cursors (place_at service id)) (length cues) = subst (λ p. true ≡ nat_lt (cursor_place cursors p) (length cues)) there within in
    let reads : cue ≡ get_or cues (cursor_place cursors (place_at service id)) cue = subst (λ p. cue ≡ get_or cues (cursor_place cursors p) cue) there read in
    shown_there service id frame cues (cursor_place cursors (place_at service id)) cue (turn service id) (placed_there cues frame cursors service id is at).stands
    (slice_get_read cues (length cues) (cursor_place cursors (place_at service id)) cue refl (ltb-true _ (length cues) (sym there_is)) reads) come

pub hidden_cue : (cues : List Cue) (frame : ℕ) (cursors : WindowCursors) (service id : ℕ) (cue : Cue) (place : ℕ) → place ≡ place_at service id
    → IsWindowId service id → AreAllInTurn cues → AreAt cues frame cursors → true ≡ nat_lt (cursor_place cursors place) (length cues)
    → cue ≡ get_or cues (cursor_place cursors place) cue → frame < cue.show → authored_windows service cues frame id ≡ None
hidden_cue cues frame cursors service id cue place there is turn at within read before =
    let there_is : true ≡ nat_lt (cursor_place cursors (place_at service id)) (length cues) = subst (λ p. true ≡ nat_lt (cursor_place cursors p) (length cues)) there within in
    let reads : cue ≡ get_or cues (cursor_place cursors (place_at service id)) cue = subst (λ p. cue ≡ get_or cues (cursor_place cursors p) cue) there read in
    hidden_there service id frame cues (cursor_place cursors (place_at service id)) cue (turn service id) (placed_there cues frame cursors service id is at).stands
    (slice_get_read cues (length cues) (cursor_place cursors (place_at service id)) cue refl (ltb-true _ (length cues) (sym there_is)) reads) before

pub no_cue : (cues : List Cue) (frame : ℕ) (cursors : WindowCursors) (service id : ℕ) (place : ℕ) → place ≡ place_at service id
    → IsWindowId service id → AreAllInTurn cues → AreAt cues frame cursors → false ≡ nat_lt (cursor_place cursors place) (length cues)
    → authored_windows service cues frame id ≡ None
no_cue cues frame cursors service id place there is turn at past =
    let there_is : false ≡ nat_lt (cursor_place cursors (place_at service id)) (length cues) = subst (λ p. false ≡ nat_lt (cursor_place cursors p) (length cues)) there past in
    none_there service id frame cues (cursor_place cursors (place_at service id)) (turn service id) (placed_there cues frame cursors service id is at).stands
    (slice_get_past cues (cursor_place cursors (place_at service id)) (ltb-false _ (length cues) (sym there_is)))

-- one more window stands at the frame
pub record Moved (cues : List Cue) (frame place : ℕ) (cursors : WindowCursors) : Type 0 where
  pub placed : (k : ℕ) → k < place → StandsUntil (service_at k) (id_at k) cues frame cursors.due (cursor_place cursors k)
  pub passed : (k : ℕ) → place ≤ k → k < 48 → HasPassed (service_at k) (id_at k) cues frame (cursor_place cursors k)

pub moved_more : (cues : List Cue) (frame place next change : ℕ) (old new : WindowCursors) → place < length old.places
    → new.places ≡ set old.places place next → new.due ≡ min old.due change
    → StandsAtPlace (service_at place) (id_at place) cues frame next → IfSome (slice_get cues next) (IsQuiet frame change)
    → Moved cues frame place old → Moved cues frame (place + 1) new
moved_more cues frame place next change old new within are due stands quiet moved = record { placed = placed; passed = passed }
  where
    there : cursor_place new place ≡ next
    there = ap (λ (l : List ℕ). slice_index_or l place 0) are ∙ get_or-set_same old.places place next 0 within

    elsewhere : (k : ℕ) → (k ≡ place → ⊥) → cursor_place new k ≡ cursor_place old k
    elsewhere k other = ap (λ (l : List ℕ). slice_index_or l k 0) are ∙ get_or-set_other old.places place k next 0 other

    less : new.due ≤ old.due
    less = omega arith

    less_change : new.due ≤ change
    less_change = omega arith

    here : StandsUntil (service_at place) (id_at place) cues frame new.due (cursor_place new place)
    here = subst (StandsUntil (service_at place) (id_at place) cues frame new.due) (sym there)
        (record { stands = stands; quiet = none_quiet frame change new.due (slice_get cues next) less_change quiet })

    before : (k : ℕ) → k < place → StandsUntil (service_at k) (id_at k) cues frame new.due (cursor_place new k)
    before k below =
        let was = moved.placed k below in
        subst (StandsUntil (service_at k) (id_at k) cues frame new.due) (sym (elsewhere k (λ same. omega arith)))
        (record { stands = was.stands; quiet = none_quiet frame old.due new.due (slice_get cues (cursor_place old k)) less was.quiet })

    placed : (k : ℕ) → k < place + 1 → StandsUntil (service_at k) (id_at k) cues frame new.due (cursor_place new k)
    placed = below_more (λ k. StandsUntil (service_at k) (id_at k) cues frame new.due (cursor_place new k)) place before here

    passed : (k : ℕ) → place + 1 ≤ k → k < 48 → HasPassed (service_at k) (id_at k) cues frame (cursor_place new k)
    passed k from to = subst (HasPassed (service_at k) (id_at k) cues frame) (sym (elsewhere k (λ same. omega arith))) (moved.passed k (omega arith) to)

-- what is known of the cue that was read
pub quiet_got : (cues : List Cue) (place frame until : ℕ) (got : Option (Bor Cue))
    → (is_some got ≡ nat_lt place (length cues)) × IfSome got (λ cue. cue.now ≡ get_or cues place cue.now)
    → IfSome got (λ cue. IsQuiet frame until cue.now) → IfSome (slice_get cues place) (IsQuiet frame until)
quiet_got cues place frame until None looked quiet =
    subst (λ o. IfSome o (IsQuiet frame until)) (sym (slice_get_past cues place (ltb-false place (length cues) (sym looked.0)))) tt
quiet_got cues place frame until (Some cue) looked quiet =
    subst (λ o. IfSome o (IsQuiet frame until)) (sym (slice_get_read cues (length cues) place cue.now refl (ltb-true place (length cues) (sym looked.0)) looked.1)) quiet

-- a cue of cues that are formed is so
pub formed_cue : (cues : List Cue) (place : ℕ) (cue : Cue) → All IsCueFormed cues → true ≡ nat_lt place (length cues) → cue ≡ get_or cues place cue
    → IsCueFormed cue
formed_cue cues place cue formed within read =
    subst IsCueFormed (sym read) (formed place cue (ltb-true place (length cues) (sym within)))
