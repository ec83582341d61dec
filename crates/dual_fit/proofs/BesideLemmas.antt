-- Cues that are fitted beside a first list, one more after those so far.
use Rattle.std.proofs.Common.{◌≡◌, ◌∙◌, ℕ, suc, ◌+◌, ◌<◌, ◌≤◌, Bool, List, [], ◌∷◌, ◌++◌, length, take, drop, drop-cons, get_or, reverse, inr, refl, sym, ap, subst}
use Rattle.std.proofs.lemmas.List.{append-nil, append_assoc, reverse-reverse, take-append-drop, take_all, take_more}
use Rattle.cue_lists.proofs.LaneCues.{reverse-cons}
use Rattle.cue_lists.specs.Listing.{Listing}
use Rattle.cue_lists.specs.Printing.{in_order}
use Rattle.cue_lists.specs.Rules.Former.{former_cue}
use Rattle.cue_lists.specs.declared.cue.Cue.{Cue}
use Rattle.cue_fit.specs.Fitted.{list_of}
use Rattle.cue_fit.specs.Shown.{takes_place}
use Rattle.dual_fit.specs.FittedBeside.{AreFittedBeside, AreTimes, HasNoTimes, IsFittedBeside, LacksTimes, StandTogether}
use Rattle.dual_fit.specs.Timed.{with_timed}
use Rattle.dual_fit.specs.declared.times.Times.{Times}

-- whether a cue asks to take the place of the former one of these
abbrev pub takes_of : Cue → List Cue → Bool
takes_of cue asked = takes_place cue (former_cue cue asked)

module _ (late : ℕ) (one two : Listing) where
  -- one more cue
  fitted_more : (asked earlier cues : List Cue) (cue : Cue) (fitted : List Cue) (times : Times)
      → AreFittedBeside late one two asked earlier cues fitted → AreTimes late one two (takes_of cue (reverse cues ++ asked)) fitted cue times
      → AreFittedBeside late one two asked earlier (cues ++ cue ∷ []) (with_timed (takes_of cue (reverse cues ++ asked)) times cue fitted)
  fitted_more asked earlier [] cue fitted times are is = (
    times,
    subst (λ (e : List Cue). AreTimes late one two (takes_of cue asked) e cue times) are is,
    ap (λ (e : List Cue). with_timed (takes_of cue asked) times cue e) are,
  )
  fitted_more asked earlier (c ∷ cs) cue fitted times are is =
      let turned : reverse (c ∷ cs) ++ asked ≡ reverse cs ++ c ∷ asked = ap (λ (l : List Cue). l ++ asked) (reverse-cons c cs) ∙ append_assoc (reverse cs) (c ∷ []) asked in
      let more = fitted_more (c ∷ asked) (with_timed (takes_of c asked) are.0 c earlier) cs cue fitted times are.2
      (subst (λ (l : List Cue). AreTimes late one two (takes_of cue l) fitted cue times) turned is) in (
        are.0,
        are.1,
        subst (λ (l : List Cue). AreFittedBeside late one two (c ∷ asked) (with_timed (takes_of c asked) are.0 c earlier) (cs ++ cue ∷ [])
            (with_timed (takes_of cue l) times cue fitted)) (sym turned) more,
      )

  pub fitted_next : (before : List Cue) (cue : Cue) (fitted : List Cue) (times : Times)
      → AreFittedBeside late one two [] [] before fitted → AreTimes late one two (takes_of cue (reverse before)) fitted cue times
      → AreFittedBeside late one two [] [] (before ++ cue ∷ []) (with_timed (takes_of cue (reverse before)) times cue fitted)
  fitted_next before cue fitted times are timed =
      let same : takes_of cue (reverse before ++ []) ≡ takes_of cue (reverse before) = ap (λ (l : List Cue). takes_of cue l) (append-nil (reverse before)) in
      subst (λ (b : Bool). AreFittedBeside late one two [] [] (before ++ cue ∷ []) (with_timed b times cue fitted)) same
      (fitted_more [] [] before cue fitted times are (subst (λ (b : Bool). AreTimes late one two b fitted cue times) (sym same) timed))

  -- the cues so far, one more of which was read
  pub read_more : (cues : List Cue) (i : ℕ) (x : Cue) (earlier : List Cue) (takes : Bool) (times : Times) → i < length cues → x ≡ get_or cues i x
      → takes ≡ takes_of x (reverse (take i cues))
      → AreFittedBeside late one two [] [] (take i cues) earlier → AreTimes late one two takes earlier x times
      → AreFittedBeside late one two [] [] (take (i + 1) cues) (with_timed takes times x earlier)
  read_more cues i x earlier takes times within is told are timed =
      let more : take (i + 1) cues ≡ take i cues ++ x ∷ [] = take_more cues i x within ∙ ap (λ (y : Cue). take i cues ++ y ∷ []) (sym is) in
      subst (λ (b : Bool). AreFittedBeside late one two [] [] (take (i + 1) cues) (with_timed b times x earlier)) (sym told)
      (subst (λ (l : List Cue). AreFittedBeside late one two [] [] l (with_timed (takes_of x (reverse (take i cues))) times x earlier)) (sym more)
      (fitted_next (take i cues) x earlier times are (subst (λ (b : Bool). AreTimes late one two b earlier x times) told timed)))

  -- the cue at hand is the first that has no times
  pub lacks_here : (cues : List Cue) (i : ℕ) (x : Cue) (earlier : List Cue) (takes : Bool) → (StandTogether one two → ⊥) → StandTogether one (list_of two [])
      → cues ≡ two.cues → i < length cues → x ≡ get_or cues i x → length (take i cues) ≡ i → takes ≡ takes_of x (reverse (take i cues))
      → AreFittedBeside late one two [] [] (take i cues) earlier → HasNoTimes late one two takes earlier x → LacksTimes late one two (i + 1)
  lacks_here cues i x earlier takes apart alone same within is count told are none = record {
    apart = apart;
    alone = alone;
    before = take i cues;
    cue = x;
    after = drop (suc i) cues;
    lacks = record { fitted = earlier; are = are; none = subst (λ (b : Bool). HasNoTimes late one two b earlier x) told none };
    split =
        let rest : drop i cues ≡ x ∷ drop (suc i) cues = drop-cons cues i x within ∙ ap (λ y. y ∷ drop (suc i) cues) (sym is) in
        sym same ∙ sym (take-append-drop i cues) ∙ rw rest refl;
    number_is = ap (λ (n : ℕ). n + 1) (sym count);
  }

  -- all of them were read
  pub all_fitted : (cues fitted : List Cue) (i : ℕ) (other : Listing) → (StandTogether one two → ⊥) → StandTogether one (list_of two [])
      → cues ≡ two.cues → length cues ≤ i → AreFittedBeside late one two [] [] (take i cues) (reverse fitted)
      → other ≡ record (in_order two) { cues = fitted } → IsFittedBeside late one two other
  all_fitted cues fitted i other apart alone same end are is = inr (record {
    apart = apart;
    alone = alone;
    cues = reverse fitted;
    are = subst (λ (l : List Cue). AreFittedBeside late one two [] [] l (reverse fitted)) (take_all i cues end ∙ same) are;
    is = is ∙ ap (λ (l : List Cue). record (in_order two) { cues = l }) (sym (reverse-reverse fitted));
  })
