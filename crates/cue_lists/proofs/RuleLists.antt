-- A list's judgement: each cue is judged against those before it, and the first fault is the list's.
use Rattle.std.proofs.Common.{◌≡◌, ℕ, ◌+◌, ◌<◌, List, [], ◌∷◌, ◌++◌, length, take, drop, drop-cons, reverse, get_or, Option, Some, None, Result, Ok, Err, suc, append_assoc, refl, sym, ap, subst, ◌∙◌, arith}
use Rattle.std.specs.Prelude.{All, IsOk, IsErrOf, MatchResult}
use Rattle.std.proofs.lemmas.List.{reverse-append, reverse-reverse, take-append-drop}
use Rattle.std.proofs.lemmas.List.Elements.{All-take}
use Rattle.cue_types.specs.Cues.{IsCueFormed, IsOfKind}
use Rattle.cue_types.specs.Line21Cues.{IsLine21Run}
use Rattle.cue_types.specs.Listing.{Listing, IsFormed}
use Rattle.cue_lists.specs.Rules.{IsRuled, HasFault}
use Rattle.cue_lists.specs.Rules.Tests.{fault_of, AreFaultless}
use Rattle.cue_types.specs.Cells.{IsOnGrid}
use Rattle.cue_types.specs.Windows.{IsWindow, IsWindowRun}
use Rattle.cue_types.specs.declared.cue.Cue.{Cue}
use Rattle.cue_types.specs.declared.cue.Kind.{Kind}
use Rattle.cue_types.specs.declared.cue.Kind.TheVariants as kind
use Rattle.cue_lists.specs.declared.rules.RuleFault.{RuleFault}
use Rattle.cue_lists.proofs.RuleNearest.{before_more}
use Rattle.cue_lists.proofs.RulesSaid.{IsFaulty, faulty_has, has_faulty, ruled_faultless}

-- a cue's runs lie on the grid
pub on_grid : (cue : Cue) → IsCueFormed cue → All IsOnGrid cue.runs
on_grid cue formed = by_kind cue.kind formed.kind
  where
    line21 : All IsLine21Run cue.runs → All IsOnGrid cue.runs
    line21 runs k d within =
        let run : IsLine21Run (get_or cue.runs k d) = runs k d within in
        record { row = omega (arith, run.row); columns = omega (arith, run.fits) }

    by_kind : (k : Kind) → IsOfKind k cue.hide cue.runs → All IsOnGrid cue.runs
    by_kind (kind.Pop channel) is = line21 is.2
    by_kind (kind.Paint channel) is = line21 is.2
    by_kind (kind.Roll channel rows) is = line21 is.2
    by_kind (kind.Win w) is = λ k d within.
        let run : IsWindowRun w (get_or cue.runs k d) = is.2 k d within in
        let window : IsWindow w = is.0 in
        record { row = omega (arith, run.row, window.rows); columns = omega (arith, run.fits, window.cols) }

-- the cue at hand is in its ranges, and so are those before it
pub cue_formed : (list : Listing) (cues : List Cue) (i : ℕ) (x : Cue) → IsFormed list → cues ≡ list.cues
    → i < length cues → x ≡ get_or cues i x → IsCueFormed x
cue_formed list cues i x formed are within is =
    let within' : i < length list.cues = rw (← are) within in
    let here : IsCueFormed (get_or list.cues i x) = formed.cues i x within' in
    subst IsCueFormed (sym (is ∙ ap (λ (c : List Cue). get_or c i x) are)) here

pub cues_formed : (list : Listing) (cues : List Cue) (i : ℕ) → IsFormed list → cues ≡ list.cues → All IsCueFormed (take i cues)
cues_formed list cues i formed are = All-take IsCueFormed i cues (rw are formed.cues)

-- one more cue keeps the rules
pub faultless_more : (list : Listing) (cues : List Cue) (i : ℕ) (x : Cue) → i < length cues → x ≡ get_or cues i x
    → fault_of list (reverse (take i cues)) x ≡ None → AreFaultless list (reverse (take i cues))
    → AreFaultless list (reverse (take (i + 1) cues))
faultless_more list cues i x within is none kept =
    rw (before_more cues i x within, ← is) (none, kept)

-- the cue at hand has the list's fault
pub fault_here : (list : Listing) (cues : List Cue) (i : ℕ) (x : Cue) (fault : RuleFault) → cues ≡ list.cues
    → i < length cues → x ≡ get_or cues i x → fault_of list (reverse (take i cues)) x ≡ Some fault
    → AreFaultless list (reverse (take i cues)) → HasFault list fault
fault_here list cues i x fault are within is broken kept =
    faulty_has list fault (record {
      earlier = reverse (take i cues);
      cue = x;
      later = drop (suc i) cues;
      split =
          let rest : drop i cues ≡ x ∷ drop (suc i) cues = drop-cons cues i x within ∙ ap (λ y. y ∷ drop (suc i) cues) (sym is) in
          sym are ∙ sym (take-append-drop i cues) ∙ rw (reverse-reverse, rest) refl;
      kept = kept;
      broken = broken;
    })

-- the fault of the first of the cues, the newest first, that breaks a rule
abbrev first_of : Option RuleFault → Option RuleFault → Option RuleFault
first_of None later = later
first_of (Some fault) later = Some fault

abbrev fault_in : Listing → List Cue → Option RuleFault
fault_in list [] = None
fault_in list (cue ∷ earlier) = first_of (fault_in list earlier) (fault_of list earlier cue)

ruled_none : (list : Listing) (cues : List Cue) → AreFaultless list cues → fault_in list cues ≡ None
ruled_none list [] ruled = refl
ruled_none list (cue ∷ earlier) ruled = rw (ruled_none list earlier ruled.1) ruled.0

stays_first : (list : Listing) (later cues : List Cue) (fault : RuleFault) → fault_in list cues ≡ Some fault
    → fault_in list (later ++ cues) ≡ Some fault
stays_first list [] cues fault first = first
stays_first list (cue ∷ later) cues fault first = rw (stays_first list later cues fault first) refl

-- a list that is split at a cue, the newest first
pub newest_first : (earlier : List Cue) (cue : Cue) (later : List Cue)
    → reverse (reverse earlier ++ cue ∷ later) ≡ reverse later ++ cue ∷ earlier
newest_first earlier cue later =
    reverse-append (reverse earlier) (cue ∷ later)
    ∙ rw (reverse-reverse, reverse-append (cue ∷ []) later, append_assoc) refl

fault_first : (list : Listing) (fault : RuleFault) → IsFaulty list fault → fault_in list (reverse list.cues) ≡ Some fault
fault_first list fault has =
    let newest : reverse list.cues ≡ reverse has.later ++ has.cue ∷ has.earlier =
    ap reverse has.split ∙ newest_first has.earlier has.cue has.later in
    let here : fault_in list (has.cue ∷ has.earlier) ≡ Some fault = rw (ruled_none list has.earlier has.kept) has.broken in
    rw newest (stays_first list (reverse has.later) (has.cue ∷ has.earlier) fault here)

-- a list that keeps the rules has no fault
pub ruled_has_none : (list : Listing) (fault : RuleFault) → IsFormed list → IsRuled list → HasFault list fault → ⊥
ruled_has_none list fault formed ruled has =
    let none : fault_in list (reverse list.cues) ≡ None =
    ruled_none list (reverse list.cues) (ruled_faultless list ruled) in
    let some : fault_in list (reverse list.cues) ≡ Some fault = fault_first list fault (has_faulty list fault has) in
    cc

-- a list has one fault at most
pub one_fault : (list : Listing) (a b : RuleFault) → HasFault list a → HasFault list b → a ≡ b
one_fault list a b has_a has_b =
    let one : fault_in list (reverse list.cues) ≡ Some a = fault_first list a (has_faulty list a has_a) in
    let two : fault_in list (reverse list.cues) ≡ Some b = fault_first list b (has_faulty list b has_b) in
    cc

-- what is answered of a list that keeps the rules
pub ruled_ok : (list : Listing) (r : Result (Unit {0}) RuleFault) → IsFormed list
    → MatchResult r (λ _. IsRuled list) (λ fault. HasFault list fault) → IsRuled list → IsOk r
ruled_ok list (Ok _) formed judged ruled = refl
ruled_ok list (Err e) formed judged ruled = absurd (ruled_has_none list e formed ruled judged)

-- what is answered of a list with a fault
pub fault_err : (list : Listing) (r : Result (Unit {0}) RuleFault) → IsFormed list
    → MatchResult r (λ _. IsRuled list) (λ fault. HasFault list fault) → (fault : RuleFault) → HasFault list fault
    → IsErrOf r fault
fault_err list (Ok _) formed judged fault has = absurd (ruled_has_none list fault formed judged has)
fault_err list (Err e) formed judged fault has = ap Err (one_fault list e fault judged has)
