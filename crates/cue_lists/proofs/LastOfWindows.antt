-- In a list that keeps the rules so far, the last cue in a window stands for all cues in it: each of the others was hidden
-- before the next one loaded.
use Rattle.std.proofs.Common.{◌≡◌, ◌≢◌, ℕ, ◌+◌, ◌-◌, ◌<◌, ◌≤◌, ◌==◌, ◌&&◌, ◌||◌, Bool, true, false, if◌then◌else◌, List, [], ◌∷◌, length, reverse, Option, Some, None, zero, suc, refl, sym, ap, ◌∙◌, subst, arith, inl, inr}
use Rattle.std.specs.Prelude.{nat_le, nat_lt, unwrap_or, All, IfSome, IsSome}
use Rattle.std.specs.Option.{option_to_list}
use Rattle.std.specs.List.{AllByRecursion, find}
use Rattle.std.proofs.lemmas.Bool.{eqb-true}
use Rattle.std.proofs.lemmas.Bool.Decides.{eqb_tells}
use Rattle.std.proofs.lemmas.List.{reverse-reverse}
use Rattle.std.proofs.lemmas.List.Elements.{recursion_from_All}
use Rattle.cc_base.specs.Rate.{delay_frames_of}
use Rattle.cc_base.specs.declared.rate.Rate.{Rate}
use Rattle.cue_types.specs.Channels.{cues_of_service, is_of_service, uses_window}
use Rattle.cue_types.specs.Cues.{IsCueFormed, IsOfKind}
use Rattle.cue_types.specs.Windows.{IsWindow}
use Rattle.cue_types.specs.Listing.{Listing}
use Rattle.cue_types.specs.Lane.{is_win}
use Rattle.cue_types.specs.declared.cue.Cue.{Cue}
use Rattle.cue_types.specs.declared.cue.Kind.{Kind}
use Rattle.cue_types.specs.declared.cue.Kind.TheVariants as kind
use Rattle.cue_types.specs.declared.cue.WinCue.{WinCue}
use Rattle.cue_lists.specs.Rules.Tests.{AreFaultless}
use Rattle.cue_types.specs.Hide.{hide_is}
use Rattle.cue_lists.specs.Rules.Alternatives.{first_broken}
use Rattle.cue_lists.specs.Rules.Delay.{delay_of, delay_start, event_frames}
use Rattle.cue_lists.specs.Rules.DelayCovers.{delays_cross, same_service}
use Rattle.cue_lists.specs.Rules.Former.{former_cue, nearest_number}
use Rattle.cue_lists.specs.Rules.Formers.{Remembers, last_below, last_in, later, number_if, numbered_cue}
use Rattle.cue_lists.specs.declared.rules.formers.Formers.{Formers}
use Rattle.cue_lists.specs.Rules.Order.{loads_before_it_loads, order}
use Rattle.cue_lists.specs.Rules.Sentences.{KeepsClear}
use Rattle.cue_lists.specs.Rules.WindowBusy.{keeps_window, same_window}
use Rattle.cue_lists.proofs.ChannelCues.{All-reverse}
use Rattle.cue_lists.proofs.DelayTests.{delays_apart, vacates}
use Rattle.cue_lists.proofs.RuleJudging.{nearest_at, nearest_is_number}
use Rattle.cue_lists.proofs.RuleKept.{AllKept, KeepsRules, all_kept, former_fails, hide_fails, keeps_rules, load_below_show, not_le, not_lt, second_fails, show_below_hide}
use Rattle.cue_lists.proofs.RuleTests.{equal_itself, guarded, hide_test_fails, lt_fails}
use Rattle.cue_lists.proofs.ServiceCues.{former_of_service, window_of_service}
use Rattle.cue_lists.proofs.ServiceRules.{all_fail, faultless_service, loads_up_to, no_number, none_passes, of_all, window_hides}

-- what holds of each of some, and follows for each
each_of : {A : Type 0} (P Q : A → Type 0) (xs : List A) → ((x : A) → P x → Q x) → AllByRecursion P xs → AllByRecursion Q xs
each_of P Q [] follows all = tt
each_of P Q (x ∷ xs) follows all = (follows x all.0, each_of P Q xs follows all.1)

-- one test in place of another
nearest_same : (p q : Cue → Bool) (cues : List Cue) → AllByRecursion (λ (cue : Cue). p cue ≡ q cue) cues → nearest_number p cues ≡ nearest_number q cues
nearest_same p q [] same = refl
nearest_same p q (cue ∷ cues) same = rw (same.0, nearest_same p q cues same.1) refl

-- after each cue that passes the first test and fails the second, the second fails for all that pass the first
abbrev Faded : (Cue → Bool) → (Cue → Bool) → List Cue → Type 0
Faded w k [] = Unit {0}
Faded w k (cue ∷ cues) = (w cue ≡ true → k cue ≡ false → AllByRecursion (λ (e : Cue). w e ≡ true → k e ≡ false) cues) × Faded w k cues

neither_passes : (w k : Cue → Bool) (cues : List Cue) → AllByRecursion (λ (e : Cue). w e ≡ true → k e ≡ false) cues
    → nearest_number (λ c. w c && k c) cues ≡ None
neither_passes w k cues fail =
    none_passes (λ c. w c && k c) cues
    (each_of (λ (e : Cue). w e ≡ true → k e ≡ false) (λ (e : Cue). (w e && k e) ≡ false) cues (λ e fails. guarded (w e) (k e) fails) fail)

-- so the nearest that passes the first stands for all
last_stands : (w k : Cue → Bool) (cues : List Cue) → Faded w k cues
    → number_if k (nearest_number w cues) (find w cues) ≡ nearest_number (λ c. w c && k c) cues
last_stands w k [] faded = refl
last_stands w k (cue ∷ cues) faded = by_test (w cue) refl (last_stands w k cues faded.1)
  where
    by_pass : (d : Bool) → w cue ≡ true → k cue ≡ d
        → (if d then Some (length cues + 1) else None) ≡ (if d then Some (length cues + 1) else nearest_number (λ c. w c && k c) cues)
    by_pass true is at = refl
    by_pass false is at = sym (neither_passes w k cues (faded.0 is at))

    by_test : (b : Bool) → w cue ≡ b
        → number_if k (nearest_number w cues) (find w cues) ≡ nearest_number (λ c. w c && k c) cues
        → number_if k (if b then Some (length cues + 1) else nearest_number w cues) (if b then Some cue else find w cues)
        ≡ (if b && k cue then Some (length cues + 1) else nearest_number (λ c. w c && k c) cues)
    by_test true is rest = by_pass (k cue) is refl
    by_test false is rest = rest

-- the nearest that passes one of two tests is the later of the nearest that pass each
nearest_either : (p q : Cue → Bool) (cues : List Cue)
    → later (nearest_number p cues) (nearest_number q cues) ≡ nearest_number (λ c. p c || q c) cues
nearest_either p q [] = refl
nearest_either p q (cue ∷ cues) = by_tests (p cue) (q cue) (nearest_either p q cues)
  where
    first : (o : Option ℕ) → nearest_number q cues ≡ o → later (Some (length cues + 1)) o ≡ Some (length cues + 1)
    first None is = refl
    first (Some n) is =
        let number = nearest_is_number q cues n is in
        let within : n ≤ length cues = number.within in
        ap Some (omega arith)

    second : (o : Option ℕ) → nearest_number p cues ≡ o → later o (Some (length cues + 1)) ≡ Some (length cues + 1)
    second None is = refl
    second (Some n) is =
        let number = nearest_is_number p cues n is in
        let within : n ≤ length cues = number.within in
        ap Some (omega arith)

    by_tests : (a b : Bool) → later (nearest_number p cues) (nearest_number q cues) ≡ nearest_number (λ c. p c || q c) cues
        → later (if a then Some (length cues + 1) else nearest_number p cues) (if b then Some (length cues + 1) else nearest_number q cues)
        ≡ (if a || b then Some (length cues + 1) else nearest_number (λ c. p c || q c) cues)
    by_tests true true rest = ap Some (omega arith)
    by_tests true false rest = first (nearest_number q cues) refl
    by_tests false true rest = second (nearest_number p cues) refl
    by_tests false false rest = rest

-- a test of some number below passes
abbrev passes_below : ℕ → (ℕ → Cue → Bool) → Cue → Bool
passes_below zero w cue = false
passes_below (suc i) w cue = passes_below i w cue || w i cue

either_first : (a b : Bool) → a ≡ true → (a || b) ≡ true
either_first true b is = refl
either_first false b is = cc

either_second : (a b : Bool) → b ≡ true → (a || b) ≡ true
either_second true b is = refl
either_second false b is = is

one_passes : (n i : ℕ) (w : ℕ → Cue → Bool) (cue : Cue) → i < n → w i cue ≡ true → passes_below n w cue ≡ true
one_passes zero i w cue below passes = absurd (omega arith)
one_passes (suc n) i w cue below passes =
    elim (eqb_tells i n) [
      | inl t ↦ either_second (passes_below n w cue) (w n cue) (subst (λ m. w m cue ≡ true) t.1 passes)
      | inr t ↦ either_first (passes_below n w cue) (w n cue) (one_passes n i w cue (let other : i ≢ n = t.1 in omega arith) passes)
    ]

-- the nearest in the windows below an ID
nearest_below : (k : Cue → Bool) (cues : List Cue) (last : ℕ → Option ℕ) (w : ℕ → Cue → Bool) (n : ℕ)
    → ((i : ℕ) → i < n → last i ≡ nearest_number (w i) cues) → ((i : ℕ) → Faded (w i) k cues)
    → last_below k (reverse cues) last n ≡ nearest_number (λ c. passes_below n w c && k c) cues
nearest_below k cues last w zero are faded = sym (none_passes (λ c. false) cues (each cues))
  where
    each : (cs : List Cue) → AllByRecursion (λ (c : Cue). false ≡ false) cs
    each [] = tt
    each (c ∷ cs) = (refl, each cs)
nearest_below k cues last w (suc n) are faded =
    ap (λ o. later o (number_if k (last n) (numbered_cue (reverse cues) (last n)))) (nearest_below k cues last w n (λ i below. are i (omega arith)) faded)
    ∙ ap (later (nearest_number (λ c. passes_below n w c && k c) cues)) here
    ∙ nearest_either (λ c. passes_below n w c && k c) (λ c. w n c && k c) cues
    ∙ nearest_same (λ c. (passes_below n w c && k c) || (w n c && k c)) (λ c. (passes_below n w c || w n c) && k c) cues (each cues)
  where
    here : number_if k (last n) (numbered_cue (reverse cues) (last n)) ≡ nearest_number (λ c. w n c && k c) cues
    here = rw (are n (omega arith), ← nearest_at (w n) cues) (last_stands (w n) k cues (faded n))

    shared : (a b d : Bool) → ((a && d) || (b && d)) ≡ ((a || b) && d)
    shared true true true = refl
    shared true true false = refl
    shared true false true = refl
    shared true false false = refl
    shared false b d = refl

    each : (cs : List Cue) → AllByRecursion (λ (c : Cue). ((passes_below n w c && k c) || (w n c && k c)) ≡ ((passes_below n w c || w n c) && k c)) cs
    each [] = tt
    each (c ∷ cs) = (shared (passes_below n w c) (w n c) (k c), each cs)

-- window cues: a cue in a window is one, of its service
window_in : (service id : ℕ) (k : Kind) → uses_window service id k ≡ true → is_of_service service k ≡ true
window_in service id (kind.Pop channel) is = cc
window_in service id (kind.Paint channel) is = cc
window_in service id (kind.Roll channel rows) is = cc
window_in service id (kind.Win w) is = first_of (service == w.service) (id == w.id) is
  where
    first_of : (a b : Bool) → (a && b) ≡ true → a ≡ true
    first_of true b is = refl
    first_of false b is = cc

-- two cues in one window
both_in : (service id : ℕ) (a b : Kind) → uses_window service id a ≡ true → uses_window service id b ≡ true → same_window a b ≡ true
both_in service id (kind.Pop channel) b is at = cc
both_in service id (kind.Paint channel) b is at = cc
both_in service id (kind.Roll channel rows) b is at = cc
both_in service id (kind.Win a) (kind.Pop channel) is at = cc
both_in service id (kind.Win a) (kind.Paint channel) is at = cc
both_in service id (kind.Win a) (kind.Roll channel rows) is at = cc
both_in service id (kind.Win a) (kind.Win b) is at =
    let of : service ≡ a.service = eqb-true service a.service (first_of (service == a.service) (id == a.id) is) in
    let in_it : id ≡ a.id = eqb-true id a.id (second_of (service == a.service) (id == a.id) is) in
    subst (λ s. ((s == b.service) && (a.id == b.id)) ≡ true) of (subst (λ i. ((service == b.service) && (i == b.id)) ≡ true) in_it at)
  where
    first_of : (a b : Bool) → (a && b) ≡ true → a ≡ true
    first_of true b is = refl
    first_of false b is = cc

    second_of : (a b : Bool) → (a && b) ≡ true → b ≡ true
    second_of true b is = is
    second_of false b is = cc

hide_at : (Q : Type 0) (o : Option ℕ) → IsSome o → ((hide : ℕ) → o ≡ Some hide → Q) → Q
hide_at Q None some each = cc
hide_at Q (Some hide) some each = each hide refl

if_some : (P : ℕ → Type 0) (o : Option ℕ) (hide : ℕ) → IfSome o P → o ≡ Some hide → P hide
if_some P None hide fact is = cc
if_some P (Some h) hide fact is = let same : h ≡ hide = cc in subst P same fact

-- a cue in a window, after cues that keep the rules, loads when those in its window are hidden
module _ (list : Listing) (service id : ℕ) (cue : Cue) (earlier : List Cue) (formed : IsCueFormed cue) (on : uses_window service id cue.kind ≡ true)
    (keeps : KeepsRules list earlier cue) where
  its_hide : IsSome cue.hide
  its_hide = window_hides cue.kind cue (window_of_service service cue.kind (window_in service id cue.kind on)) formed.kind

  hidden_before : AllByRecursion (λ (e : Cue). uses_window service id e.kind ≡ true → IfSome e.hide (λ hide. hide ≤ cue.load)) earlier
  hidden_before =
      each_of (λ (e : Cue). keeps_window cue e ≡ false) (λ (e : Cue). uses_window service id e.kind ≡ true → IfSome e.hide (λ hide. hide ≤ cue.load)) earlier
      (λ e fails in_it. vacates e cue fails (both_in service id cue.kind e.kind on in_it))
      (all_fail (keeps_window cue) earlier (no_number _ keeps.window_busy.0))

-- where the last cue in a window has left it, all have
windows_faded : (list : Listing) (service id : ℕ) (cue : Cue) (cues : List Cue) → uses_window service id cue.kind ≡ true
    → AllByRecursion IsCueFormed cues → AreFaultless list cues → Faded (λ c. uses_window service id c.kind) (keeps_window cue) cues
windows_faded list service id cue [] on formed kept = tt
windows_faded list service id cue (c ∷ cues) on formed kept = (faded, windows_faded list service id cue cues on formed.1 kept.1)
  where
    faded : uses_window service id c.kind ≡ true → keeps_window cue c ≡ false
        → AllByRecursion (λ (e : Cue). uses_window service id e.kind ≡ true → keeps_window cue e ≡ false) cues
    faded in_it left =
        let keeps = keeps_rules list cues c kept.0 in
        let gone : IfSome c.hide (λ hide. hide ≤ cue.load) = vacates c cue left (both_in service id cue.kind c.kind on in_it) in
        let loads : c.load < c.show = load_below_show list cues c keeps in
        hide_at _ c.hide (its_hide list service id c cues formed.0 in_it keeps)
        (λ h is.
        let shown : c.show < h = show_below_hide list cues c keeps h is in
        let until : h ≤ cue.load = if_some (λ hide. hide ≤ cue.load) c.hide h gone is in
        each_of (λ (e : Cue). uses_window service id e.kind ≡ true → IfSome e.hide (λ hide. hide ≤ c.load))
        (λ (e : Cue). uses_window service id e.kind ≡ true → keeps_window cue e ≡ false) cues
        (λ e before there.
        guarded (same_window cue.kind e.kind) (hide_is e.hide (λ hide. nat_lt cue.load hide))
        (λ same. hide_test_fails e.hide (λ hide. nat_lt cue.load hide) (λ hide. hide ≤ c.load)
        (λ hide below. lt_fails cue.load hide (omega arith)) (before there)))
        (hidden_before list service id c cues formed.0 in_it keeps))

-- two windows of which one is the other's
in_window_is : (w : WinCue) (k : Kind) → same_window (kind.Win w) k ≡ uses_window w.service w.id k
in_window_is w (kind.Pop channel) = refl
in_window_is w (kind.Paint channel) = refl
in_window_is w (kind.Roll channel rows) = refl
in_window_is w (kind.Win v) = refl

-- so the last cue in the window of a cue tells whether it is busy
pub window_tells : (list : Listing) (w : WinCue) (cue : Cue) (cues : List Cue) (last : Option ℕ) → cue.kind ≡ kind.Win w
    → uses_window w.service w.id cue.kind ≡ true
    → AllByRecursion IsCueFormed cues → AreFaultless list cues → last ≡ nearest_number (λ c. uses_window w.service w.id c.kind) cues
    → number_if (keeps_window cue) last (numbered_cue (reverse cues) last) ≡ nearest_number (keeps_window cue) cues
window_tells list w cue cues last is on formed kept remembered =
    rw (remembered, ← nearest_at (λ c. uses_window w.service w.id c.kind) cues)
    (last_stands (λ c. uses_window w.service w.id c.kind) (keeps_window cue) cues (windows_faded list w.service w.id cue cues on formed kept))
    ∙ nearest_same (λ c. uses_window w.service w.id c.kind && keeps_window cue c) (keeps_window cue) cues (each cues)
  where
    absorbed : (a b : Bool) → (a && (a && b)) ≡ (a && b)
    absorbed true b = refl
    absorbed false b = refl

    each : (cs : List Cue) → AllByRecursion (λ (c : Cue). (uses_window w.service w.id c.kind && keeps_window cue c) ≡ keeps_window cue c) cs
    each [] = tt
    each (c ∷ cs) =
        let same : same_window cue.kind c.kind ≡ uses_window w.service w.id c.kind = ap (λ k. same_window k c.kind) is ∙ in_window_is w c.kind in
        (rw same (absorbed (uses_window w.service w.id c.kind) (hide_is c.hide (λ hide. nat_lt cue.load hide))), each cs)

-- a window in its ranges, and what is remembered of it
pub window_formed : (cue : Cue) (w : WinCue) → IsCueFormed cue → cue.kind ≡ kind.Win w → IsWindow w
window_formed cue w formed is = (rw is at formed.kind).0

pub not_window : (k : Kind) → ((w : WinCue) → k ≡ kind.Win w → ⊥) → is_win k ≡ false
not_window (kind.Pop channel) other = refl
not_window (kind.Paint channel) other = refl
not_window (kind.Roll channel rows) other = refl
not_window (kind.Win w) other = absurd (other w refl)

pub its_window : (w : WinCue) (k : Kind) → k ≡ kind.Win w → uses_window w.service w.id k ≡ true
its_window w k is = rw (is, equal_itself w.service, equal_itself w.id) refl

pub last_number : (formers : Formers) (cues : List Cue) (service id n : ℕ) (last : Option ℕ) → Remembers formers cues → service < 8 → id < 8
    → last ≡ last_in formers service id → last ≡ Some n → 1 ≤ n
last_number formers cues service id n last remembers one two is at =
    let number = nearest_is_number (λ c. uses_window service id c.kind) cues n (sym (is ∙ remembers.windows service id one two) ∙ at) in
    number.from_one

pub formed_back : (cues : List Cue) → All IsCueFormed cues → AllByRecursion IsCueFormed (reverse cues)
formed_back cues formed = recursion_from_All IsCueFormed (reverse cues) (All-reverse IsCueFormed cues formed)

-- the number that is found is the number of the nearest cue that is busy
pub busy_number : (list : Listing) (w : WinCue) (cue : Cue) (cues : List Cue) (formers : Formers) (last found : Option ℕ) → IsCueFormed cue
    → cue.kind ≡ kind.Win w → All IsCueFormed cues → Remembers formers (reverse cues) → AreFaultless list (reverse cues)
    → last ≡ last_in formers w.service w.id → found ≡ number_if (keeps_window cue) last (numbered_cue cues last)
    → found ≡ nearest_number (keeps_window cue) (reverse cues)
busy_number list w cue cues formers last found formed is all remembers kept at finds =
    let window : IsWindow w = window_formed cue w formed is in
    let tells = window_tells list w cue (reverse cues) last is (its_window w cue.kind is) (formed_back cues all) kept
    (at ∙ remembers.windows w.service w.id (omega (arith, window.service)) (omega (arith, window.id))) in
    finds ∙ (rw reverse-reverse at tells)

-- whether each of some frames is after a frame, or at most it
unwrap_after : (o : Option ℕ) (frame at : ℕ) → at < frame → IfSome o (λ start. at < start) → at < unwrap_or o frame
unwrap_after None frame at after fact = after
unwrap_after (Some start) frame at after fact = fact

unwrap_until : (o : Option ℕ) (frame at : ℕ) → frame ≤ at → IfSome o (λ start. start ≤ at) → unwrap_or o frame ≤ at
unwrap_until None frame at until fact = until
unwrap_until (Some start) frame at until fact = fact

list_of : (P : ℕ → Type 0) (o : Option ℕ) → IfSome o P → AllByRecursion P (option_to_list o)
list_of P None fact = tt
list_of P (Some frame) fact = (fact, tt)

-- two starts of which one is after a frame, and the other isn't
starts_apart : (a b : Option ℕ) (at : ℕ) → IfSome a (λ start. at < start) → IfSome b (λ start. start ≤ at)
    → IfSome a (λ start. IfSome b (λ other. start ≢ other))
starts_apart None b at after until = tt
starts_apart (Some a) None at after until = tt
starts_apart (Some a) (Some b) at after until = λ same. absurd (omega arith)

-- no frame up to one lies in a delay that starts after it, and no frame after it in a delay that ends up to it
none_inside : (start : Option ℕ) (show at : ℕ) (frames : List ℕ) → IfSome start (λ s. at < s) → AllByRecursion (λ (frame : ℕ). frame ≤ at) frames
    → IfSome start (λ s. AllByRecursion (λ (frame : ℕ). s < frame → show ≤ frame) frames)
none_inside None show at frames after until = tt
none_inside (Some start) show at frames after until =
    each_of (λ (frame : ℕ). frame ≤ at) (λ (frame : ℕ). start < frame → show ≤ frame) frames (λ frame below above. absurd (omega arith)) until

none_within : (start : Option ℕ) (show at : ℕ) (frames : List ℕ) → show ≤ at → AllByRecursion (λ (frame : ℕ). at < frame) frames
    → IfSome start (λ s. AllByRecursion (λ (frame : ℕ). s < frame → show ≤ frame) frames)
none_within None show at frames ended after = tt
none_within (Some start) show at frames ended after =
    each_of (λ (frame : ℕ). at < frame) (λ (frame : ℕ). start < frame → show ≤ frame) frames (λ frame above later. omega arith) after

-- a cue that was hidden up to the LOAD of another, after it in the order of LOADs
pub record IsOver (rate : Rate) (cue e : Cue) : Type 0 where
  pub loaded : e.load ≤ cue.load
  pub shown : e.show ≤ cue.load
  pub hidden : IfSome e.hide (λ hide. hide ≤ cue.load)

-- a cue whose events come after its LOAD
pub record IsOrdered (rate : Rate) (cue : Cue) : Type 0 where
  pub shown : cue.load < cue.show
  pub hidden : IfSome cue.hide (λ hide. cue.load < hide)
  pub starts : IfSome (delay_start rate cue) (λ start. cue.load < start)

start_until : (rate : Rate) (e : Cue) (at : ℕ) → e.show ≤ at → IfSome (delay_start rate e) (λ start. start ≤ at)
start_until rate e at shown = by_test (nat_lt 0 (delay_of e.kind))
  where
    by_test : (b : Bool) → IfSome (if b then Some (e.show - delay_frames_of rate (delay_of e.kind)) else None) (λ start. start ≤ at)
    by_test true = omega arith
    by_test false = tt

-- nothing of it crosses with the other
over_clear : (rate : Rate) (cue e : Cue) → IsOrdered rate cue → IsOver rate cue e → KeepsClear rate e cue
over_clear rate cue e ordered over =
    let until : IfSome (delay_start rate e) (λ start. start ≤ cue.load) = start_until rate e cue.load over.shown in
    record {
      loaded = over.loaded;
      vacated = λ same. over.hidden;
      starts = starts_apart (delay_start rate cue) (delay_start rate e) cue.load ordered.starts until;
      undisturbed = none_inside (delay_start rate cue) cue.show cue.load (event_frames rate e) ordered.starts
          (unwrap_until (delay_start rate e) e.show cue.load over.shown until, list_of (λ (frame : ℕ). frame ≤ cue.load) e.hide over.hidden);
      undisturbing = none_within (delay_start rate e) e.show cue.load (event_frames rate cue) over.shown
          (unwrap_after (delay_start rate cue) cue.show cue.load ordered.shown ordered.starts, list_of (λ (frame : ℕ). cue.load < frame) cue.hide ordered.hidden);
    }

-- a cue that keeps the rule Order
ordered_by : (rate : Rate) (cue : Cue) (former : Option Cue) → AllKept (order rate cue former) → IsOrdered rate cue
ordered_by rate cue former kept =
    let shown : cue.load < cue.show = not_le cue.show cue.load kept.0 in
    record {
      shown = shown;
      hidden = each_hide cue.hide (λ hide is. let later : cue.show < hide = not_le hide cue.show (hide_fails (λ h. nat_le h cue.show) cue.hide hide kept.1.0 is) in omega arith);
      starts = by_test (nat_lt 0 (delay_of cue.kind)) refl;
    }
  where
    each_hide : (o : Option ℕ) → ((hide : ℕ) → o ≡ Some hide → cue.load < hide) → IfSome o (λ hide. cue.load < hide)
    each_hide None each = tt
    each_hide (Some hide) each = each hide refl

    by_test : (b : Bool) → nat_lt 0 (delay_of cue.kind) ≡ b
        → IfSome (if b then Some (cue.show - delay_frames_of rate (delay_of cue.kind)) else None) (λ start. cue.load < start)
    by_test true delays =
        let below : cue.load + delay_frames_of rate (delay_of cue.kind) < cue.show =
        not_le cue.show (cue.load + delay_frames_of rate (delay_of cue.kind))
        (second_fails (nat_lt 0 (delay_of cue.kind)) (nat_le cue.show (cue.load + delay_frames_of rate (delay_of cue.kind))) kept.1.1.0 delays) in
        omega arith
    by_test false delays = tt

-- the cues of its service load in their order
loads_in_order : (list : Listing) (service : ℕ) (cue : Cue) (cues : List Cue) → is_of_service service cue.kind ≡ true → AreFaultless list cues
    → AllKept (order list.rate cue (former_cue cue cues))
    → AllByRecursion (λ (c : Cue). is_of_service service c.kind ≡ true → c.load ≤ cue.load) cues
loads_in_order list service cue cues on kept order_kept =
    of_all (λ (c : Cue). is_of_service service c.kind ≡ true → c.load ≤ cue.load) service cues
    (λ c off of. absurd (let q = off in cc))
    (each_of (λ (c : Cue). c.load ≤ cue.load) (λ (c : Cue). is_of_service service c.kind ≡ true → c.load ≤ cue.load) (cues_of_service service cues)
    (λ c below of. below)
    (loads_up_to list service cue.load (cues_of_service service cues) (faultless_service list service cues kept)
    (λ former is. not_lt cue.load former.load (second_fails (is_win cue.kind) (nat_lt cue.load former.load)
    (former_fails (former_cue cue cues) (loads_before_it_loads cue) former order_kept.1.1.1.1.0
    (former_of_service service cue cues on ∙ is)) (window_of_service service cue.kind on)))))

-- each of the cues is shown before it is hidden
shown_before_hidden : (list : Listing) (cues : List Cue) → AreFaultless list cues
    → AllByRecursion (λ (e : Cue). (hide : ℕ) → e.hide ≡ Some hide → e.show < hide) cues
shown_before_hidden list [] kept = tt
shown_before_hidden list (cue ∷ cues) kept =
    (λ hide is. show_below_hide list cues cue (keeps_rules list cues cue kept.0) hide is, shown_before_hidden list cues kept.1)

-- facts of each of some, together
both_of_each : {A : Type 0} (P Q : A → Type 0) (xs : List A) → AllByRecursion P xs → AllByRecursion Q xs → AllByRecursion (λ (x : A). P x × Q x) xs
both_of_each P Q [] first second = tt
both_of_each P Q (x ∷ xs) first second = ((first.0, second.0), both_of_each P Q xs first.1 second.1)

-- no cue before the last one in a window crosses with a cue that keeps the rule Order
delays_faded : (list : Listing) (service id : ℕ) (cue : Cue) (cues : List Cue) → is_of_service service cue.kind ≡ true
    → AllByRecursion IsCueFormed cues → AreFaultless list cues → IsOrdered list.rate cue
    → AllByRecursion (λ (c : Cue). is_of_service service c.kind ≡ true → c.load ≤ cue.load) cues
    → Faded (λ c. uses_window service id c.kind) (delays_cross list.rate cue) cues
delays_faded list service id cue [] on formed kept ordered loads = tt
delays_faded list service id cue (c ∷ cues) on formed kept ordered loads =
    (faded, delays_faded list service id cue cues on formed.1 kept.1 ordered loads.1)
  where
    over : uses_window service id c.kind ≡ true → (e : Cue)
        → (uses_window service id e.kind ≡ true → IfSome e.hide (λ hide. hide ≤ c.load))
        → ((hide : ℕ) → e.hide ≡ Some hide → e.show < hide) → IsCueFormed e → (is_of_service service e.kind ≡ true → e.load ≤ cue.load)
        → uses_window service id e.kind ≡ true → IsOver list.rate cue e
    over in_it e hides shows its first there =
        let of : is_of_service service e.kind ≡ true = window_in service id e.kind there in
        let loaded : c.load ≤ cue.load = loads.0 (window_in service id c.kind in_it) in
        let gone = hides there in
        hide_at _ e.hide (window_hides e.kind e (window_of_service service e.kind of) its.kind)
        (λ h is.
        let shown : e.show < h = shows h is in
        let until : h ≤ c.load = if_some (λ hide. hide ≤ c.load) e.hide h gone is in
        record {
          loaded = first of;
          shown = omega arith;
          hidden = rw is (omega arith);
        })

    faded : uses_window service id c.kind ≡ true → delays_cross list.rate cue c ≡ false
        → AllByRecursion (λ (e : Cue). uses_window service id e.kind ≡ true → delays_cross list.rate cue e ≡ false) cues
    faded in_it left =
        let keeps = keeps_rules list cues c kept.0 in
        each_of _ (λ (e : Cue). uses_window service id e.kind ≡ true → delays_cross list.rate cue e ≡ false) cues
        (λ e facts there. delays_apart list.rate e cue (over_clear list.rate cue e ordered (over in_it e facts.0 facts.1.0 facts.1.1.0 facts.1.1.1 there)))
        (both_of_each _ _ cues (hidden_before list service id c cues formed.0 in_it keeps)
        (both_of_each _ _ cues (shown_before_hidden list cues kept.1) (both_of_each _ _ cues formed.1 loads.1)))

-- so of the last cues in the windows of its service, the nearest that crosses with it is the nearest of all
pub delays_tell : (list : Listing) (w : WinCue) (cue : Cue) (cues : List Cue) (last : ℕ → Option ℕ) → cue.kind ≡ kind.Win w
    → AllByRecursion IsCueFormed cues → AreFaultless list cues → AllKept (order list.rate cue (former_cue cue cues))
    → ((id : ℕ) → id < 8 → last id ≡ nearest_number (λ c. uses_window w.service id c.kind) cues)
    → last_below (delays_cross list.rate cue) (reverse cues) last 8 ≡ nearest_number (delays_cross list.rate cue) cues
delays_tell list w cue cues last is formed kept order_kept remembered =
    nearest_below (delays_cross list.rate cue) cues last (λ id c. uses_window w.service id c.kind) 8 remembered
    (λ id. delays_faded list w.service id cue cues on formed kept (ordered_by list.rate cue (former_cue cue cues) order_kept)
    (loads_in_order list w.service cue cues on kept order_kept))
    ∙ nearest_same (λ c. passes_below 8 (λ id e. uses_window w.service id e.kind) c && delays_cross list.rate cue c) (delays_cross list.rate cue) cues
    (each_of IsCueFormed _ cues each formed)
  where
    on : is_of_service w.service cue.kind ≡ true
    on = rw (is, equal_itself w.service) refl

    needless : (a b : Bool) → (b ≡ true → a ≡ true) → (a && b) ≡ b
    needless true b passes = refl
    needless false true passes = passes refl
    needless false false passes = refl

    in_some : (c : Cue) (k : Kind) → c.kind ≡ k → IsOfKind k c.hide c.runs → same_service (kind.Win w) k ≡ true
        → passes_below 8 (λ id e. uses_window w.service id e.kind) c ≡ true
    in_some c (kind.Pop channel) at its same = cc
    in_some c (kind.Paint channel) at its same = cc
    in_some c (kind.Roll channel rows) at its same = cc
    in_some c (kind.Win v) at its same =
        let window : IsWindow v = its.0 in
        one_passes 8 v.id (λ id e. uses_window w.service id e.kind) c (omega (arith, window.id)) (rw (at, same, equal_itself v.id) refl)

    first_of : (a b : Bool) → (a && b) ≡ true → a ≡ true
    first_of true b both = refl
    first_of false b both = cc

    each : (c : Cue) → IsCueFormed c
        → (passes_below 8 (λ id e. uses_window w.service id e.kind) c && delays_cross list.rate cue c) ≡ delays_cross list.rate cue c
    each c its =
        needless (passes_below 8 (λ id e. uses_window w.service id e.kind) c) (delays_cross list.rate cue c)
        (λ crosses. in_some c c.kind refl its.kind (ap (λ k. same_service k c.kind) (sym is) ∙ first_of (same_service cue.kind c.kind) _ crosses))

-- the number that is found is the number of the nearest cue that crosses
pub crossing_number : (list : Listing) (rate : Rate) (w : WinCue) (cue : Cue) (cues : List Cue) (formers : Formers) (found : Option ℕ) (count : ℕ)
    → list.rate ≡ rate → IsCueFormed cue
    → cue.kind ≡ kind.Win w → All IsCueFormed cues → Remembers formers (reverse cues) → AreFaultless list (reverse cues)
    → first_broken (order rate cue (former_cue cue (reverse cues))) ≡ None
    → found ≡ last_below (delays_cross rate cue) cues (last_in formers w.service) count → count ≡ 8
    → found ≡ nearest_number (delays_cross rate cue) (reverse cues)
crossing_number list rate w cue cues formers found count same formed is all remembers kept none finds counted =
    let window : IsWindow w = window_formed cue w formed is in
    let below : w.service < 8 = omega (arith, window.service) in
    let none_here : first_broken (order list.rate cue (former_cue cue (reverse cues))) ≡ None =
    subst (λ (r : Rate). first_broken (order r cue (former_cue cue (reverse cues))) ≡ None) (sym same) none in
    let tells = delays_tell list w cue (reverse cues) (last_in formers w.service) is (formed_back cues all) kept
    (all_kept (order list.rate cue (former_cue cue (reverse cues))) none_here)
    (λ id within. remembers.windows w.service id below within) in
    let tells_here : last_below (delays_cross rate cue) cues (last_in formers w.service) 8 ≡ nearest_number (delays_cross rate cue) (reverse cues) =
    subst (λ (r : Rate). last_below (delays_cross r cue) cues (last_in formers w.service) 8 ≡ nearest_number (delays_cross r cue) (reverse cues)) same
    (rw reverse-reverse at tells) in
    finds ∙ ap (last_below (delays_cross rate cue) cues (last_in formers w.service)) counted ∙ tells_here
