-- What is kept of the codes so far is what the segments come to.
use Rattle.std.proofs.Common.{◌≡◌, ℕ, ◌+◌, ◌/◌, ◌%◌, nat_le, nat_lt, Bool, true, false, List, [], ◌∷◌, ◌++◌, length, map, Option, Some, None, refl, sym, ap, ◌∙◌, subst, arith, append_assoc, length-append}
use Rattle.std.specs.Prelude.{if◌then◌else◌, not, ◌==◌, ◌&&◌, ◌||◌}
use Rattle.std.specs.List.{filter, list_any}
use Rattle.std.proofs.lemmas.Bool.Decides.{nat_tests}
use Rattle.line21_codes.specs.declared.codes.Code.{Code}
use Rattle.line21_codes.specs.declared.codes.Code.TheVariants.{Null, Text, Xds, Control}
use Rattle.xds_packets.specs.declared.under_way.UnderWay.{UnderWay}
use Rattle.xds_packets.specs.Segments.{Segment, data_bytes, is_end, is_ended, is_mark, is_of_type, is_open, is_open_end, open_of, opened, segments, segments_text, since_start, starts_class}
use Rattle.xds_packets.specs.Reading.{checks, closed_by, ends_at, from_start, judged}
use Rattle.xds_packets.specs.OneByOne.{CodesAreReadOneByOne, IsCode, Label, StandsAt, State, added, begun, dropped, ended, finished, fitted, given, given_end, gone_on, label_of, next_state, put, under_way_from}
use Rattle.xds_packets.proofs.SegmentLemmas.{AreClosed, any_more, any_map, are_closed, glued, grown, nil_right, segments_more, since_map, since_new, since_other}

-- the segments that are closed but the last
closed_since : (class : ℕ) (ss : List Segment) → AreClosed ss → AreClosed (since_start class ss)
closed_since class [] are = tt
closed_since class (s ∷ ss) are = by_test (starts_class class s && not (list_any (starts_class class) ss)) (closed_since class ss are.1)
  where
    by_test : (b : Bool) → AreClosed (since_start class ss) → AreClosed (if b then s ∷ ss else since_start class ss)
    by_test true more = are
    by_test false more = more

not_open : (b : Bool) (ss : List Segment) (t : Segment) (ts : List Segment) → (b ≡ true → ss ≡ []) → ss ≡ t ∷ ts → b ≡ false
not_open true ss t ts only is = let none : ss ≡ [] = only refl in absurd (cc)
not_open false ss t ts only is = refl

some_rest : (class : ℕ) (ss : List Segment) (t : Segment) (ts : List Segment) → since_start class ss ≡ t ∷ ts → (u : Segment) × ((us : List Segment) × (ss ≡ u ∷ us))
some_rest class [] t ts is = cc
some_rest class (u ∷ us) t ts is = (u, (us, refl))

open_since : (class : ℕ) (ss : List Segment) → AreClosed ss → (t : Segment) (ts : List Segment) → since_start class ss ≡ t ∷ ts → open_of (t ∷ ts) ≡ open_of ss
open_since class [] are t ts is = cc
open_since class (s ∷ ss) are t ts is = by_test (starts_class class s && not (list_any (starts_class class) ss)) refl (open_since class ss are.1 t ts)
  where
    by_test : (b : Bool) → (starts_class class s && not (list_any (starts_class class) ss)) ≡ b → (since_start class ss ≡ t ∷ ts → open_of (t ∷ ts) ≡ open_of ss) → open_of (t ∷ ts) ≡ open_of (s ∷ ss)
    by_test true e more = let it : s ∷ ss ≡ t ∷ ts = sym (ap (λ b. if b then s ∷ ss else since_start class ss) e) ∙ is in ap open_of (sym it)
    by_test false e more =
        let there : since_start class ss ≡ t ∷ ts = sym (ap (λ b. if b then s ∷ ss else since_start class ss) e) ∙ is in
        let rest = some_rest class ss t ts there in
        let closed : is_open s ≡ false = not_open (is_open s) ss rest.0 rest.1.0 are.0 rest.1.1 in
        more there ∙ sym (ap (λ b. if b then Some s else open_of ss) closed)

abbrev passes : (Segment → Bool) → Option Segment → Bool
passes test None = false
passes test (Some s) = test s

or_false : (b : Bool) → (b || false) ≡ b
or_false true = refl
or_false false = refl

open_filter : (test : Segment → Bool) (ss : List Segment) → AreClosed ss → list_any is_open (filter test ss) ≡ passes test (open_of ss)
open_filter test [] are = refl
open_filter test (s ∷ ss) are = by_open (is_open s) refl (open_filter test ss are.1)
  where
    by_open : (b : Bool) → is_open s ≡ b → list_any is_open (filter test ss) ≡ passes test (open_of ss)
        → list_any is_open (if test s then s ∷ filter test ss else filter test ss) ≡ passes test (if is_open s then Some s else open_of ss)
    by_open true e more = let none : ss ≡ [] = are.0 e in rw (e, none) (by_test (test s))
      where
        by_test : (b : Bool) → list_any is_open (if b then s ∷ [] else []) ≡ b
        by_test true = rw e refl
        by_test false = refl
    by_open false e more = rw e (by_test (test s) ∙ more)
      where
        by_test : (b : Bool) → list_any is_open (if b then s ∷ filter test ss else filter test ss) ≡ list_any is_open (filter test ss)
        by_test true = rw e refl
        by_test false = refl

closed_filter : (test : Segment → Bool) (ss : List Segment) → AreClosed ss → AreClosed (filter test ss)
closed_filter test [] are = tt
closed_filter test (s ∷ ss) are = by_test (test s) (closed_filter test ss are.1)
  where
    by_test : (b : Bool) → AreClosed (filter test ss) → AreClosed (if b then s ∷ filter test ss else filter test ss)
    by_test true more = (λ is. ap (filter test) (are.0 is), more)
    by_test false more = more

filter_map : (test : Segment → Bool) (x : Code) → ((s : Segment) → test (grown x s) ≡ test s) → (ss : List Segment) → filter test (map (grown x) ss) ≡ map (grown x) (filter test ss)
filter_map test x same [] = refl
filter_map test x same (s ∷ ss) =
    ap (λ r. if test (grown x s) then grown x s ∷ r else r) (filter_map test x same ss)
    ∙ ap (λ b. if b then grown x s ∷ map (grown x) (filter test ss) else map (grown x) (filter test ss)) (same s)
    ∙ by_test (test s)
  where
    by_test : (b : Bool) → (if b then grown x s ∷ map (grown x) (filter test ss) else map (grown x) (filter test ss)) ≡ map (grown x) (if b then s ∷ filter test ss else filter test ss)
    by_test true = refl
    by_test false = refl

filter_append : (test : Segment → Bool) (ss : List Segment) (new : Segment) → filter test (ss ++ new ∷ []) ≡ filter test ss ++ (if test new then new ∷ [] else [])
filter_append test [] new = refl
filter_append test (s ∷ ss) new = ap (λ r. if test s then s ∷ r else r) (filter_append test ss new) ∙ by_test (test s)
  where
    by_test : (b : Bool) → (if b then s ∷ (filter test ss ++ (if test new then new ∷ [] else [])) else filter test ss ++ (if test new then new ∷ [] else []))
        ≡ (if b then s ∷ filter test ss else filter test ss) ++ (if test new then new ∷ [] else [])
    by_test true = refl
    by_test false = refl

-- the texts and the ends of grown segments
text_grown : (x : Code) (ss : List Segment) → AreClosed ss → segments_text (map (grown x) ss) ≡ segments_text ss ++ (if list_any is_open ss then data_bytes x else [])
text_grown x [] are = refl
text_grown x (s ∷ ss) are = by_open (is_open s) refl (text_grown x ss are.1)
  where
    by_open : (b : Bool) → is_open s ≡ b → segments_text (map (grown x) ss) ≡ segments_text ss ++ (if list_any is_open ss then data_bytes x else [])
        → (s.bytes ++ (if is_open s then data_bytes x else [])) ++ segments_text (map (grown x) ss)
        ≡ (s.bytes ++ segments_text ss) ++ (if is_open s || list_any is_open ss then data_bytes x else [])
    by_open true e more =
        let none : ss ≡ [] = are.0 e in
        rw (e, none) (nil_right (s.bytes ++ data_bytes x) ∙ ap (λ r. r ++ data_bytes x) (sym (nil_right s.bytes)))
    by_open false e more =
        rw e (ap (λ r. r ++ segments_text (map (grown x) ss)) (nil_right s.bytes) ∙ ap (λ r. s.bytes ++ r) more ∙ sym (append_assoc s.bytes (segments_text ss) (if list_any is_open ss then data_bytes x else [])))

ended_same : (x : Code) → is_end (Some x) ≡ false → (s : Segment) → is_ended (grown x s) ≡ is_ended s
ended_same x is s = by_end s.end (is_mark x)
  where
    by_end : (end : Option Code) (b : Bool) → is_end (if is_open_end end && b then Some x else end) ≡ is_end end
    by_end None true = is
    by_end None false = refl
    by_end (Some code) b = refl

ended_now : (check : ℕ) (ss : List Segment) → list_any is_ended (map (grown (Xds 0x0F check)) ss) ≡ (list_any is_ended ss || list_any is_open ss)
ended_now check [] = refl
ended_now check (s ∷ ss) = by_end s.end (list_any is_ended (map (grown (Xds 0x0F check)) ss)) (ended_now check ss)
  where
    or_true : (b : Bool) → true ≡ (b || true)
    or_true true = refl
    or_true false = refl

    by_end : (end : Option Code) (more : Bool) → more ≡ (list_any is_ended ss || list_any is_open ss)
        → (is_end (if is_open_end end && true then Some (Xds 0x0F check) else end) || more) ≡ ((is_end end || list_any is_ended ss) || (is_open_end end || list_any is_open ss))
    by_end None more is = or_true (list_any is_ended ss)
    by_end (Some code) more is = by_ended (is_end (Some code))
      where
        by_ended : (b : Bool) → (b || more) ≡ ((b || list_any is_ended ss) || list_any is_open ss)
        by_ended true = refl
        by_ended false = is

-- the packet under way of a class after one pair more
abbrev under_way_in : ℕ → List Segment → Option UnderWay
under_way_in kind own = if list_any is_ended own then None else fitted kind (segments_text own)

under_way_grown : (class : ℕ) (x : Code) → is_end (Some x) ≡ false → (s : Segment) (ss : List Segment) → AreClosed (s ∷ ss)
    → under_way_from class (map (grown x) (s ∷ ss))
    ≡ (if list_any is_ended (filter (is_of_type class s.kind) (s ∷ ss)) then None
    else fitted s.kind (segments_text (filter (is_of_type class s.kind) (s ∷ ss)) ++ (if passes (is_of_type class s.kind) (open_of (s ∷ ss)) then data_bytes x else [])))
under_way_grown class x is s ss are =
    let own : List Segment = filter (is_of_type class s.kind) (s ∷ ss) in
    ap (under_way_in s.kind) (filter_map (is_of_type class s.kind) x (λ t. refl) (s ∷ ss))
    ∙ ap (λ b. if b then None else fitted s.kind (segments_text (map (grown x) (filter (is_of_type class s.kind) (s ∷ ss))))) (any_map x is_ended (ended_same x is) (filter (is_of_type class s.kind) (s ∷ ss)))
    ∙ ap (λ t. if list_any is_ended (filter (is_of_type class s.kind) (s ∷ ss)) then None else fitted s.kind t) (text_grown x (filter (is_of_type class s.kind) (s ∷ ss)) (closed_filter (is_of_type class s.kind) (s ∷ ss) are))
    ∙ ap (λ b. if list_any is_ended (filter (is_of_type class s.kind) (s ∷ ss)) then None else fitted s.kind (segments_text (filter (is_of_type class s.kind) (s ∷ ss)) ++ (if b then data_bytes x else []))) (open_filter (is_of_type class s.kind) (s ∷ ss) are)

under_way_ended : (class check : ℕ) (s : Segment) (ss : List Segment) → AreClosed (s ∷ ss)
    → under_way_from class (map (grown (Xds 0x0F check)) (s ∷ ss))
    ≡ (if list_any is_ended (filter (is_of_type class s.kind) (s ∷ ss)) || passes (is_of_type class s.kind) (open_of (s ∷ ss)) then None
    else fitted s.kind (segments_text (filter (is_of_type class s.kind) (s ∷ ss))))
under_way_ended class check s ss are =
    ap (under_way_in s.kind) (filter_map (is_of_type class s.kind) (Xds 0x0F check) (λ t. refl) (s ∷ ss))
    ∙ ap (λ b. if b then None else fitted s.kind (segments_text (map (grown (Xds 0x0F check)) (filter (is_of_type class s.kind) (s ∷ ss))))) (ended_now check (filter (is_of_type class s.kind) (s ∷ ss)))
    ∙ ap (λ b. if list_any is_ended (filter (is_of_type class s.kind) (s ∷ ss)) || b then None else fitted s.kind (segments_text (map (grown (Xds 0x0F check)) (filter (is_of_type class s.kind) (s ∷ ss))))) (open_filter (is_of_type class s.kind) (s ∷ ss) are)
    ∙ ap (λ t. if list_any is_ended (filter (is_of_type class s.kind) (s ∷ ss)) || passes (is_of_type class s.kind) (open_of (s ∷ ss)) then None else fitted s.kind t)
    (text_grown (Xds 0x0F check) (filter (is_of_type class s.kind) (s ∷ ss)) (closed_filter (is_of_type class s.kind) (s ∷ ss) are)
    ∙ no_more (list_any is_open (filter (is_of_type class s.kind) (s ∷ ss))) (segments_text (filter (is_of_type class s.kind) (s ∷ ss))))
  where
    no_more : (b : Bool) (t : List ℕ) → t ++ (if b then [] else []) ≡ t
    no_more true t = nil_right t
    no_more false t = nil_right t

text_append : (xs ys : List Segment) → segments_text (xs ++ ys) ≡ segments_text xs ++ segments_text ys
text_append [] ys = refl
text_append (x ∷ xs) ys = ap (λ r. x.bytes ++ r) (text_append xs ys) ∙ sym (append_assoc x.bytes (segments_text xs) (segments_text ys))

under_way_glued : (class : ℕ) (ss : List Segment) (new : Segment) → new.bytes ≡ [] → new.end ≡ None → under_way_from class (glued ss new) ≡ under_way_from class ss
under_way_glued class [] new none open_it = refl
under_way_glued class (s ∷ ss) new none open_it =
    ap (under_way_in s.kind) (filter_append (is_of_type class s.kind) (s ∷ ss) new) ∙ by_test (is_of_type class s.kind new) (filter (is_of_type class s.kind) (s ∷ ss))
  where
    by_test : (b : Bool) (own : List Segment) → under_way_in s.kind (own ++ (if b then new ∷ [] else [])) ≡ under_way_in s.kind own
    by_test true own =
        ap (λ b. if b then None else fitted s.kind (segments_text (own ++ new ∷ []))) (any_more is_ended own new ∙ ap (λ e. list_any is_ended own || is_end e) open_it ∙ or_false (list_any is_ended own))
        ∙ ap (λ t. if list_any is_ended own then None else fitted s.kind t) (text_append own (new ∷ []) ∙ ap (λ b. segments_text own ++ (b ++ [])) none ∙ nil_right (segments_text own))
    by_test false own = ap (under_way_in s.kind) (nil_right own)

-- what a pair makes of a packet under way
too_long : (kind : ℕ) (t more : List ℕ) → nat_le (length t) 32 ≡ false → fitted kind (t ++ more) ≡ None
too_long kind t more is =
    let sum : length (t ++ more) ≡ length t + length more = length-append t more in let long : nat_le (length (t ++ more)) 32 ≡ false = grind (arith, nat_tests) in
    ap (λ b. if b then Some (record { kind = kind; text = t ++ more }) else None) long

added_under_way : (label : Label) (bytes : List ℕ) (kind : ℕ) (e : Bool) (t : List ℕ)
    → added label bytes (if e then None else fitted kind t) ≡ (if e then None else fitted kind (t ++ (if label.kind == kind then bytes else [])))
added_under_way label bytes kind true t = refl
added_under_way label bytes kind false t = by_fit (nat_le (length t) 32) refl
  where
    by_kind : (b : Bool) → nat_le (length t) 32 ≡ true → (if b then fitted kind (t ++ bytes) else Some (record { kind = kind; text = t })) ≡ fitted kind (t ++ (if b then bytes else []))
    by_kind true fit = refl
    by_kind false fit = sym (ap (fitted kind) (nil_right t) ∙ ap (λ b. if b then Some (record { kind = kind; text = t }) else None) fit)

    by_fit : (b : Bool) → nat_le (length t) 32 ≡ b → added label bytes (fitted kind t) ≡ fitted kind (t ++ (if label.kind == kind then bytes else []))
    by_fit true fit = ap (λ b. added label bytes (if b then Some (record { kind = kind; text = t }) else None)) fit ∙ by_kind (label.kind == kind) fit
    by_fit false fit = ap (λ b. added label bytes (if b then Some (record { kind = kind; text = t }) else None)) fit ∙ sym (too_long kind t (if label.kind == kind then bytes else []) fit)

added_is : (class : ℕ) (o : Option Segment) (bytes : List ℕ) (state : State) (kind : ℕ) (e : Bool) (t : List ℕ) → state.under_way class ≡ (if e then None else fitted kind t)
    → (gone_on (label_of o) bytes state).under_way class ≡ (if e then None else fitted kind (t ++ (if passes (is_of_type class kind) o then bytes else [])))
added_is class None bytes state kind e t is = is ∙ ap (λ r. if e then None else fitted kind r) (sym (nil_right t))
added_is class (Some s) bytes state kind e t is = by_class (s.class == class) refl
  where
    by_class : (b : Bool) → (s.class == class) ≡ b → (if b then added (record { class = s.class; kind = s.kind }) bytes (state.under_way s.class) else state.under_way class)
        ≡ (if e then None else fitted kind (t ++ (if b && s.kind == kind then bytes else [])))
    by_class true at =
        let same : s.class ≡ class = grind (arith, nat_tests) in
        ap (added (record { class = s.class; kind = s.kind }) bytes) (ap state.under_way same ∙ is) ∙ added_under_way (record { class = s.class; kind = s.kind }) bytes kind e t
    by_class false at = is ∙ ap (λ r. if e then None else fitted kind r) (sym (nil_right t))

none_added : (class : ℕ) (o : Option Segment) (bytes : List ℕ) (state : State) → state.under_way class ≡ None → (gone_on (label_of o) bytes state).under_way class ≡ None
none_added class None bytes state is = is
none_added class (Some s) bytes state is = by_class (s.class == class) refl
  where
    by_class : (b : Bool) → (s.class == class) ≡ b → (if b then added (record { class = s.class; kind = s.kind }) bytes (state.under_way s.class) else state.under_way class) ≡ None
    by_class true at =
        let same : s.class ≡ class = grind (arith, nat_tests) in
        ap (added (record { class = s.class; kind = s.kind }) bytes) (ap state.under_way same ∙ is)
    by_class false at = is

abbrev dropped_by : Bool → Option UnderWay → Option UnderWay
dropped_by k None = None
dropped_by k (Some so_far) = if k then None else Some so_far

dropped_under_way : (label : Label) (kind : ℕ) (e : Bool) (t : List ℕ) → dropped label (if e then None else fitted kind t) ≡ (if e || label.kind == kind then None else fitted kind t)
dropped_under_way label kind true t = refl
dropped_under_way label kind false t = by_case (nat_le (length t) 32) ∙ by_fit (nat_le (length t) 32) (label.kind == kind)
  where
    by_case : (b : Bool) → dropped label (if b then Some (record { kind = kind; text = t }) else None) ≡ dropped_by (label.kind == kind) (if b then Some (record { kind = kind; text = t }) else None)
    by_case true = refl
    by_case false = refl

    by_fit : (b k : Bool) → dropped_by k (if b then Some (record { kind = kind; text = t }) else None) ≡ (if k then None else (if b then Some (record { kind = kind; text = t }) else None))
    by_fit true true = refl
    by_fit true false = refl
    by_fit false true = refl
    by_fit false false = refl

dropped_is : (class : ℕ) (o : Option Segment) (state : State) (kind : ℕ) (e : Bool) (t : List ℕ) → state.under_way class ≡ (if e then None else fitted kind t)
    → (ended (label_of o) state).under_way class ≡ (if e || passes (is_of_type class kind) o then None else fitted kind t)
dropped_is class None state kind e t is = is ∙ ap (λ b. if b then None else fitted kind t) (sym (or_false e))
dropped_is class (Some s) state kind e t is = by_class (s.class == class) refl
  where
    by_class : (b : Bool) → (s.class == class) ≡ b → (if b then dropped (record { class = s.class; kind = s.kind }) (state.under_way s.class) else state.under_way class)
        ≡ (if e || (b && s.kind == kind) then None else fitted kind t)
    by_class true at =
        let same : s.class ≡ class = grind (arith, nat_tests) in
        ap (dropped (record { class = s.class; kind = s.kind })) (ap state.under_way same ∙ is) ∙ dropped_under_way (record { class = s.class; kind = s.kind }) kind e t
    by_class false at = is ∙ ap (λ b. if b then None else fitted kind t) (sym (or_false e))

none_dropped : (class : ℕ) (o : Option Segment) (state : State) → state.under_way class ≡ None → (ended (label_of o) state).under_way class ≡ None
none_dropped class None state is = is
none_dropped class (Some s) state is = by_class (s.class == class) refl
  where
    by_class : (b : Bool) → (s.class == class) ≡ b → (if b then dropped (record { class = s.class; kind = s.kind }) (state.under_way s.class) else state.under_way class) ≡ None
    by_class true at =
        let same : s.class ≡ class = grind (arith, nat_tests) in
        ap (dropped (record { class = s.class; kind = s.kind })) (ap state.under_way same ∙ is)
    by_class false at = is

-- the segment that is open
label_grown : (x : Code) → is_mark x ≡ false → (ss : List Segment) → label_of (open_of (map (grown x) ss)) ≡ label_of (open_of ss)
label_grown x is [] = refl
label_grown x is (s ∷ ss) = ap (λ b. label_of (if is_open_end (if is_open s && b then Some x else s.end) then Some (grown x s) else open_of (map (grown x) ss))) is ∙ by_end s.end (label_grown x is ss)
  where
    by_end : (end : Option Code) → label_of (open_of (map (grown x) ss)) ≡ label_of (open_of ss)
        → label_of (if is_open_end (if is_open_end end && false then Some x else end) then Some (grown x s) else open_of (map (grown x) ss)) ≡ label_of (if is_open_end end then Some s else open_of ss)
    by_end None more = refl
    by_end (Some code) more = more

open_marked : (x : Code) → is_mark x ≡ true → (ss : List Segment) → open_of (map (grown x) ss) ≡ None
open_marked x is [] = refl
open_marked x is (s ∷ ss) = ap (λ b. if is_open_end (if is_open s && b then Some x else s.end) then Some (grown x s) else open_of (map (grown x) ss)) is ∙ by_end s.end (open_marked x is ss)
  where
    by_end : (end : Option Code) → open_of (map (grown x) ss) ≡ None
        → (if is_open_end (if is_open_end end && true then Some x else end) then Some (grown x s) else open_of (map (grown x) ss)) ≡ None
    by_end None more = more
    by_end (Some code) more = more

open_append : (ss : List Segment) (new : Segment) → open_of ss ≡ None → open_of (ss ++ new ∷ []) ≡ open_of (new ∷ [])
open_append [] new is = refl
open_append (s ∷ ss) new is = by_open (is_open s) (open_append ss new) is
  where
    by_open : (b : Bool) → (open_of ss ≡ None → open_of (ss ++ new ∷ []) ≡ open_of (new ∷ [])) → (if b then Some s else open_of ss) ≡ None
        → (if b then Some s else open_of (ss ++ new ∷ [])) ≡ open_of (new ∷ [])
    by_open true more it = cc
    by_open false more it = more it

-- the packet under way of a class from what is known of its segments
abbrev under_way_with : ℕ → ℕ → List Segment → List Segment → Option UnderWay
under_way_with class kind whole more = None

-- a pair that opens no segment and isn't an end pair
same_bytes : (b : Bool) (t bytes : List ℕ) → bytes ≡ [] → t ++ (if b then bytes else []) ≡ t
same_bytes true t bytes is = ap (λ r. t ++ r) is ∙ nil_right t
same_bytes false t bytes is = nil_right t

under_way_idle : (class : ℕ) (x : Code) → is_end (Some x) ≡ false → data_bytes x ≡ [] → (ss : List Segment) → AreClosed ss → under_way_from class (map (grown x) ss) ≡ under_way_from class ss
under_way_idle class x is none [] are = refl
under_way_idle class x is none (s ∷ ss) are =
    under_way_grown class x is s ss are
    ∙ ap (λ t. if list_any is_ended (filter (is_of_type class s.kind) (s ∷ ss)) then None else fitted s.kind t)
    (same_bytes (passes (is_of_type class s.kind) (open_of (s ∷ ss))) (segments_text (filter (is_of_type class s.kind) (s ∷ ss))) (data_bytes x) none)

under_way_added : (class : ℕ) (x : Code) → is_end (Some x) ≡ false → (all : List Segment) → AreClosed all → (state : State) → (ss : List Segment) → since_start class all ≡ ss
    → state.under_way class ≡ under_way_from class ss → (gone_on (label_of (open_of all)) (data_bytes x) state).under_way class ≡ under_way_from class (map (grown x) ss)
under_way_added class x is all are state [] at was = none_added class (open_of all) (data_bytes x) state was
under_way_added class x is all are state (s ∷ ss) at was =
    let closed : AreClosed (s ∷ ss) = subst AreClosed at (closed_since class all are) in
    added_is class (open_of all) (data_bytes x) state s.kind (list_any is_ended (filter (is_of_type class s.kind) (s ∷ ss))) (segments_text (filter (is_of_type class s.kind) (s ∷ ss))) was
    ∙ ap (λ o. if list_any is_ended (filter (is_of_type class s.kind) (s ∷ ss)) then None
    else fitted s.kind (segments_text (filter (is_of_type class s.kind) (s ∷ ss)) ++ (if passes (is_of_type class s.kind) o then data_bytes x else []))) (sym (open_since class all are s ss at))
    ∙ sym (under_way_grown class x is s ss closed)

under_way_dropped : (class check : ℕ) (all : List Segment) → AreClosed all → (state : State) → (ss : List Segment) → since_start class all ≡ ss
    → state.under_way class ≡ under_way_from class ss → (ended (label_of (open_of all)) state).under_way class ≡ under_way_from class (map (grown (Xds 0x0F check)) ss)
under_way_dropped class check all are state [] at was = none_dropped class (open_of all) state was
under_way_dropped class check all are state (s ∷ ss) at was =
    let closed : AreClosed (s ∷ ss) = subst AreClosed at (closed_since class all are) in
    dropped_is class (open_of all) state s.kind (list_any is_ended (filter (is_of_type class s.kind) (s ∷ ss))) (segments_text (filter (is_of_type class s.kind) (s ∷ ss))) was
    ∙ ap (λ o. if list_any is_ended (filter (is_of_type class s.kind) (s ∷ ss)) || passes (is_of_type class s.kind) o then None
    else fitted s.kind (segments_text (filter (is_of_type class s.kind) (s ∷ ss)))) (sym (open_since class all are s ss at))
    ∙ sym (under_way_ended class check s ss closed)

-- the packet that ends
judged_own : (class kind : ℕ) (own : List Segment) (check : ℕ) → finished (record { class = class; kind = kind }) (under_way_in kind own) check ≡ judged class kind (Some own) check
judged_own class kind own check = by_ended (list_any is_ended own) (nat_le (length (segments_text own)) 32)
  where
    by_ended : (e fit : Bool) → finished (record { class = class; kind = kind }) (if e then None else (if fit then Some (record { kind = kind; text = segments_text own }) else None)) check
        ≡ (if not e && (fit && checks class kind (segments_text own) check) then Some (record { class = class; kind = kind; text = segments_text own }) else None)
    by_ended true fit = refl
    by_ended false false = refl
    by_ended false true = let same : (kind == kind) ≡ true = grind (arith, nat_tests) in
        ap (λ b. if b && checks class kind (segments_text own) check then Some (record { class = class; kind = kind; text = segments_text own }) else None) same

finished_is : (class kind check : ℕ) (ss : List Segment) → finished (record { class = class; kind = kind }) (under_way_from class ss) check ≡ judged class kind (from_start class kind ss) check
finished_is class kind check [] = refl
finished_is class kind check (s ∷ ss) = by_kind (s.kind == kind) refl
  where
    other : (e fit : Bool) (t : List ℕ) → (kind == s.kind) ≡ false → finished (record { class = class; kind = kind }) (if e then None else (if fit then Some (record { kind = s.kind; text = t }) else None)) check ≡ None
    other true fit t is = refl
    other false false t is = refl
    other false true t is = ap (λ b. if b && checks class kind t check then Some (record { class = class; kind = kind; text = t }) else None) is

    by_kind : (b : Bool) → (s.kind == kind) ≡ b → finished (record { class = class; kind = kind }) (under_way_from class (s ∷ ss)) check
        ≡ judged class kind (if b then Some (filter (is_of_type class kind) (s ∷ ss)) else None) check
    by_kind true at =
        let same : s.kind ≡ kind = grind (arith, nat_tests) in
        ap (λ k. finished (record { class = class; kind = kind }) (under_way_in k (filter (is_of_type class k) (s ∷ ss))) check) same ∙ judged_own class kind (filter (is_of_type class kind) (s ∷ ss)) check
    by_kind false at =
        let differ : (kind == s.kind) ≡ false = grind (arith, nat_tests) in
        other (list_any is_ended (filter (is_of_type class s.kind) (s ∷ ss))) (nat_le (length (segments_text (filter (is_of_type class s.kind) (s ∷ ss)))) 32) (segments_text (filter (is_of_type class s.kind) (s ∷ ss))) differ

given_is : (ss : List Segment) (o : Option Segment) (check : ℕ) (state : State) → ((class : ℕ) → state.under_way class ≡ under_way_from class (since_start class ss))
    → given_end (label_of o) state check ≡ closed_by o ss check
given_is ss None check state under_way = refl
given_is ss (Some s) check state under_way = ap (λ r. finished (record { class = s.class; kind = s.kind }) r check) (under_way s.class) ∙ finished_is s.class s.kind check (since_start s.class ss)

given_here : (codes : List Code) (code : Code) (state : State) → StandsAt codes state → given code state ≡ ends_at codes code
given_here codes Null state stands = refl
given_here codes (Text first second) state stands = refl
given_here codes (Control second control) state stands = refl
given_here codes (Xds first second) state stands =
    ap (λ r. if first == 0x0F then r else None)
    (ap (λ l. given_end l state second) stands.label_is ∙ given_is (segments codes) (open_of (segments codes)) second state stands.under_way_are)

-- segments that one pair more gives where it opens none
abbrev all_of : List Code → List Segment
all_of codes = segments codes

none_opened : (codes : List Code) (x : Code) → opened x [] ≡ [] → segments (codes ++ x ∷ []) ≡ map (grown x) (segments codes)
none_opened codes x none = segments_more codes x ∙ ap (λ r. map (grown x) (segments codes) ++ r) none ∙ nil_right (map (grown x) (segments codes))

since_none : (class : ℕ) (codes : List Code) (x : Code) → opened x [] ≡ [] → since_start class (segments (codes ++ x ∷ [])) ≡ map (grown x) (since_start class (segments codes))
since_none class codes x none = ap (since_start class) (none_opened codes x none) ∙ since_map class x (segments codes)

idle_stands : (codes : List Code) (x : Code) (state next : State) → StandsAt codes state → opened x [] ≡ [] → is_end (Some x) ≡ false → data_bytes x ≡ []
    → next.label ≡ label_of (open_of (segments (codes ++ x ∷ []))) → ((class : ℕ) → next.under_way class ≡ state.under_way class) → StandsAt (codes ++ x ∷ []) next
idle_stands codes x state next stands none is bytes label same = record {
  label_is = label;
  under_way_are = λ class. same class ∙ stands.under_way_are class
      ∙ sym (under_way_idle class x is bytes (since_start class (segments codes)) (closed_since class (segments codes) (are_closed codes)))
      ∙ ap (under_way_from class) (sym (since_none class codes x none));
}

label_none : (codes : List Code) (x : Code) → opened x [] ≡ [] → is_mark x ≡ true → None ≡ label_of (open_of (segments (codes ++ x ∷ [])))
label_none codes x none mark = sym (ap (λ ss. label_of (open_of ss)) (none_opened codes x none) ∙ ap label_of (open_marked x mark (segments codes)))

label_same : (codes : List Code) (x : Code) (label : Option Label) → opened x [] ≡ [] → is_mark x ≡ false → label ≡ label_of (open_of (segments codes)) → label ≡ label_of (open_of (segments (codes ++ x ∷ [])))
label_same codes x label none mark is = is ∙ sym (ap (λ ss. label_of (open_of ss)) (none_opened codes x none) ∙ label_grown x mark (segments codes))

end_opens : (first second : ℕ) → nat_lt first 0x0F ≡ false → opened (Xds first second) [] ≡ []
end_opens first second is = ap (λ b. if b then record { class = (first + 1) / 2; kind = second; is_start = first % 2 == 1; bytes = []; end = None } ∷ [] else []) is

label_gone : (label : Option Label) (bytes : List ℕ) (state : State) → (gone_on label bytes state).label ≡ state.label
label_gone None bytes state = refl
label_gone (Some l) bytes state = refl

label_ended : (label : Option Label) (state : State) → (ended label state).label ≡ None
label_ended None state = refl
label_ended (Some l) state = refl

text_stands : (codes : List Code) (first second : ℕ) (state : State) → StandsAt codes state → StandsAt (codes ++ Text first second ∷ []) (gone_on state.label (data_bytes (Text first second)) state)
text_stands codes first second state stands = record {
  label_is = label_same codes (Text first second) (gone_on state.label (data_bytes (Text first second)) state).label refl refl (label_gone state.label (data_bytes (Text first second)) state ∙ stands.label_is);
  under_way_are = λ class. ap (λ l. (gone_on l (data_bytes (Text first second)) state).under_way class) stands.label_is
      ∙ under_way_added class (Text first second) refl (segments codes) (are_closed codes) state (since_start class (segments codes)) refl (stands.under_way_are class)
      ∙ ap (under_way_from class) (sym (since_none class codes (Text first second) refl));
}

end_stands : (codes : List Code) (check : ℕ) (state : State) → StandsAt codes state → StandsAt (codes ++ Xds 0x0F check ∷ []) (ended state.label state)
end_stands codes check state stands = record {
  label_is = label_ended state.label state ∙ label_none codes (Xds 0x0F check) refl refl;
  under_way_are = λ class. ap (λ l. (ended l state).under_way class) stands.label_is
      ∙ under_way_dropped class check (segments codes) (are_closed codes) state (since_start class (segments codes)) refl (stands.under_way_are class)
      ∙ ap (under_way_from class) (sym (since_none class codes (Xds 0x0F check) refl));
}

-- a start or continue pair
module _ (codes : List Code) (first second : ℕ) (below : nat_lt first 0x0F ≡ true) (state : State) (stands : StandsAt codes state) where
  abbrev x : Code
  x = Xds first second

  abbrev new : Segment
  new = record { class = (first + 1) / 2; kind = second; is_start = first % 2 == 1; bytes = []; end = None }

  one_opened : opened (Xds first second) [] ≡ new ∷ []
  one_opened = ap (λ b. if b then new ∷ [] else []) below

  with_new : segments (codes ++ x ∷ []) ≡ map (grown x) (segments codes) ++ new ∷ []
  with_new = segments_more codes x ∙ ap (λ r. map (grown x) (segments codes) ++ r) one_opened

  not_end : is_end (Some x) ≡ false
  not_end = grind (arith, nat_tests)

  new_label : (begun first second state).label ≡ label_of (open_of (segments (codes ++ x ∷ [])))
  new_label = sym (ap (λ ss. label_of (open_of ss)) with_new ∙ ap label_of (open_append (map (grown x) (segments codes)) new (open_marked x refl (segments codes))))

  new_under_way : (class : ℕ) → Some (record { kind = second; text = [] }) ≡ under_way_from class (new ∷ [])
  new_under_way class = by_test (is_of_type class second new)
    where
      by_test : (b : Bool) → Some (record { kind = second; text = [] }) ≡ under_way_in second (if b then new ∷ [] else [])
      by_test true = refl
      by_test false = refl

  under_way_started : (class : ℕ) → starts_class class new ≡ true → under_way_from class (since_start class (segments (codes ++ x ∷ []))) ≡ Some (record { kind = second; text = [] })
  under_way_started class is = ap (λ ss. under_way_from class (since_start class ss)) with_new ∙ ap (under_way_from class) (since_new class (map (grown x) (segments codes)) new is) ∙ sym (new_under_way class)

  under_way_kept : (class : ℕ) → starts_class class new ≡ false → under_way_from class (since_start class (segments (codes ++ x ∷ []))) ≡ state.under_way class
  under_way_kept class is =
      ap (λ ss. under_way_from class (since_start class ss)) with_new
      ∙ ap (under_way_from class) (since_other class (map (grown x) (segments codes)) new is ∙ ap (λ ss. glued ss new) (since_map class x (segments codes)))
      ∙ under_way_glued class (map (grown x) (since_start class (segments codes))) new refl refl
      ∙ under_way_idle class x not_end refl (since_start class (segments codes)) (closed_since class (segments codes) (are_closed codes))
      ∙ sym (stands.under_way_are class)

  all_under_way : (class : ℕ) → (begun first second state).under_way class ≡ under_way_from class (since_start class (segments (codes ++ x ∷ [])))
  all_under_way class = by_start (first % 2 == 1) ((first + 1) / 2 == class) refl refl
    where
      by_start : (b k : Bool) → (first % 2 == 1) ≡ b → ((first + 1) / 2 == class) ≡ k
          → (if first % 2 == 1 then put ((first + 1) / 2) (Some (record { kind = second; text = [] })) state.under_way else state.under_way) class ≡ under_way_from class (since_start class (segments (codes ++ x ∷ [])))
      by_start true true odd at = rw (odd, at) (sym (under_way_started class (rw (odd, at) refl)))
      by_start true false odd at = rw (odd, at) (sym (under_way_kept class (rw (odd, at) refl)))
      by_start false k odd at = rw odd (sym (under_way_kept class (rw odd refl)))

  begun_stands : StandsAt (codes ++ x ∷ []) (begun first second state)
  begun_stands = record { label_is = new_label; under_way_are = all_under_way }

step_stands : (codes : List Code) (code : Code) (state : State) → IsCode code → StandsAt codes state → StandsAt (codes ++ code ∷ []) (next_state code state)
step_stands codes Null state is stands = idle_stands codes Null state state stands refl refl refl (label_same codes Null state.label refl refl stands.label_is) (λ class. refl)
step_stands codes (Text first second) state is stands = text_stands codes first second state stands
step_stands codes (Control second control) state is stands =
    idle_stands codes (Control second control) state (record state { label = None }) stands refl refl refl (label_none codes (Control second control) refl refl) (λ class. refl)
step_stands codes (Xds first second) state is stands = by_first (nat_lt first 0x0F) refl
  where
    by_first : (b : Bool) → nat_lt first 0x0F ≡ b → StandsAt (codes ++ Xds first second ∷ []) (if b then begun first second state else ended state.label state)
    by_first true at = begun_stands codes first second at state stands
    by_first false at =
        let same : 0x0F ≡ first = grind (arith, nat_tests) in
        subst (λ n. StandsAt (codes ++ Xds n second ∷ []) (ended state.label state)) same (end_stands codes second state stands)

pub codes_are_read_one_by_one : CodesAreReadOneByOne
codes_are_read_one_by_one = (record { label_is = refl; under_way_are = λ class. refl }, λ codes code state is stands. (given_here codes code state stands, step_stands codes code state is stands))
