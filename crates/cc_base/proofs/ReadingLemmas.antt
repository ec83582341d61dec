-- What is read of items piece by piece is what is read of them at once.
use Rattle.std.proofs.Common.{◌≡◌, ℕ, ◌++◌, List, [], ◌∷◌, Option, Some, None, refl, ap, sym, ◌∙◌, append_assoc, append-nil}
use Rattle.cc_base.specs.declared.refusal.Refusal.{Refusal}
use Rattle.cc_base.specs.declared.why.Why.{Why}
use Rattle.cc_base.specs.Feeding.{HasRefused, Judge, Verdict, Reading, hand, read_first, reading, refused_at}

-- parts, and then more parts
pub read_first-parts : {P : Type 0} (some more : List P) (rest : Reading P) → read_first None some (read_first None more rest) ≡ read_first None (some ++ more) rest
read_first-parts some more rest =
    ap (λ parts. let r : Reading _ = record { parts = parts; refusal = rest.refusal } in r) (sym (append_assoc some more rest.parts))

-- parts, and then what may be refused
read_first-behind : {P : Type 0} (some more : List P) (refusal : Option Refusal) (rest : Reading P)
    → read_first None some (read_first refusal more rest) ≡ read_first refusal (some ++ more) rest
read_first-behind some more None rest = read_first-parts some more rest
read_first-behind some more (Some refusal) rest = refl

-- an item that isn't refused
pub reading-taken : {I P : Type 0} (judge : Judge I P) (verdict : Verdict P) (place : List I → ℕ) (before : List I) (above : List P) (item : I) (items : List I)
    → (hand verdict above (judge before item)).why ≡ None
    → reading judge verdict place before above (item ∷ items)
    ≡ read_first None (hand verdict above (judge before item)).parts
    (reading judge verdict place (before ++ item ∷ []) (above ++ (hand verdict above (judge before item)).parts) items)
reading-taken judge verdict place before above item items taken =
    let handed = hand verdict above (judge before item) in
    ap (λ (why : Option Why). read_first (refused_at (place before) why) handed.parts
    (reading judge verdict place (before ++ item ∷ []) (above ++ handed.parts) items)) taken

-- an item that is refused
pub reading-refused : {I P : Type 0} (judge : Judge I P) (verdict : Verdict P) (place : List I → ℕ) (before : List I) (above : List P) (item : I) (items : List I)
    (why : Why) → (hand verdict above (judge before item)).why ≡ Some why
    → reading judge verdict place before above (item ∷ items)
    ≡ record { parts = (hand verdict above (judge before item)).parts; refusal = Some (record { place = place before; why = why }) }
reading-refused judge verdict place before above item items why refused =
    let handed = hand verdict above (judge before item) in
    ap (λ (why : Option Why). read_first (refused_at (place before) why) handed.parts
    (reading judge verdict place (before ++ item ∷ []) (above ++ handed.parts) items)) refused

-- the same after an item, refused or not
reading-append-item : {I P : Type 0} (judge : Judge I P) (verdict : Verdict P) (place : List I → ℕ) (before : List I) (above : List P) (item : I) (first second : List I)
    (parts : List P) (refusal : Option Refusal)
    → reading judge verdict place (before ++ item ∷ []) (above ++ parts) (first ++ second)
    ≡ read_first (reading judge verdict place (before ++ item ∷ []) (above ++ parts) first).refusal
    (reading judge verdict place (before ++ item ∷ []) (above ++ parts) first).parts
    (reading judge verdict place ((before ++ item ∷ []) ++ first) ((above ++ parts) ++ (reading judge verdict place (before ++ item ∷ []) (above ++ parts) first).parts) second)
    → read_first refusal parts (reading judge verdict place (before ++ item ∷ []) (above ++ parts) (first ++ second))
    ≡ read_first (read_first refusal parts (reading judge verdict place (before ++ item ∷ []) (above ++ parts) first)).refusal
    (read_first refusal parts (reading judge verdict place (before ++ item ∷ []) (above ++ parts) first)).parts
    (reading judge verdict place (before ++ item ∷ first) (above ++ (read_first refusal parts (reading judge verdict place (before ++ item ∷ []) (above ++ parts) first)).parts) second)
reading-append-item judge verdict place before above item first second parts (Some refusal) same = refl
reading-append-item judge verdict place before above item first second parts None same =
    let one = reading judge verdict place (before ++ item ∷ []) (above ++ parts) first in
    ap (λ r. read_first None parts r) same
    ∙ read_first-behind parts one.parts one.refusal _
    ∙ ap (λ items. read_first one.refusal (parts ++ one.parts) (reading judge verdict place items ((above ++ parts) ++ one.parts) second)) (append_assoc before (item ∷ []) first)
    ∙ ap (λ ps. read_first one.refusal (parts ++ one.parts) (reading judge verdict place (before ++ item ∷ first) ps second)) (append_assoc above parts one.parts)

-- two pieces are read as one
pub reading-append : {I P : Type 0} (judge : Judge I P) (verdict : Verdict P) (place : List I → ℕ) (before : List I) (above : List P) (first second : List I)
    → reading judge verdict place before above (first ++ second)
    ≡ read_first (reading judge verdict place before above first).refusal (reading judge verdict place before above first).parts
    (reading judge verdict place (before ++ first) (above ++ (reading judge verdict place before above first).parts) second)
reading-append judge verdict place before above [] second =
    ap (λ items. reading judge verdict place items above second) (sym (append-nil before))
    ∙ ap (λ parts. reading judge verdict place (before ++ []) parts second) (sym (append-nil above))
reading-append judge verdict place before above (item ∷ first) second =
    let handed = hand verdict above (judge before item) in
    reading-append-item judge verdict place before above item first second handed.parts (refused_at (place before) handed.why)
    (reading-append judge verdict place (before ++ item ∷ []) (above ++ handed.parts) first second)

-- the first item is the refused one
HasRefused-here : {I P : Type 0} (judge : Judge I P) (verdict : Verdict P) (place : List I → ℕ) (before : List I) (above : List P) (item : I) (items : List I)
    (refusal : Refusal) (why : Why) → (hand verdict above (judge before item)).why ≡ Some why
    → (reading judge verdict place before above (item ∷ items)).refusal ≡ Some refusal
    → HasRefused judge verdict place before above (item ∷ items) refusal
HasRefused-here judge verdict place before above item items refusal why here refused =
    let read = ap (λ (r : Reading _). r.refusal) (reading-refused judge verdict place before above item items why here) in
    let is : Some (record { place = place before; why = why }) ≡ Some refusal = sym read ∙ refused in
    let made : record { place = place before; why = why } ≡ refusal = cc in
    let none = append-nil before in record {
      taken = [];
      item = item;
      rest = items;
      spelled = refl;
      unrefused = refl;
      place_is = ap (λ (r : Refusal). r.place) (sym made) ∙ ap place (sym none);
      why_is = ap (λ parts. (hand verdict parts (judge (before ++ []) item)).why) (append-nil above)
          ∙ ap (λ items. (hand verdict above (judge items item)).why) none ∙ here ∙ ap (λ (r : Refusal). Some r.why) made;
    }

-- the refused item comes later
HasRefused-later : {I P : Type 0} (judge : Judge I P) (verdict : Verdict P) (place : List I → ℕ) (before : List I) (above : List P) (item : I) (items : List I)
    (refusal : Refusal) → (hand verdict above (judge before item)).why ≡ None
    → HasRefused judge verdict place (before ++ item ∷ []) (above ++ (hand verdict above (judge before item)).parts) items refusal
    → HasRefused judge verdict place before above (item ∷ items) refusal
HasRefused-later judge verdict place before above item items refusal none has =
    let handed = hand verdict above (judge before item) in
    let one = reading judge verdict place (before ++ item ∷ []) (above ++ handed.parts) has.taken in
    let read = reading-taken judge verdict place before above item has.taken none in
    let done = append_assoc before (item ∷ []) has.taken in record {
      taken = item ∷ has.taken;
      item = has.item;
      rest = has.rest;
      spelled = ap (λ is. item ∷ is) has.spelled;
      unrefused = ap (λ (r : Reading _). r.refusal) read ∙ has.unrefused;
      place_is = has.place_is ∙ ap place done;
      why_is = ap (λ (r : Reading _). (hand verdict (above ++ r.parts) (judge (before ++ item ∷ has.taken) has.item)).why) read
          ∙ ap (λ parts. (hand verdict parts (judge (before ++ item ∷ has.taken) has.item)).why) (sym (append_assoc above handed.parts one.parts))
          ∙ ap (λ is. (hand verdict ((above ++ handed.parts) ++ one.parts) (judge is has.item)).why) (sym done) ∙ has.why_is;
    }

-- items are refused at the first refused one
pub HasRefused-from : {I P : Type 0} (judge : Judge I P) (verdict : Verdict P) (place : List I → ℕ) (before : List I) (above : List P) (items : List I)
    (refusal : Refusal) → (reading judge verdict place before above items).refusal ≡ Some refusal
    → HasRefused judge verdict place before above items refusal
HasRefused-from judge verdict place before above [] refusal refused = absurd cc
HasRefused-from judge verdict place before above (item ∷ items) refusal refused =
    let handed = hand verdict above (judge before item) in
    let more = HasRefused-from judge verdict place (before ++ item ∷ []) (above ++ handed.parts) items refusal in
    let cases : (why : Option Why) → handed.why ≡ why → HasRefused judge verdict place before above (item ∷ items) refusal = elim [
      | None ↦ λ none. HasRefused-later judge verdict place before above item items refusal none
          (more (sym (ap (λ (r : Reading _). r.refusal) (reading-taken judge verdict place before above item items none)) ∙ refused))
      | Some why ↦ λ here. HasRefused-here judge verdict place before above item items refusal why here refused
    ] in cases _ refl
