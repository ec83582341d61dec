-- A list with its shares in ascending order of their services is in form where the list is.
use Rattle.std.proofs.Common.{◌≡◌, ◌≢◌, ℕ, suc, ◌+◌, ◌≤◌, ◌==◌, Bool, true, false, List, [], ◌∷◌, ◌++◌, length, All, AllPairs, Option, Some, None, refl, ◌∙◌, arith, eqb-true, ◌||◌, eq-eqb, sym, ap}
use Rattle.std.specs.Prelude.{find, flat_map, option_map, option_to_list, if◌then◌else◌}
use Rattle.std.proofs.lemmas.List.Elements.{All-cons, All-head, All-nil, All-tail}
use Rattle.std.proofs.lemmas.List.Kept.{AllPairs-cons}
use Rattle.std.proofs.lemmas.List.Sums.{sum_by-append, sum_by-cons}
use Rattle.std.specs.List.{list_any}
use Rattle.cue_form.specs.Printing.{in_order, share_list}
use Rattle.cue_types.specs.Listing.{IsFormed, Listing, share_of}
use Rattle.cue_types.specs.Shares.{IsShare, shares_taken}
use Rattle.cue_types.specs.declared.list.Share.{Share}
use Rattle.cue_form.proofs.Passing.{on_test, passed}

-- the share of a service, from a list of shares
abbrev of_service : List Share → ℕ → List Share
of_service shares service = option_to_list (option_map (λ bytes. record { service = service; bytes = bytes }) (option_map (λ (share : Share). share.bytes) (find (λ (share : Share). share.service == service) shares)))

-- the bytes of a service's share, with its header
abbrev taken : List Share → ℕ → ℕ
taken shares service = shares_taken (of_service shares service)

-- one share more takes no more than its bytes, of its own service alone
one_more : (share : Share) (shares : List Share) (service : ℕ) → taken (share ∷ shares) service ≤ (if share.service == service then share.bytes + 1 else 0) + taken shares service
one_more share shares service = by_test (share.service == service)
  where
    by_test : (b : Bool) → shares_taken (option_to_list (option_map (λ bytes. record { service = service; bytes = bytes }) (option_map (λ (s : Share). s.bytes) (if b then Some share else find (λ (s : Share). s.service == service) shares))))
        ≤ (if b then share.bytes + 1 else 0) + taken shares service
    by_test true = omega arith
    by_test false = omega arith

-- of six services, one at most is a share's own
own_once : (n amount : ℕ) → (if n == 1 then amount else 0) + (if n == 2 then amount else 0) + (if n == 3 then amount else 0) + (if n == 4 then amount else 0) + (if n == 5 then amount else 0) + (if n == 6 then amount else 0) ≤ amount
own_once n amount =
    on_test _ (n == 1) (λ f. on_test _ (n == 2) (λ g. on_test _ (n == 3) (λ h. on_test _ (n == 4) (λ i. on_test _ (n == 5) (λ j. on_test _ (n == 6)
    (λ k. rw (f, g, h, i, j, k) (omega arith))
    (λ k. rw (f, g, h, i, j, k) (omega arith)))
    (λ j. let is = eqb-true n 5 j in rw is (omega arith)))
    (λ i. let is = eqb-true n 4 i in rw is (omega arith)))
    (λ h. let is = eqb-true n 3 h in rw is (omega arith)))
    (λ g. let is = eqb-true n 2 g in rw is (omega arith)))
    (λ f. let is = eqb-true n 1 f in rw is (omega arith))

-- six services take no more than all shares
six_take : (shares : List Share) → taken shares 1 + taken shares 2 + taken shares 3 + taken shares 4 + taken shares 5 + taken shares 6 ≤ shares_taken shares
six_take [] = omega arith
six_take (share ∷ shares) =
    let rest = six_take shares in
    let whole = sum_by-cons (λ (s : Share). s.bytes + 1) share shares in
    let own = own_once share.service (share.bytes + 1) in
    omega (arith, rest, whole, own, one_more share shares 1, one_more share shares 2, one_more share shares 3, one_more share shares 4, one_more share shares 5, one_more share shares 6)

-- services in ascending order, from a lowest one on
abbrev Rises : ℕ → List ℕ → Type 0
Rises low [] = Unit {0}
Rises low (service ∷ services) = (low ≤ service) × Rises (suc service) services

-- the shares of these services
abbrev of_services : List Share → List ℕ → List Share
of_services shares services = flat_map (of_service shares) services

-- what each share of a service is
found_is : (shares : List Share) (service : ℕ) (o : Option Share) → find (λ (share : Share). share.service == service) shares ≡ o → All IsShare shares
    → (share : Share) → o ≡ Some share → IsShare share × (share.service ≡ service)
found_is [] service o is each share found = let q = is ∙ found in cc
found_is (first ∷ shares) service o is each share found =
    on_test _ (first.service == service)
    (λ other. found_is shares service o (rw other at is) (All-tail IsShare first shares each) share found)
    (λ same. let q = (rw same at is) ∙ found in let one : first ≡ share = cc in
    rw (← one) (All-head IsShare first shares each, eqb-true first.service service same))

of_service_is : (shares : List Share) (service : ℕ) (o : Option Share) → find (λ (share : Share). share.service == service) shares ≡ o → All IsShare shares
    → All (λ (share : Share). IsShare share × (share.service ≡ service)) (option_to_list (option_map (λ bytes. record { service = service; bytes = bytes }) (option_map (λ (share : Share). share.bytes) o)))
of_service_is shares service None is each = All-nil (λ (share : Share). IsShare share × (share.service ≡ service))
of_service_is shares service (Some share) is each =
    let (formed, own) = found_is shares service (Some share) is each share refl in
    All-cons (λ (share : Share). IsShare share × (share.service ≡ service)) (record { service = service; bytes = share.bytes }) []
    (record { service = rw own at formed.service; bytes = formed.bytes }, refl) (All-nil (λ (share : Share). IsShare share × (share.service ≡ service)))

-- a service has one share at most
abbrev share_found : ℕ → Option Share → List Share
share_found service o = option_to_list (option_map (λ bytes. record { service = service; bytes = bytes }) (option_map (λ (share : Share). share.bytes) o))

one_at_most : (service : ℕ) (o : Option Share) → length (share_found service o) ≤ 1
one_at_most service None = omega arith
one_at_most service (Some share) = omega arith

services_are : (shares : List Share) (services : List ℕ) (low : ℕ) → Rises low services → All IsShare shares
    → All IsShare (of_services shares services) × All (λ (share : Share). low ≤ share.service) (of_services shares services)
    × AllPairs (λ (a b : Share). a.service ≢ b.service) (of_services shares services)
services_are shares [] low rises each = (All-nil IsShare, All-nil (λ (share : Share). low ≤ share.service), λ i j d h k. absurd (omega arith))
services_are shares (service ∷ services) low rises each =
    let rest = services_are shares services (suc service) rises.1 each in
    joined (of_service shares service) (of_service_is shares service (find (λ (share : Share). share.service == service) shares) refl each) (one_at_most service (find (λ (share : Share). share.service == service) shares)) rest
  where
    joined : (own : List Share) → All (λ (share : Share). IsShare share × (share.service ≡ service)) own → length own ≤ 1
        → All IsShare (of_services shares services) × All (λ (share : Share). suc service ≤ share.service) (of_services shares services) × AllPairs (λ (a b : Share). a.service ≢ b.service) (of_services shares services)
        → All IsShare (own ++ of_services shares services) × All (λ (share : Share). low ≤ share.service) (own ++ of_services shares services)
        × AllPairs (λ (a b : Share). a.service ≢ b.service) (own ++ of_services shares services)
    joined [] is few rest = (rest.0, (λ k d within. let above = rest.1 k d within in let from = rises.0 in omega arith), rest.2)
    joined (x ∷ (y ∷ more)) is few rest = absurd (omega arith)
    joined (x ∷ []) is few rest =
        let (formed, own) = All-head (λ (share : Share). IsShare share × (share.service ≡ service)) x [] is in
        let others = of_services shares services in (
          All-cons IsShare x others formed rest.0,
          All-cons (λ (share : Share). low ≤ share.service) x others (let from = rises.0 in omega arith) (λ k d within. let above = rest.1 k d within in let from = rises.0 in omega arith),
          AllPairs-cons (λ (a b : Share). a.service ≢ b.service) x others (λ k d within same. let above = rest.1 k d within in absurd (omega (arith, above, same, own))) rest.2,
        )

-- what they take together
in_order_takes : (shares : List Share) → shares_taken (of_services shares (1 ∷ 2 ∷ 3 ∷ 4 ∷ 5 ∷ 6 ∷ []))
    ≡ taken shares 1 + taken shares 2 + taken shares 3 + taken shares 4 + taken shares 5 + taken shares 6
in_order_takes shares =
    let a = sum_by-append (λ (s : Share). s.bytes + 1) (of_service shares 1) (of_services shares (2 ∷ 3 ∷ 4 ∷ 5 ∷ 6 ∷ [])) in
    let b = sum_by-append (λ (s : Share). s.bytes + 1) (of_service shares 2) (of_services shares (3 ∷ 4 ∷ 5 ∷ 6 ∷ [])) in
    let c = sum_by-append (λ (s : Share). s.bytes + 1) (of_service shares 3) (of_services shares (4 ∷ 5 ∷ 6 ∷ [])) in
    let d = sum_by-append (λ (s : Share). s.bytes + 1) (of_service shares 4) (of_services shares (5 ∷ 6 ∷ [])) in
    let e = sum_by-append (λ (s : Share). s.bytes + 1) (of_service shares 5) (of_services shares (6 ∷ [])) in
    let g = sum_by-append (λ (s : Share). s.bytes + 1) (of_service shares 6) [] in
    omega (arith, a, b, c, d, e, g)

-- a list with its shares in order is in form
pub in_order_formed : (l : Listing) → IsFormed l → IsFormed (in_order l)
in_order_formed l formed =
    let six : Rises 1 (1 ∷ 2 ∷ 3 ∷ 4 ∷ 5 ∷ 6 ∷ []) = (omega arith, (omega arith, (omega arith, (omega arith, (omega arith, (omega arith, tt)))))) in
    let are = services_are l.shares (1 ∷ 2 ∷ 3 ∷ 4 ∷ 5 ∷ 6 ∷ []) 1 six formed.shares.each in
    record {
      rate = formed.rate;
      some = formed.some;
      frames = formed.frames;
      shares = record { each = are.0; once = are.2; fits = let fits = formed.shares.fits in let all = in_order_takes l.shares in omega (arith, fits, all, six_take l.shares) };
      few = formed.few;
      cues = formed.cues;
    }

-- a service of which there can be a share
in_six : (service : ℕ) → 1 ≤ service → service ≤ 6 → list_any (λ k. k == service) (1 ∷ 2 ∷ 3 ∷ 4 ∷ 5 ∷ 6 ∷ []) ≡ true
in_six service from upto =
    passed (list_any (λ k. k == service) (1 ∷ 2 ∷ 3 ∷ 4 ∷ 5 ∷ 6 ∷ []))
    (λ none.
    let a = neither_of (1 == service) _ none in
    let b = neither_of (2 == service) _ a.1 in
    let c = neither_of (3 == service) _ b.1 in
    let d = neither_of (4 == service) _ c.1 in
    let e = neither_of (5 == service) _ d.1 in
    let f = neither_of (6 == service) _ e.1 in
    let one = differs 1 service a.0 in
    let two = differs 2 service b.0 in
    let three = differs 3 service c.0 in
    let four = differs 4 service d.0 in
    let five = differs 5 service e.0 in
    let six = differs 6 service f.0 in
    omega (arith, one, two, three, four, five, six))
  where
    neither_of : (a b : Bool) → (a || b) ≡ false → (a ≡ false) × (b ≡ false)
    neither_of true b none = cc
    neither_of false b none = (refl, none)

    differs : (a b : ℕ) → (a == b) ≡ false → a ≢ b
    differs a b other same = let q = eq-eqb a b same in cc

-- the share of a service, from the shares of some services
share_among : (l : Listing) (service : ℕ) (services : List ℕ)
    → option_map (λ (share : Share). share.bytes) (find (λ (share : Share). share.service == service) (flat_map (share_list l) services))
    ≡ (if list_any (λ k. k == service) services then share_of l service else None)
share_among l service [] = refl
share_among l service (k ∷ services) = by_share (share_of l k) refl (share_among l service services)
  where
    among : List Share → Option ℕ
    among shares = option_map (λ (share : Share). share.bytes) (find (λ (share : Share). share.service == service) shares)

    of_none : (b d : Bool) → (k == service) ≡ b → share_of l k ≡ None → (o : Option ℕ) → share_of l service ≡ o
        → (if d then o else None) ≡ (if b || d then o else None)
    of_none false d other none o is = refl
    of_none true true same none o is = refl
    of_none true false same none o is = sym (sym is ∙ ap (share_of l) (sym (eqb-true k service same)) ∙ none)

    by_share : (o : Option ℕ) → share_of l k ≡ o
        → among (flat_map (share_list l) services) ≡ (if list_any (λ i. i == service) services then share_of l service else None)
        → among (option_to_list (option_map (λ bytes. record { service = k; bytes = bytes }) o) ++ flat_map (share_list l) services)
        ≡ (if (k == service) || list_any (λ i. i == service) services then share_of l service else None)
    by_share None is rest = rest ∙ of_none (k == service) (list_any (λ i. i == service) services) refl is (share_of l service) refl
    by_share (Some bytes) is rest =
        on_test _ (k == service)
        (λ other. rw other rest)
        (λ same. rw same (sym is ∙ ap (share_of l) (eqb-true k service same)))

either_way : (b : Bool) (o : Option ℕ) → (if b then o else o) ≡ o
either_way true o = refl
either_way false o = refl

-- a service has the share that it had
pub same_share : (l : Listing) → IsFormed l → (service : ℕ) → share_of (in_order l) service ≡ share_of l service
same_share l formed service =
    share_among l service (1 ∷ 2 ∷ 3 ∷ 4 ∷ 5 ∷ 6 ∷ [])
    ∙ by_share (find (λ (share : Share). share.service == service) l.shares) refl
  where
    by_share : (o : Option Share) → find (λ (share : Share). share.service == service) l.shares ≡ o
        → (if list_any (λ k. k == service) (1 ∷ 2 ∷ 3 ∷ 4 ∷ 5 ∷ 6 ∷ []) then option_map (λ (share : Share). share.bytes) o else None) ≡ option_map (λ (share : Share). share.bytes) o
    by_share None is = either_way (list_any (λ k. k == service) (1 ∷ 2 ∷ 3 ∷ 4 ∷ 5 ∷ 6 ∷ [])) None
    by_share (Some share) is =
        let found = found_is l.shares service (Some share) is formed.shares.each share refl in
        let its : (1 ≤ share.service) × (share.service ≤ 6) = found.0.service in
        let own : share.service ≡ service = found.1 in
        rw (in_six service (omega (arith, its, own)) (omega (arith, its, own))) refl
