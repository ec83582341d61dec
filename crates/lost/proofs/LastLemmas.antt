-- Of frames that came in order, each has a last one that is lost before it, or none is; and that is the greatest one below it that did not come.
use Rattle.std.proofs.Common.{◌≡◌, ◌∙◌, ℕ, zero, suc, ◌+◌, ◌-◌, ◌<◌, ◌==◌, ◌⊎◌, inl, inr, Bool, true, false, List, [], ◌∷◌, ◌++◌, refl, ap, arith, ◌≤◌, Contains, ⊎_elim, sym, subst}
use Rattle.std.specs.List.{range_with_len}
use Rattle.std.proofs.lemmas.Bool.{cases_lt}
use Rattle.std.proofs.lemmas.Bool.Decides.{nat_tests}
use Rattle.std.proofs.lemmas.List.Elements.{All-contains, All-from_recursion, Contains-append_cases, Contains-append_right}
use Rattle.std.proofs.lemmas.List.FromFn.{get_or-range_with_len, length-range_with_len}
use Rattle.lost.specs.Delivered.{AreDelivered, GreatestIsLastLost, IsLastLost, LastLostIsFound, NoneIsLost}

-- they are all from one up to another
record IsRow (k frame : ℕ) (came : List ℕ) : Type 0 where
  count : ℕ
  is : came ≡ range_with_len k (suc count)
  up_to : k + count ≡ frame

-- or the last lost one is after the first of them
record IsBroken (k frame : ℕ) (came : List ℕ) : Type 0 where
  lost : ℕ
  above : k < lost
  last : IsLastLost came lost frame

-- one frame in front
in_front : (k l frame : ℕ) (ls : List ℕ) → k < l → IsRow l frame (l ∷ ls) ⊎ IsBroken l frame (l ∷ ls)
    → IsRow k frame (k ∷ l ∷ ls) ⊎ IsBroken k frame (k ∷ l ∷ ls)
in_front k l frame ls less (inr broken) =
    let above = broken.above in
    let low : k < broken.lost = omega arith in
    inr (record {
      lost = broken.lost;
      above = low;
      last = record {
        before = k ∷ broken.last.before;
        earlier = (low, broken.last.earlier);
        count = broken.last.count;
        since = ap (λ (rest : List ℕ). k ∷ rest) broken.last.since;
        up_to = broken.last.up_to;
      };
    })
in_front k l frame ls less (inl row) = by_test (l == k + 1) refl
  where
    by_test : (b : Bool) → (l == k + 1) ≡ b → IsRow k frame (k ∷ l ∷ ls) ⊎ IsBroken k frame (k ∷ l ∷ ls)
    by_test true test =
        let next : l ≡ k + 1 = grind (arith, nat_tests) in
        let up_to = row.up_to in
        inl (record {
          count = suc row.count;
          is = ap (λ (rest : List ℕ). k ∷ rest) (row.is ∙ ap (λ (n : ℕ). range_with_len n (suc row.count)) next);
          up_to = omega arith;
        })
    by_test false test =
        let far : k + 1 < l = grind (arith, nat_tests) in
        let here : l ≡ suc (l - 1) = omega arith in
        let up_to = row.up_to in
        inr (record {
          lost = l - 1;
          above = omega arith;
          last = record {
            before = k ∷ [];
            earlier = (omega arith, tt);
            count = row.count;
            since = ap (λ (rest : List ℕ). k ∷ rest) (row.is ∙ ap (λ (n : ℕ). range_with_len n (suc row.count)) here);
            up_to = omega arith;
          };
        })

-- so of many
rows : (k : ℕ) (earlier : List ℕ) (frame : ℕ) → AreDelivered ((k ∷ earlier) ++ frame ∷ [])
    → IsRow k frame ((k ∷ earlier) ++ frame ∷ []) ⊎ IsBroken k frame ((k ∷ earlier) ++ frame ∷ [])
rows k [] frame delivered =
    in_front k frame frame [] delivered.0 (inl (record { count = 0; is = refl; up_to = omega arith }))
rows k (l ∷ earlier) frame delivered = in_front k l frame (earlier ++ frame ∷ []) delivered.0 (rows l earlier frame delivered.2)

-- a row that begins at frame 0 misses none, and another one all before it
found : (k frame : ℕ) (came : List ℕ) → IsRow k frame came ⊎ IsBroken k frame came → NoneIsLost came frame ⊎ ((lost : ℕ) × IsLastLost came lost frame)
found k frame came (inr broken) = inr (broken.lost, broken.last)
found zero frame came (inl row) =
    let up_to = row.up_to in
    let count : row.count ≡ frame = omega arith in
    inl (row.is ∙ ap (λ (n : ℕ). range_with_len 0 (suc n)) count)
found (suc lost) frame came (inl row) =
    inr (lost, record { before = []; earlier = tt; count = row.count; since = row.is; up_to = row.up_to })

pub last_lost_found : LastLostIsFound
last_lost_found [] frame delivered =
    found frame frame (frame ∷ []) (inl (record { count = 0; is = refl; up_to = omega arith }))
last_lost_found (k ∷ earlier) frame delivered = found k frame ((k ∷ earlier) ++ frame ∷ []) (rows k earlier frame delivered)

-- what frames in a row are
row_has : (a n k : ℕ) → a ≤ k → k < a + n → Contains (range_with_len a n) k
row_has a n k from to =
    let long = length-range_with_len a n in
    let at : a + (k - a) ≡ k = omega arith in
    (k - a, omega arith, get_or-range_with_len a n (k - a) k (omega arith) ∙ at)

row_from : (a n k : ℕ) → Contains (range_with_len a n) k → a ≤ k
row_from a n k (i, below, is) =
    let long = length-range_with_len a n in
    let at : k ≡ a + i = sym is ∙ get_or-range_with_len a n i k (omega arith) in
    omega arith

-- the last lost frame didn't come
none_there : (came : List ℕ) (lost frame : ℕ) → IsLastLost came lost frame → Contains came lost → ⊥
none_there came lost frame last has = at (Contains-append_cases last.before (range_with_len (suc lost) (suc last.count)) lost (subst (λ (ks : List ℕ). Contains ks lost) last.since has))
  where
    at : Contains last.before lost ⊎ Contains (range_with_len (suc lost) (suc last.count)) lost → ⊥
    at (inl early) =
        let low : lost < lost = All-contains (λ (k : ℕ). k < lost) last.before lost (All-from_recursion (λ (k : ℕ). k < lost) last.before last.earlier) early in
        absurd (omega arith)
    at (inr late) =
        let low : suc lost ≤ lost = row_from (suc lost) (suc last.count) lost late in
        absurd (omega arith)

-- and each after it did
all_there : (came : List ℕ) (lost frame k : ℕ) → IsLastLost came lost frame → lost < k → k ≤ frame → Contains came k
all_there came lost frame k last above to =
    let up_to = last.up_to in
    subst (λ (ks : List ℕ). Contains ks k) (sym last.since)
    (Contains-append_right last.before (range_with_len (suc lost) (suc last.count)) k (row_has (suc lost) (suc last.count) k (omega arith) (omega arith)))

pub greatest_last : GreatestIsLastLost
greatest_last earlier frame lost delivered below missing since = at (last_lost_found earlier frame delivered)
  where
    same : (other : ℕ) → IsLastLost (earlier ++ frame ∷ []) other frame → IsLastLost (earlier ++ frame ∷ []) lost frame
    same other last =
        ⊎_elim
        (λ (less : other < lost). absurd (missing (all_there (earlier ++ frame ∷ []) other frame lost last less (omega arith))))
        (λ (from : lost ≤ other).
        ⊎_elim
        (λ (more : lost < other).
        let up_to = last.up_to in
        absurd (none_there (earlier ++ frame ∷ []) other frame last (since other more (omega arith))))
        (λ (to : other ≤ lost). let is : other ≡ lost = omega arith in subst (λ n. IsLastLost (earlier ++ frame ∷ []) n frame) is last)
        (cases_lt lost other))
        (cases_lt other lost)

    at : NoneIsLost (earlier ++ frame ∷ []) frame ⊎ ((other : ℕ) × IsLastLost (earlier ++ frame ∷ []) other frame) → IsLastLost (earlier ++ frame ∷ []) lost frame
    at (inl none) = absurd (missing (subst (λ (ks : List ℕ). Contains ks lost) (sym none) (row_has 0 (suc frame) lost (omega arith) (omega arith))))
    at (inr (other, last)) = same other last
