-- The column of a timeline: its length, its slots, its fronts, and that control pairs stand doubled in it.
use Rattle.std.proofs.Common.{◌≡◌, ℕ, ◌+◌, ◌%◌, ◌<◌, ◌≤◌, List, [], ◌∷◌, ◌++◌, Option, Some, None, Bool, true, false, refl, sym, ap, ◌∙◌, subst, arith, zero, suc, length, get_or, take, replicate, append_assoc, append-nil, option_map, unwrap_or, ⊎_elim}
use Rattle.std.specs.Option.{option_or}
use Rattle.std.proofs.lemmas.Bool.{cases_lt, true≢false}
use Rattle.std.proofs.lemmas.List.{length_push, get_or_append_left, get_or_push, take-append-le, take_all, take_at, get_or_at, same_from_push, replicate_more, length-append, ext_get_or}
use Rattle.std.specs.Int.Count.{ones}
use Rattle.line21_codes.specs.declared.pairs.Pair.{Pair}
use Rattle.line21_codes.specs.ControlPairs.{is_control}
use Rattle.line21_codes.specs.NullPairs.{null_pair}
use Rattle.line21_author.specs.declared.unit.Unit.{Unit}
use Rattle.lanes.specs.Timeline.{IsSpaced, Timeline, repeat_of, repeat_at, slot, column}
use Rattle.lanes.specs.DoubledPairs.{EndsWith, BeginsWith, IsDoubled}

-- a column has a slot for each frame
pub column_length : (t : Timeline) (n : ℕ) → length (column t n) ≡ n
column_length t zero = refl
column_length t (suc n) = length_push (column t n) (slot t n) ∙ (let h : length (column t n) ≡ n = column_length t n in omega arith)

-- the pairs of a column are the slots
pub column_at : (t : Timeline) (n k : ℕ) (d : Pair) → k < n → get_or (column t n) k d ≡ slot t k
column_at t zero k d h = absurd (omega arith)
column_at t (suc n) k d h =
    let long : length (column t n) ≡ n = column_length t n in
    ⊎_elim
    (λ (i : k < n). get_or_append_left (column t n) (slot t n ∷ []) d k (omega arith) ∙ column_at t n k d i)
    (λ (i : n ≤ k). let e : n ≡ k = omega arith in get_or_push (column t n) (slot t n) d k (omega arith) ∙ ap (λ m. slot t m) e)
    (cases_lt k n)

-- a list whose pairs are the slots is a column
pub column_is : (t : Timeline) (ps : List Pair) → ((k : ℕ) → k < length ps → get_or ps k null_pair ≡ slot t k) → ps ≡ column t (length ps)
column_is t ps h = ext_get_or null_pair ps (column t (length ps)) (sym (column_length t (length ps)))
    (λ k i. h k i ∙ sym (column_at t (length ps) k null_pair i))

-- the front of a column is a column
pub column_take : (t : Timeline) (n k : ℕ) → k ≤ n → take k (column t n) ≡ column t k
column_take t zero k h = let e : k ≡ 0 = omega arith in rw e refl
column_take t (suc n) k h =
    let long : length (column t n) ≡ n = column_length t n in
    ⊎_elim
    (λ (i : n < k). let e : k ≡ suc n = omega arith in
    take_all k (column t (suc n)) (omega (arith, column_length t (suc n))) ∙ ap (λ m. column t m) (sym e))
    (λ (i : k ≤ n). take-append-le k (column t n) (slot t n ∷ []) (omega arith) ∙ column_take t n k i)
    (cases_lt n k)

-- what begins is doubled exactly where it is a control pair
abbrev pub IsMarked : Timeline → Type 0
IsMarked t = (n : ℕ) (u : Unit) → t n ≡ Some u → is_control u.pair ≡ u.doubled

-- the null pair is no control pair
pub null_plain : is_control null_pair ≡ false
unfolding is_control ones
null_plain = refl

-- what is repeated is the pair of a doubled unit
repeat_pair : (u : Option Unit) (p : Pair) → repeat_of u ≡ Some p → unwrap_or (option_map (λ (v : Unit). v.pair) u) null_pair ≡ p
repeat_pair None p e = cc
repeat_pair (Some v) p e = go v.doubled refl
  where
    go : (b : Bool) → v.doubled ≡ b → v.pair ≡ p
    go true d = let h : Some v.pair ≡ Some p = rw d at e in cc
    go false d = let h : None ≡ Some p = rw d at e in cc

-- nothing is due in the slot in which a doubled unit begins
none_due : (t : Timeline) → IsSpaced t → (k : ℕ) (q : Pair) → repeat_of (t k) ≡ Some q → repeat_at t k ≡ None
none_due t spaced zero q e = refl
none_due t spaced (suc j) q e = go (repeat_of (t j)) refl
  where
    go : (r : Option Pair) → repeat_of (t j) ≡ r → repeat_of (t j) ≡ None
    go None is = is
    go (Some p) is =
        let none : t (suc j) ≡ None = spaced j p is in
        let f : repeat_of (t (suc j)) ≡ None = ap repeat_of none in
        let h : Some q ≡ None = sym e ∙ f in
        absurd (cc)

-- the slot in which a doubled unit begins has its pair
first_slot : (t : Timeline) → IsSpaced t → (k : ℕ) (q : Pair) → repeat_of (t k) ≡ Some q → slot t k ≡ q
first_slot t spaced k q e =
    ap (λ r. unwrap_or (option_or r (option_map (λ (v : Unit). v.pair) (t k))) null_pair) (none_due t spaced k q e) ∙ repeat_pair (t k) q e

-- a slot in which nothing is due and nothing doubled begins has no control pair
plain_slot : (t : Timeline) → IsMarked t → (n : ℕ) → repeat_at t n ≡ None → repeat_of (t n) ≡ None → is_control (slot t n) ≡ false
plain_slot t marked n due single =
    ap (λ r. is_control (unwrap_or (option_or r (option_map (λ (v : Unit). v.pair) (t n))) null_pair)) due ∙ go (t n) refl
  where
    single_is : (v : Unit) → repeat_of (Some v) ≡ None → (b : Bool) → v.doubled ≡ b → b ≡ false
    single_is v e true d = let h : Some v.pair ≡ None = rw d at e in cc
    single_is v e false d = refl

    go : (u : Option Unit) → t n ≡ u → is_control (unwrap_or (option_map (λ (v : Unit). v.pair) u) null_pair) ≡ false
    go None is = null_plain
    go (Some v) is = marked n v is ∙ single_is v (subst (λ o. repeat_of o ≡ None) is single) v.doubled refl

-- a column that ends with a stretch ends with its pair
last_of : (c before : List Pair) (x p : Pair) (n : ℕ) → c ++ x ∷ [] ≡ before ++ replicate (suc n) p → (c ≡ before ++ replicate n p) × (x ≡ p)
last_of c before x p n e =
    let more : replicate n p ++ p ∷ [] ≡ replicate (suc n) p = replicate_more n p ∙ (let i : n + 1 ≡ suc n = omega arith in ap (λ m. replicate m p) i) in
    same_from_push c (before ++ replicate n p) x p (e ∙ ap (λ l. before ++ l) (sym more) ∙ sym (append_assoc before (replicate n p) (p ∷ [])))

-- a stretch at the end of a column whose last pair is no control pair
plain_end : (c before : List Pair) (x p : Pair) (n : ℕ) → is_control x ≡ false → is_control p ≡ true → c ++ x ∷ [] ≡ before ++ replicate n p → n % 2 ≡ 0
plain_end c before x p zero plain control e = refl
plain_end c before x p (suc n) plain control e =
    let same : x ≡ p = (last_of c before x p n e).1 in
    absurd (true≢false (sym control ∙ ap is_control (sym same) ∙ plain))

-- at a frame where nothing is due, the column ends with an even number of equal control pairs
pub even_end : (t : Timeline) → IsMarked t → IsSpaced t → (m : ℕ) → repeat_at t m ≡ None → (before : List Pair) (p : Pair) (n : ℕ) → is_control p ≡ true
    → column t m ≡ before ++ replicate n p → (EndsWith before p → ⊥) → n % 2 ≡ 0
even_end t marked spaced zero due before p zero control e begins = refl
even_end t marked spaced zero due before p (suc n) control e begins =
    let long : length (before ++ replicate (suc n) p) ≡ 0 = ap length (sym e) in
    absurd (omega (arith, long, length-append before (replicate (suc n) p)))
even_end t marked spaced (suc zero) due before p n control e begins = plain_end [] before (slot t 0) p n (plain_slot t marked 0 refl due) control e
even_end t marked spaced (suc (suc k)) due before p n control e begins =
    go (repeat_of (t k)) refl (λ q is. even_end t marked spaced k (none_due t spaced k q is) before p)
  where
    pairs : (q : Pair) → repeat_of (t k) ≡ Some q → ((n : ℕ) → is_control p ≡ true → column t k ≡ before ++ replicate n p → (EndsWith before p → ⊥) → n % 2 ≡ 0)
        → (n : ℕ) → (column t k ++ q ∷ []) ++ q ∷ [] ≡ before ++ replicate n p → n % 2 ≡ 0
    pairs q is rest zero f = refl
    pairs q is rest (suc zero) f =
        let w = last_of (column t k ++ q ∷ []) before q p 0 f in
        let same : before ≡ column t k ++ p ∷ [] = sym (append-nil before) ∙ sym w.0 ∙ ap (λ x. column t k ++ x ∷ []) w.1 in
        absurd (begins (column t k, same))
    pairs q is rest (suc (suc i)) f =
        let w = last_of (column t k ++ q ∷ []) before q p (suc i) f in
        let v = last_of (column t k) before q p i w.0 in
        let even : i % 2 ≡ 0 = rest i control v.0 begins in
        omega arith

    go : (r : Option Pair) → repeat_of (t k) ≡ r
        → ((q : Pair) → repeat_of (t k) ≡ Some q → (n : ℕ) → is_control p ≡ true → column t k ≡ before ++ replicate n p → (EndsWith before p → ⊥) → n % 2 ≡ 0)
        → n % 2 ≡ 0
    go None is rest = plain_end (column t (suc k)) before (slot t (suc k)) p n (plain_slot t marked (suc k) is due) control e
    go (Some q) is rest =
        let second : slot t (suc k) ≡ q = ap (λ r. unwrap_or (option_or r (option_map (λ (v : Unit). v.pair) (t (suc k)))) null_pair) is in
        pairs q is (rest q is) n
        (sym (ap (λ x. (column t k ++ x ∷ []) ++ q ∷ []) (first_slot t spaced k q is)) ∙ sym (ap (λ x. column t (suc k) ++ x ∷ []) second) ∙ e)

-- where nothing is due at frame n, control pairs stand doubled below it
pub column_doubled : (t : Timeline) → IsMarked t → IsSpaced t → (n : ℕ) → repeat_at t n ≡ None → IsDoubled (column t n)
column_doubled t marked spaced n due before after p k control s = go after s.splits s.ends
  where
    go : (rest : List Pair) → column t n ≡ before ++ replicate k p ++ rest → (BeginsWith rest p → ⊥) → k % 2 ≡ 0
    go [] e ends = even_end t marked spaced n due before p k control (e ∙ append-nil (before ++ replicate k p)) s.begins
    go (a ∷ rest) e ends =
        let m = length (before ++ replicate k p) in
        let long : length (column t n) ≡ m + suc (length rest) = ap length e ∙ length-append (before ++ replicate k p) (a ∷ rest) in
        let below : m < n = omega (arith, long, column_length t n) in
        let front : column t m ≡ before ++ replicate k p =
        sym (column_take t n m (omega arith)) ∙ ap (λ l. take m l) e ∙ take_at (before ++ replicate k p) (a ∷ rest) m refl in
        let next : a ≡ slot t m = sym (get_or_at (before ++ replicate k p) a rest a m refl) ∙ ap (λ l. get_or l m a) (sym e) ∙ column_at t n m a below in
        at m front next (repeat_at t m) refl
      where
        at : (m : ℕ) → column t m ≡ before ++ replicate k p → a ≡ slot t m → (r : Option Pair) → repeat_at t m ≡ r → k % 2 ≡ 0
        at m front next None is = even_end t marked spaced m is before p k control front s.begins
        at zero front next (Some q) is = cc
        at (suc i) front next (Some q) is = inside k front
          where
            second : slot t (suc i) ≡ q
            second = ap (λ r. unwrap_or (option_or r (option_map (λ (v : Unit). v.pair) (t (suc i)))) null_pair) is

            inside : (n : ℕ) → column t (suc i) ≡ before ++ replicate n p → n % 2 ≡ 0
            inside zero f = refl
            inside (suc n) f =
                let w = last_of (column t i) before (slot t i) p n f in
                let same : a ≡ p = next ∙ second ∙ sym (first_slot t spaced i q is) ∙ w.1 in
                absurd (ends (rest, ap (λ x. x ∷ rest) same))
