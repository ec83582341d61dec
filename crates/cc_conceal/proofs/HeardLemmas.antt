-- The frames since the last jump, when one more comes.
use Rattle.std.proofs.Common.{◌≡◌, ◌∙◌, ℕ, ◌+◌, ◌-◌, ◌*◌, ◌<◌, ◌≤◌, arith, ◌%◌, ◌==◌, not, Bool, true, false, if◌then◌else◌, List, [], ◌∷◌, ◌++◌, reverse, Option, Some, None, refl, sym, ap}
use Rattle.std.proofs.lemmas.List.{reverse-append, reverse-reverse}
use Rattle.cdp_packets.specs.Packets.{Frame}
use Rattle.cc_conceal.specs.Concealed.{distance, frame_number_behind, goes_on, heard_back, heard_of, missing_before, number_of_last}
use Rattle.cc_conceal.specs.Concealers.{IsLastCounter, jumps_from, kept_at, next_missing, next_number}

-- the newest of frames
pub turned : (frames : List Frame) (next : Frame) → reverse (frames ++ next ∷ []) ≡ next ∷ reverse frames
turned frames next = reverse-append frames (next ∷ [])

-- there is none, and it is the last
pub no_last : (xs : List Frame) (x : Frame) → [] ≡ xs ++ x ∷ [] → ⊥
no_last [] x is = cc
no_last (y ∷ xs) x is = cc

pub lasts_are : (xs ys : List Frame) (x y : Frame) → xs ++ x ∷ [] ≡ ys ++ y ∷ [] → (xs ≡ ys) × (x ≡ y)
lasts_are [] [] x y is = (refl, cc)
lasts_are [] (b ∷ ys) x y is = absurd (no_last ys y (let rest : [] ≡ ys ++ y ∷ [] = cc in rest))
lasts_are (a ∷ xs) [] x y is = absurd (no_last xs x (let rest : [] ≡ xs ++ x ∷ [] = cc in rest))
lasts_are (a ∷ xs) (b ∷ ys) x y is =
    let first : a ≡ b = cc in
    let rest : xs ++ x ∷ [] ≡ ys ++ y ∷ [] = cc in
    let w = lasts_are xs ys x y rest in
    (ap (λ (c : Frame). c ∷ xs) first ∙ ap (λ (l : List Frame). b ∷ l) w.0, w.1)

-- one more
pub heard_more : (frames : List Frame) (counter : Option ℕ) (next : Frame) → IsLastCounter frames counter
    → heard_of (frames ++ next ∷ []) ≡ kept_at (jumps_from counter next.counter) (heard_of frames) ++ next ∷ []
heard_more frames None next none =
    ap (λ (l : List Frame). heard_of (l ++ next ∷ [])) none ∙ sym (ap (λ (l : List Frame). heard_of l ++ next ∷ []) none)
heard_more frames (Some counter) next (before, (last, is, same)) =
    let newest : reverse frames ≡ last ∷ reverse before = ap reverse is ∙ turned before last in
    let back : List Frame = heard_back (last ∷ reverse before) in
    ap (λ (l : List Frame). reverse (heard_back l)) (turned frames next ∙ ap (λ (l : List Frame). next ∷ l) newest)
    ∙ ap (λ (n : ℕ). reverse (next ∷ (if next.counter == (n + 1) % 65536 then back else []))) (sym same)
    ∙ at back (next.counter == (counter + 1) % 65536)
    ∙ ap (λ (l : List Frame). kept_at (not (next.counter == (counter + 1) % 65536)) (reverse (heard_back l)) ++ next ∷ []) (sym newest)
  where
    at : (back : List Frame) (b : Bool) → reverse (next ∷ (if b then back else [])) ≡ kept_at (not b) (reverse back) ++ next ∷ []
    at back true = reverse-append (next ∷ []) back
    at back false = refl

-- they are the last of the frames
front_of : (frames : List Frame) → (rest : List Frame) × (frames ≡ heard_back frames ++ rest)
front_of [] = ([], refl)
front_of (f ∷ []) = ([], refl)
front_of (f ∷ (g ∷ frames)) = at (goes_on g f) (front_of (g ∷ frames))
  where
    at : (b : Bool) → ((rest : List Frame) × (g ∷ frames ≡ heard_back (g ∷ frames) ++ rest))
        → (rest : List Frame) × (f ∷ (g ∷ frames) ≡ (f ∷ (if b then heard_back (g ∷ frames) else [])) ++ rest)
    at true w = (w.0, ap (λ (l : List Frame). f ∷ l) w.1)
    at false w = (g ∷ frames, refl)

pub heard_suffix : (frames : List Frame) → (before : List Frame) × (frames ≡ before ++ heard_of frames)
heard_suffix frames =
    let w = front_of (reverse frames) in
    (reverse w.0, sym (reverse-reverse frames) ∙ ap reverse w.1 ∙ reverse-append (heard_back (reverse frames)) w.0)

-- the number of one more frame, and how many are missing before it
number_more : (n : ℕ) (former : Frame) (fs : List Frame) (last next : Frame) (before : List Frame) → former ∷ fs ≡ before ++ last ∷ []
    → frame_number_behind n former (fs ++ next ∷ []) ≡ frame_number_behind n former fs + distance last.counter next.counter
number_more n former [] last next [] is = let same : former ≡ last = cc in ap (λ (f : Frame). n + distance f.counter next.counter) same
number_more n former [] last next (b ∷ []) is = cc
number_more n former [] last next (b ∷ (d ∷ before)) is = cc
number_more n former (f ∷ fs) last next [] is = cc
number_more n former (f ∷ fs) last next (b ∷ before) is =
    let rest : f ∷ fs ≡ before ++ last ∷ [] = cc in
    number_more (n + distance former.counter f.counter) f fs last next before rest

pub number_next_is : (frames : List Frame) (counter : Option ℕ) (next : Frame) → IsLastCounter frames counter
    → number_of_last (frames ++ next ∷ []) ≡ next_number counter (number_of_last frames) next.counter
number_next_is frames None next none = ap (λ (l : List Frame). number_of_last (l ++ next ∷ [])) none
number_next_is frames (Some counter) next (before, (last, is, same)) = at frames is
  where
    at : (fs : List Frame) → fs ≡ before ++ last ∷ [] → number_of_last (fs ++ next ∷ []) ≡ number_of_last fs + distance counter next.counter
    at [] none = absurd (no_last before last none)
    at (f ∷ fs) here =
        number_more f.counter f fs last next before here
        ∙ ap (λ (n : ℕ). frame_number_behind f.counter f fs + distance n next.counter) (sym same)

missing_more : (before : List Frame) (last next : Frame) → missing_before ((before ++ last ∷ []) ++ next ∷ []) ≡ distance last.counter next.counter - 1
missing_more [] last next = refl
missing_more (b ∷ []) last next = refl
missing_more (b ∷ (d ∷ before)) last next = two before (missing_more (d ∷ before) last next)
  where
    two : (rest : List Frame) → missing_before ((d ∷ (rest ++ last ∷ [])) ++ next ∷ []) ≡ distance last.counter next.counter - 1
        → missing_before ((b ∷ (d ∷ (rest ++ last ∷ []))) ++ next ∷ []) ≡ distance last.counter next.counter - 1
    two [] so = so
    two (e ∷ rest) so = so

pub missing_next_is : (frames : List Frame) (counter : Option ℕ) (next : Frame) → IsLastCounter frames counter
    → missing_before (frames ++ next ∷ []) ≡ next_missing counter next.counter
missing_next_is frames None next none = ap (λ (l : List Frame). missing_before (l ++ next ∷ [])) none
missing_next_is frames (Some counter) next (before, (last, is, same)) =
    ap (λ (l : List Frame). missing_before (l ++ next ∷ [])) is ∙ missing_more before last next ∙ ap (λ (n : ℕ). distance n next.counter - 1) (sym same)

-- it grows by 65,536 at most
pub number_small : (counter : Option ℕ) (number next n : ℕ) → next < 65536 → number ≤ 65536 * n → next_number counter number next ≤ 65536 * (n + 1)
number_small None number next n low so = omega arith
number_small (Some former) number next n low so = at ((next + 65536 - former) % 65536 == 0)
  where
    d : ℕ
    d = (next + 65536 - former) % 65536

    at : (b : Bool) → number + (if b then 65536 else (next + 65536 - former) % 65536) ≤ 65536 * (n + 1)
    at true = omega arith
    at false = omega arith
