-- Pieces of bytes, one after another.
use Rattle.std.proofs.Common.{◌≡◌, ◌∙◌, ◌++◌, sym, ◌≤◌, ◌+◌, ◌-◌, ℕ, List, length, take, drop, Option, arith}
use Rattle.std.specs.Io.KnownBytes.{Appends}
use Rattle.std.proofs.KnownBytes.{Appends-trans}
use Rattle.std.proofs.Math.Seq.{take-add, take-append_seam}
use Rattle.std.proofs.lemmas.List.{drop-drop, length-drop, length-take, take-append-drop, take_all}

-- the first at bytes, and then the first n of the rest
pub appends_next : (a b c : Option (List ℕ)) (at n : ℕ) (bs : List ℕ) → Appends a b (take at bs)
    → Appends b c (take n (take (length bs - at) (drop at bs))) → Appends a c (take (at + n) bs)
appends_next a b c at n bs first next =
    let size = length-drop at bs in
    let whole : take (length bs - at) (drop at bs) ≡ drop at bs = take_all _ _ (omega arith) in
    rw (take-add at n bs) (Appends-trans a b c (take at bs) (take n (drop at bs)) first (rw whole at next))

-- a copy of the first n bytes from `at` on, at the front of a buffer
pub copied : (at n : ℕ) (xs front back : List ℕ) → front ≡ take n (take (length xs - at) (drop at xs)) → n + at ≤ length xs
    → drop at xs ≡ take n (front ++ back) ++ drop (at + n) xs
copied at n xs front back is fits =
    let left = length-drop at xs in
    let whole : take (length xs - at) (drop at xs) ≡ drop at xs = take_all _ _ (omega arith) in
    let same : front ≡ take n (drop at xs) = rw whole at is in
    let size : length front ≡ n = rw same (length-take n (drop at xs) ∙ (omega arith)) in
    let seam : take n (front ++ back) ≡ front = rw (← size) (take-append_seam front back) in
    rw (seam, same, ← drop-drop n at xs) (sym (take-append-drop n (drop at xs)))
