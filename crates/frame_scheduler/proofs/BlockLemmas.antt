-- The blocks of a frame, lane by lane.
use Rattle.std.proofs.Common.{◌≡◌, ◌∙◌, ℕ, zero, suc, ◌+◌, ◌<◌, ◌≤◌, List, [], ◌∷◌, ◌++◌, refl, sym, ap, subst, arith, length, map, get_or, set, take, drop, append-nil}
use Rattle.std.proofs.lemmas.List.{drop_all, take-append-drop, take_all, take_more}
use Rattle.std.proofs.lemmas.List.Concat.{flat_map-append}
use Rattle.std.proofs.lemmas.List.Sums.{sum_by-cons, sum_by_push}
use Rattle.frame_scheduler.specs.Blocks.{blocks_room, lane_block, moved_on, next_blocks}
use Rattle.lanes.specs.ServicePlan.{PlannedService}

-- lanes of which the first have moved on
abbrev pub partly : ℕ → List PlannedService → List PlannedService
partly k xs = map moved_on (take k xs) ++ drop k xs

-- the next of them hasn't
pub next_of : (xs : List PlannedService) (k : ℕ) (d : PlannedService) → k < length xs → get_or (partly k xs) k d ≡ get_or xs k d
next_of [] k d within = absurd (omega arith)
next_of (x ∷ xs) zero d within = refl
next_of (x ∷ xs) (suc k) d within = next_of xs k d (omega arith)

-- it moves on
moved_next : (xs : List PlannedService) (k : ℕ) (d : PlannedService) → k < length xs
    → set (partly k xs) k (moved_on (get_or xs k d)) ≡ partly (suc k) xs
moved_next [] k d within = absurd (omega arith)
moved_next (x ∷ xs) zero d within = refl
moved_next (x ∷ xs) (suc k) d within = ap (λ l. moved_on x ∷ l) (moved_next xs k d (omega arith))

pub moved_one : (xs items : List PlannedService) (k : ℕ) (d new : PlannedService) → k < length xs → items ≡ partly k xs → new ≡ moved_on (get_or xs k d)
    → set items k new ≡ partly (k + 1) xs
moved_one xs items k d new within are is =
    let next : suc k ≡ k + 1 = omega arith in
    ap (λ l. set l k new) are ∙ ap (λ n. set (partly k xs) k n) is ∙ moved_next xs k d within ∙ ap (λ n. partly n xs) next

-- with the block of one more lane
pub blocks_one : (xs : List PlannedService) (k : ℕ) (d : PlannedService) → k < length xs
    → next_blocks (take (k + 1) xs) ≡ next_blocks (take k xs) ++ lane_block (get_or xs k d).frame (get_or xs k d)
blocks_one xs k d within =
    let x = get_or xs k d in
    ap next_blocks (take_more xs k d within)
    ∙ flat_map-append (λ (one : PlannedService). lane_block one.frame one) (take k xs) (x ∷ [])
    ∙ ap (λ l. next_blocks (take k xs) ++ l) (append-nil (lane_block x.frame x))

-- and with its room
pub room_one : (xs : List PlannedService) (k : ℕ) (d : PlannedService) → k < length xs
    → blocks_room (take (k + 1) xs) ≡ blocks_room (take k xs) + ((get_or xs k d).share + 1)
room_one xs k d within =
    ap blocks_room (take_more xs k d within) ∙ sum_by_push (λ (one : PlannedService). one.share + 1) (take k xs) (get_or xs k d)

room_front : (xs ys : List PlannedService) → blocks_room xs ≤ blocks_room (xs ++ ys)
room_front [] ys = omega arith
room_front (x ∷ xs) ys =
    let rest = room_front xs ys in
    let left = sum_by-cons (λ (one : PlannedService). one.share + 1) x xs in
    let right = sum_by-cons (λ (one : PlannedService). one.share + 1) x (xs ++ ys) in
    omega (arith, rest, left, right)

pub room_within : (xs : List PlannedService) (k : ℕ) → blocks_room (take k xs) ≤ blocks_room xs
room_within xs k = subst (λ l. blocks_room (take k xs) ≤ blocks_room l) (take-append-drop k xs) (room_front (take k xs) (drop k xs))

length_moved : (xs : List PlannedService) → length (map moved_on xs) ≡ length xs
length_moved [] = refl
length_moved (x ∷ xs) = ap suc (length_moved xs)

-- lanes that were lent as a slice and have all moved on
pub written_back : (xs lent new : List PlannedService) (n : ℕ) → lent ≡ xs → length lent ≡ n → new ≡ map moved_on lent
    → take n (new ++ drop (length new) xs) ≡ map moved_on xs
written_back xs lent new n are long moved =
    let count : length new ≡ n = ap length moved ∙ length_moved lent ∙ long in
    let same : length xs ≡ n = ap length (sym are) ∙ long in
    ap (λ l. take n (new ++ l)) (drop_all (length new) xs (omega (arith, count, same)))
    ∙ ap (take n) (append-nil new) ∙ take_all n new (omega (arith, count)) ∙ moved ∙ ap (map moved_on) are
