-- Words eight at a time, a lane each: which are 8-bit words, the words of bytes, their bytes, and their sum.
use Rattle.std.proofs.Common.{◌≡◌, ◌+◌, ◌*◌, ◌/◌, ◌%◌, ◌^◌, ◌-◌, ◌<◌, ◌≤◌, ◌==◌, ℕ, zero, suc, Bool, true, false, not, ◌&&◌, if◌then◌else◌, cond, eqb, nat_eq, nat_lt, List, [], ◌∷◌, ◌++◌, Option, None, Some, length, map, take, drop, get_or, replicate, count_ones, bit_and, bit_xor, refl, arith, ap, sym, subst, ◌∙◌, ◌↔◌, inl, inr, Fits, lit<, lit≤, append-nil, append_assoc}
use mir.Syntax.{w8, w16}
use Rattle.std.proofs.lemmas.Bool.{agree_below_at, cases_eq}
use Rattle.std.proofs.lemmas.Bool.Decides.{nat_tests}
use Rattle.std.proofs.lemmas.List.{drop-drop, length-map, map-append, take-append-drop, take_all}
use Rattle.std.proofs.lemmas.List.Concat.{flat_map-append}
use Rattle.std.proofs.lemmas.List.Elements.{All-map, recursion_from_All}
use Rattle.std.proofs.lemmas.List.Folds.{list_all-append}
use Rattle.std.proofs.lemmas.List.Sums.{sum_by-append, sum_by-cons}
use Rattle.std.proofs.lemmas.Grind.{take_at_read}
use Rattle.std.proofs.lemmas.Nat.{and_mask}
use Rattle.std.proofs.lemmas.Simd.{SwzOk, SwzOk-from_below, bitmask_splat, splat_is_map, swz_l, zip2_of_maps, zip2_splat, map-map, length-zip2, Each1-get_or, Each1-weaker}
use Rattle.std.specs.List.{All, AllByRecursion, flat_map, list_all, sum}
use Rattle.std.specs.Simd.{first_chunks}
use lib.Dec.{leb}
use lib.Lanes.{Each1, digits_l, number_l, zip2, fold_l, mask_l, sum_l, top}
use Rattle.anc_words.specs.CaptionWords.{AreRight, word_of}
use Rattle.anc_words.specs.Reading.{is_eight_bit}
use Rattle.anc_words.specs.Writing.{eight_bit_word, nine_bit_word, word_bytes}

-- numbers that are tested to be the same
test-same : (a b : ℕ) → (a == b) ≡ true → a ≡ b
test-same a b is = grind (arith, nat_tests)

test-less : (a b : ℕ) → nat_lt a b ≡ true → a < b
test-less a b is = grind (arith, nat_tests)

-- bits shifted away
abbrev pub shifted : ℕ → ℕ → ℕ
shifted a b = a / 2 ^ b

-- a vector as it is, lane by lane
itself : (v : List ℕ) → v ≡ map (λ x. x) v
itself [] = refl
itself (x ∷ v) = ap (λ rest. x ∷ rest) (itself v)

-- which numbers of four bits have an odd number of ones
abbrev pub odd_table : List ℕ
odd_table = 0 ∷ 1 ∷ 1 ∷ 0 ∷ 1 ∷ 0 ∷ 0 ∷ 1 ∷ 1 ∷ 0 ∷ 0 ∷ 1 ∷ 0 ∷ 1 ∷ 1 ∷ 0 ∷ []

abbrev looked_up : ℕ → ℕ
looked_up half = get_or odd_table half 0

-- the halves of a byte, joined
abbrev joined : ℕ → ℕ
joined byte = bit_and (bit_xor byte (shifted byte 4)) 15

-- tell whether it has an odd number of ones
joined-odd : (byte : ℕ) → byte < 256 → looked_up (joined byte) ≡ count_ones byte % 2
unfolding lib.Count.ones
joined-odd byte below =
    test-same (looked_up (joined byte)) (count_ones byte % 2)
    (agree_below_at (λ b. looked_up (joined b) == count_ones b % 2) (λ _. true) 256 byte refl below)

-- so they do in each lane
odd-each : (v : List ℕ) → AllByRecursion (λ byte. byte < 256) v → map looked_up (map joined v) ≡ map (λ byte. count_ones byte % 2) v
odd-each [] are = refl
odd-each (byte ∷ v) (below, are) =
    let first = joined-odd byte below in
    let others = odd-each v are in
    cc

joined-below : (v : List ℕ) → Each1 (λ half. half < 16) (map joined v)
joined-below [] = tt
joined-below (byte ∷ v) = (omega (arith, and_mask (bit_xor byte (shifted byte 4)) 4), joined-below v)

-- lanes of two bytes, whose high bytes are 0
abbrev spread : List ℕ → List ℕ
spread [] = []
spread (half ∷ v) = half ∷ 0 ∷ spread v

abbrev twice : List ℕ → ℕ
twice [] = 0
twice (half ∷ v) = suc (suc (twice v))

twice-length : (v : List ℕ) → twice v ≡ 2 * length v
twice-length [] = refl
twice-length (half ∷ v) = omega (arith, twice-length v)

length-spread : (v : List ℕ) → length (spread v) ≡ twice v
length-spread [] = refl
length-spread (half ∷ v) = ap (λ n. suc (suc n)) (length-spread v)

-- cut into their bytes
cut : (v : List ℕ) → Each1 (λ half. half < 16) v → digits_l 256 (twice v) (number_l 65536 v) ≡ spread v
cut [] each = refl
cut (half ∷ v) (below, each) =
    let rest = number_l 65536 v in
    let low : (half + 65536 * rest) % 256 ≡ half = omega arith in
    let high : (half + 65536 * rest) / 256 % 256 ≡ 0 = omega arith in
    let behind : (half + 65536 * rest) / 256 / 256 ≡ rest = omega arith in
    let others = cut v each in
    rw (low, high, behind, others) refl

-- and put together again
put_together : (v : List ℕ) → Each1 (λ half. half < 16) v → digits_l 65536 (length v) (number_l 256 (spread v)) ≡ v
put_together [] each = refl
put_together (half ∷ v) (below, each) =
    let rest = number_l 256 (spread v) in
    let low : (half + 256 * (0 + 256 * rest)) % 65536 ≡ half = omega arith in
    let behind : (half + 256 * (0 + 256 * rest)) / 65536 ≡ rest = omega arith in
    let others = put_together v each in
    rw (low, behind, others) refl

-- looked up byte by byte
looked-up-spread : (i : ℕ) (v : List ℕ) → i + twice v ≤ 16 → Each1 (λ half. half < 16) v → swz_l w8 16 odd_table i (spread v) ≡ spread (map looked_up v)
looked-up-spread i [] room each = refl
looked-up-spread i (half ∷ v) room (below, each) =
    let low : 16 * (i / 16) + half ≡ half = omega arith in
    let high : 16 * (suc i / 16) + 0 ≡ 0 = omega arith in
    let first : cond (leb 128 half) 0 (get_or odd_table (16 * (i / 16) + half) 0) ≡ looked_up half =
    ap (λ b. cond b 0 (get_or odd_table (16 * (i / 16) + half) 0)) (agree_below_at (λ h. leb 128 h) (λ _. false) 16 half refl below) ∙ ap looked_up low in
    let second : get_or odd_table (16 * (suc i / 16) + 0) 0 ≡ 0 = ap looked_up high in
    let others = looked-up-spread (suc (suc i)) v (omega arith) each in
    cc

looked-up-below : (v : List ℕ) → Each1 (λ half. half < 16) v → Each1 (λ half. half < 16) (map looked_up v)
looked-up-below [] each = tt
looked-up-below (half ∷ v) (below, each) = (test-less (looked_up half) 16 (agree_below_at (λ h. nat_lt (looked_up h) 16) (λ _. true) 16 half refl below), looked-up-below v each)

abbrev pub lanes_joined : List ℕ → List ℕ
lanes_joined v = zip2 bit_and (zip2 bit_xor v (zip2 shifted v (replicate 8 4))) (replicate 8 15)

lanes-joined : (v : List ℕ) → length v ≡ 8 → lanes_joined v ≡ map joined v
lanes-joined v long =
    let four : zip2 bit_xor v (zip2 shifted v (replicate 8 4)) ≡ map (λ x. bit_xor x (shifted x 4)) v =
    zip2_of_maps bit_xor (λ x. x) (λ x. shifted x 4) v (itself v) (zip2_splat shifted v 8 4 long) in
    zip2_of_maps bit_and (λ x. bit_xor x (shifted x 4)) (λ _. 15) v four (splat_is_map v 8 15 long)

-- the bytes of the lanes
lane-bytes : (v : List ℕ) → length v ≡ 8 → digits_l 256 16 (number_l 65536 (lanes_joined v)) ≡ spread (map joined v)
lane-bytes v long =
    let many : twice (map joined v) ≡ 16 = omega (arith, twice-length (map joined v), length-map v joined) in
    subst (λ n. digits_l 256 n (number_l 65536 (lanes_joined v)) ≡ spread (map joined v)) many
    (ap (λ lanes. digits_l 256 (twice (map joined v)) (number_l 65536 lanes)) (lanes-joined v long) ∙ cut (map joined v) (joined-below v))

spread-below : (v : List ℕ) → Each1 (λ half. half < 16) v → Each1 (λ j. j < 16) (spread v)
spread-below [] each = tt
spread-below (half ∷ v) (below, each) = (below, (lit< tt, spread-below v each))

pub swizzle-fits : (v : List ℕ) → length v ≡ 8 → SwzOk w8 16 16 0 (digits_l 256 16 (number_l 65536 (lanes_joined v)))
swizzle-fits v long =
    let many : length (spread (map joined v)) ≡ 16 = omega (arith, length-spread (map joined v), twice-length (map joined v), length-map v joined) in
    subst (SwzOk w8 16 16 0) (sym (lane-bytes v long)) (SwzOk-from_below w8 16 1 16 0 (spread (map joined v)) refl (omega arith) (spread-below (map joined v) (joined-below v)))

pub odd-lanes : (v : List ℕ) → length v ≡ 8 → All (λ byte. byte < 256) v
    → digits_l 65536 8 (number_l 256 (swz_l w8 16 odd_table 0 (digits_l 256 16 (number_l 65536 (lanes_joined v))))) ≡ map (λ byte. count_ones byte % 2) v
odd-lanes v long are =
    let each = joined-below v in
    let odd : swz_l w8 16 odd_table 0 (digits_l 256 16 (number_l 65536 (lanes_joined v))) ≡ spread (map looked_up (map joined v)) =
    ap (swz_l w8 16 odd_table 0) (lane-bytes v long) ∙ looked-up-spread 0 (map joined v) (omega (arith, twice-length (map joined v), length-map v joined)) each in
    let many : length (map looked_up (map joined v)) ≡ 8 = length-map (map joined v) looked_up ∙ length-map v joined ∙ long in
    let lanes = put_together (map looked_up (map joined v)) (looked-up-below (map joined v) each) in
    ap (λ bytes. digits_l 65536 8 (number_l 256 bytes)) odd
    ∙ subst (λ n. digits_l 65536 n (number_l 256 (spread (map looked_up (map joined v)))) ≡ map looked_up (map joined v)) many lanes
    ∙ odd-each v (recursion_from_All (λ byte. byte < 256) v are)

-- a word tested by its halves
by_halves : (word : ℕ) → word < 2 ^ 16 → ((word / 256 + count_ones (word % 256) % 2) % 2 ^ 16 == 2) ≡ is_eight_bit word
by_halves word below = elim (cases_eq (count_ones (word % 256) % 2) 1) [
  | inl odd ↦ rw (odd) (grind (arith, nat_tests))
  | inr other ↦
      let even : count_ones (word % 256) % 2 ≡ 0 = omega arith in
      rw (even) (grind (arith, nat_tests))
]

-- no bit is set where no lane fails
none-set : (f g : ℕ → Bool) (v : List ℕ) → Each1 (λ x. f x ≡ not (g x)) v → nat_eq (mask_l (map f v)) 0 ≡ list_all g v
none-set f g [] each = refl
none-set f g (x ∷ v) (first, each) =
    let others = none-set f g v each in
    elim (g x) as (λ b. f x ≡ not b → nat_eq (cond (f x) 1 0 + 2 * mask_l (map f v)) 0 ≡ (b && list_all g v)) [
      | true ↦ λ is. rw is (grind (arith, nat_tests, others))
      | false ↦ λ is. rw is (grind (arith, nat_tests))
    ] first

-- a sum of two lanes
abbrev pub wrapped_add : ℕ → ℕ → ℕ
wrapped_add a b = (a + b) % 2 ^ 16

-- where the halves of two lanes differ
abbrev pub all_or_none : ℕ → ℕ → ℕ
all_or_none a b = cond (not (eqb a b)) (2 ^ 16 - 1) 0

-- the halves of a word, added
abbrev halves : ℕ → ℕ
halves word = wrapped_add (shifted word 8) (count_ones (bit_and word 255) % 2)

halves-test : (word : ℕ) → word < 2 ^ 16 → eqb (halves word) 2 ≡ is_eight_bit word
halves-test word below = rw (and_mask word 8) (by_halves word below)

-- the lanes are tested by the halves of each
pub eight_bit-lanes : (v odd : List ℕ) → length v ≡ 8 → Each1 (Fits w16) v → odd ≡ map (λ byte. count_ones byte % 2) (zip2 bit_and v (replicate 8 255))
    → nat_eq (mask_l (map (top 15) (zip2 all_or_none (zip2 wrapped_add (zip2 shifted v (replicate 8 8)) odd) (replicate 8 2))) % 2 ^ 64) 0 ≡ list_all is_eight_bit v
eight_bit-lanes v odd long fits is =
    let low : zip2 bit_and v (replicate 8 255) ≡ map (λ x. bit_and x 255) v = zip2_splat bit_and v 8 255 long in
    let odds : odd ≡ map (λ x. count_ones (bit_and x 255) % 2) v = is ∙ ap (map (λ byte. count_ones byte % 2)) low ∙ map-map (λ byte. count_ones byte % 2) (λ x. bit_and x 255) v in
    let added : zip2 wrapped_add (zip2 shifted v (replicate 8 8)) odd ≡ map halves v =
    zip2_of_maps wrapped_add (λ x. shifted x 8) (λ x. count_ones (bit_and x 255) % 2) v (zip2_splat shifted v 8 8 long) odds in
    let eight : length (map halves v) ≡ 8 = length-map v halves ∙ long in
    let mask : mask_l (map (top 15) (zip2 all_or_none (map halves v) (replicate 8 2))) % 2 ^ 64 ≡ mask_l (map (λ x. not (eqb x 2)) (map halves v)) =
    bitmask_splat w16 (λ a b. not (eqb a b)) (map halves v) 8 2 eight (lit≤ tt) in
    let each = Each1-weaker (Fits w16) (λ x. not (eqb (halves x) 2) ≡ not (is_eight_bit x)) (λ x below. ap not (halves-test x below.fits)) v fits in
    ap (λ lanes. nat_eq (mask_l (map (top 15) (zip2 all_or_none lanes (replicate 8 2))) % 2 ^ 64) 0) added ∙ ap (λ bits. nat_eq bits 0) (mask ∙ ap mask_l (map-map (λ x. not (eqb x 2)) halves v))
    ∙ none-set (λ x. not (eqb (halves x) 2)) is_eight_bit v each

-- a low byte is one
pub low-bytes : (v : List ℕ) → length v ≡ 8 → All (λ byte. byte < 256) (zip2 bit_and v (replicate 8 255))
low-bytes v long =
    subst (All (λ byte. byte < 256)) (sym (zip2_splat bit_and v 8 255 long))
    (All-map (λ byte. byte < 256) (λ x. bit_and x 255) v (λ k d below. omega (arith, and_mask (get_or v k d) 8)))

-- a lane from another one, and a lane moved up
abbrev wrapped_sub : ℕ → ℕ → ℕ
wrapped_sub a b = (a + (2 ^ 16 - b)) % 2 ^ 16

abbrev shifted_up : ℕ → ℕ → ℕ
shifted_up a b = a * 2 ^ b % 2 ^ 16

-- a byte's 8-bit word, made in its lane
abbrev made_word : ℕ → ℕ
made_word byte = wrapped_add byte (shifted_up (wrapped_sub 2 (count_ones byte % 2)) 8)

made-word : (byte : ℕ) → byte < 256 → made_word byte ≡ eight_bit_word byte
made-word byte below = elim (cases_eq (count_ones byte % 2) 1) [
  | inl odd ↦ rw (odd) (omega arith)
  | inr other ↦
      let even : count_ones byte % 2 ≡ 0 = omega arith in
      rw (even) (omega arith)
]

made-each : (v : List ℕ) → Each1 (λ byte. byte < 256) v → map made_word v ≡ map eight_bit_word v
made-each [] each = refl
made-each (byte ∷ v) (below, each) =
    let first = made-word byte below in
    let others = made-each v each in
    cc

-- a lane of a byte is one
pub widened-below : (v : List ℕ) → Each1 (λ byte. byte < 256) v → All (λ byte. byte < 256) (map (λ x. x) v)
widened-below v each = All-map (λ byte. byte < 256) (λ x. x) v (λ k d below. Each1-get_or (λ byte. byte < 256) v k d below each)

-- the 8-bit words of bytes
pub eight_bit_words-lanes : (v odd : List ℕ) → length v ≡ 8 → Each1 (λ byte. byte < 256) v → odd ≡ map (λ byte. count_ones byte % 2) (map (λ x. x) v)
    → zip2 wrapped_add (map (λ x. x) v) (zip2 shifted_up (zip2 wrapped_sub (replicate 8 2) odd) (replicate 8 8)) ≡ map eight_bit_word v
eight_bit_words-lanes v odd long each is =
    let odds : odd ≡ map (λ x. count_ones x % 2) v = is ∙ map-map (λ byte. count_ones byte % 2) (λ x. x) v in
    let high : zip2 wrapped_sub (replicate 8 2) odd ≡ map (λ x. wrapped_sub 2 (count_ones x % 2)) v =
    zip2_of_maps wrapped_sub (λ _. 2) (λ x. count_ones x % 2) v (splat_is_map v 8 2 long) odds in
    let up : zip2 shifted_up (zip2 wrapped_sub (replicate 8 2) odd) (replicate 8 8) ≡ map (λ x. shifted_up (wrapped_sub 2 (count_ones x % 2)) 8) v =
    zip2_of_maps shifted_up (λ x. wrapped_sub 2 (count_ones x % 2)) (λ _. 8) v high (splat_is_map v 8 8 long) in
    zip2_of_maps wrapped_add (λ x. x) (λ x. shifted_up (wrapped_sub 2 (count_ones x % 2)) 8) v refl up ∙ made-each v each

-- a word whose two bytes have changed places
abbrev swapped : ℕ → ℕ
swapped word = wrapped_add (shifted word 8) (shifted_up word 8)

cut-swapped : (v : List ℕ) → Each1 (Fits w16) v → digits_l 256 (twice v) (number_l 65536 (map swapped v)) ≡ flat_map word_bytes v
cut-swapped [] each = refl
cut-swapped (word ∷ v) (fits, each) =
    let below : word < 65536 = fits.fits in
    let rest = number_l 65536 (map swapped v) in
    let low : (swapped word + 65536 * rest) % 256 ≡ word / 256 = omega arith in
    let high : (swapped word + 65536 * rest) / 256 % 256 ≡ word % 256 = omega arith in
    let behind : (swapped word + 65536 * rest) / 256 / 256 ≡ rest = omega arith in
    let others = cut-swapped v each in
    rw (low, high, behind, others) refl

-- the bytes of words, the high one of each first
pub high_first-lanes : (v : List ℕ) → length v ≡ 8 → Each1 (Fits w16) v
    → digits_l 256 16 (number_l 65536 (zip2 wrapped_add (zip2 shifted v (replicate 8 8)) (zip2 shifted_up v (replicate 8 8)))) ≡ flat_map word_bytes v
high_first-lanes v long each =
    let lanes : zip2 wrapped_add (zip2 shifted v (replicate 8 8)) (zip2 shifted_up v (replicate 8 8)) ≡ map swapped v =
    zip2_of_maps wrapped_add (λ x. shifted x 8) (λ x. shifted_up x 8) v (zip2_splat shifted v 8 8 long) (zip2_splat shifted_up v 8 8 long) in
    let many : twice v ≡ 16 = omega (arith, twice-length v) in
    ap (λ ws. digits_l 256 16 (number_l 65536 ws)) lanes
    ∙ subst (λ n. digits_l 256 n (number_l 65536 (map swapped v)) ≡ flat_map word_bytes v) many (cut-swapped v each)

-- words, a lane each, added to sums
sum-wrapped : (sums words : List ℕ) → length words ≡ length sums → sum_l (zip2 wrapped_add sums words) % 2 ^ 16 ≡ (sum_l sums + sum_l words) % 2 ^ 16
sum-wrapped [] [] long = refl
sum-wrapped [] (word ∷ words) long = absurd (omega arith)
sum-wrapped (total ∷ sums) [] long = absurd (omega arith)
sum-wrapped (total ∷ sums) (word ∷ words) long =
    let others = sum-wrapped sums words (omega arith) in
    omega (arith, others)

-- and the sum of the lanes
sum-folded : (start : ℕ) (sums : List ℕ) → fold_l wrapped_add start sums % 2 ^ 16 ≡ (start + sum_l sums) % 2 ^ 16
sum-folded start [] = omega arith
sum-folded start (total ∷ sums) =
    let others = sum-folded (wrapped_add start total) sums in
    omega (arith, others)

sum_l-sum : (words : List ℕ) → sum_l words ≡ sum words
sum_l-sum [] = refl
sum_l-sum (word ∷ words) = omega (arith, sum_l-sum words, sum_by-cons (λ x. x) word words)

fold-below : (start : ℕ) (sums : List ℕ) → start < 2 ^ 16 → fold_l wrapped_add start sums < 2 ^ 16
fold-below start [] below = below
fold-below start (total ∷ sums) below = fold-below (wrapped_add start total) sums (omega arith)

-- the words of eights
abbrev pub words_in : List (List (List ℕ)) → List ℕ
words_in eights = map word_of (flat_map (λ eight. eight) eights)

-- the sum of words, modulo 2^16, where all are 8-bit words
abbrev pub checked_sum : List ℕ → Option ℕ
checked_sum words = if list_all is_eight_bit words then Some (sum words % 2 ^ 16) else None

-- where one isn't, there is none
pub no_sum : (words : List ℕ) → list_all is_eight_bit words ≡ false → None ≡ checked_sum words
no_sum words wrong = rw wrong refl

pub has_sum : (words : List ℕ) (total : ℕ) → list_all is_eight_bit words ≡ true → total ≡ sum words % 2 ^ 16 → Some total ≡ checked_sum words
has_sum words total are is = rw are (ap Some is)

wrong-sum : (words : List ℕ) → None ≡ checked_sum words → list_all is_eight_bit words ≡ false
wrong-sum words none =
    elim (list_all is_eight_bit words) as (λ (b : Bool). None ≡ (if b then Some (sum words % 2 ^ 16) else None) → b ≡ false) [ true ↦ λ is. absurd cc | false ↦ λ is. refl ] none

right-sum : (words : List ℕ) (total : ℕ) → Some total ≡ checked_sum words → (list_all is_eight_bit words ≡ true) × (total ≡ sum words % 2 ^ 16)
right-sum words total some =
    elim (list_all is_eight_bit words) as (λ (b : Bool). Some total ≡ (if b then Some (sum words % 2 ^ 16) else None) → (b ≡ true) × (total ≡ sum words % 2 ^ 16))
    [ true ↦ λ is. (refl, cc) | false ↦ λ is. absurd cc ] some

-- the sums of a front and a back
pub no_sum-front : (front back : List ℕ) → None ≡ checked_sum front → None ≡ checked_sum (front ++ back)
no_sum-front front back none = no_sum (front ++ back) (list_all-append is_eight_bit front back ∙ ap (λ b. b && list_all is_eight_bit back) (wrong-sum front none))

pub no_sum-back : (front back : List ℕ) → None ≡ checked_sum back → None ≡ checked_sum (front ++ back)
no_sum-back front back none =
    let both : (list_all is_eight_bit front && list_all is_eight_bit back) ≡ false =
    ap (λ b. list_all is_eight_bit front && b) (wrong-sum back none) ∙ elim (list_all is_eight_bit front) as (λ (b : Bool). (b && false) ≡ false) [ true ↦ refl | false ↦ refl ] in
    no_sum (front ++ back) (list_all-append is_eight_bit front back ∙ both)

pub sum-both : (front back : List ℕ) (first second : ℕ) → Some first ≡ checked_sum front → Some second ≡ checked_sum back
    → Some ((first + second) % 2 ^ 16) ≡ checked_sum (front ++ back)
sum-both front back first second some other =
    let (are, is) = right-sum front first some in
    let (others_are, other_is) = right-sum back second other in
    let all : list_all is_eight_bit (front ++ back) ≡ true = list_all-append is_eight_bit front back ∙ rw (are, others_are) refl in
    let total : sum (front ++ back) ≡ sum front + sum back = sum_by-append (λ x. x) front back in
    has_sum (front ++ back) ((first + second) % 2 ^ 16) all (omega (arith, is, other_is, total))

-- the lanes have the sum of words, modulo 2^16
pub record HaveTotal (words sums : List ℕ) : Type 0 where
  pub total : sum_l sums % 2 ^ 16 ≡ sum words % 2 ^ 16
  pub eight : length sums ≡ 8

pub total-next : (front words sums : List ℕ) → length words ≡ 8 → HaveTotal front sums → HaveTotal (front ++ words) (zip2 wrapped_add sums words)
total-next front words sums long have =
    let first = have.total in
    let eight = have.eight in record {
      total = omega (arith, first, sum-wrapped sums words (long ∙ sym eight), sum_l-sum words, sum_by-append (λ x. x) front words);
      eight = length-zip2 wrapped_add sums words (eight ∙ sym long) ∙ eight;
    }

pub total-folded : (words sums : List ℕ) → HaveTotal words sums → fold_l wrapped_add 0 sums ≡ sum words % 2 ^ 16
total-folded words sums have =
    let total = have.total in
    omega (arith, total, sum-folded 0 sums, fold-below 0 sums (lit< tt))

-- the words of the eights so far are 8-bit words, and the lanes have their sum
pub record HaveSum (words sums : List ℕ) : Type 0 where
  pub are : list_all is_eight_bit words ≡ true
  pub lanes : HaveTotal words sums

-- one eight more
pub joined-next : {X : Type 0} (eights : List (List X)) (i : ℕ) → i < length eights
    → flat_map (λ eight. eight) (take (i + 1) eights) ≡ flat_map (λ eight. eight) (take i eights) ++ get_or eights i []
joined-next eights i within =
    let front = take i eights in
    let one = get_or eights i [] in
    ap (flat_map (λ eight. eight)) (take_at_read eights i [] within).1 ∙ flat_map-append (λ eight. eight) front (one ∷ []) ∙ ap (λ back. flat_map (λ eight. eight) front ++ back) (append-nil one)

words-next : (eights : List (List (List ℕ))) (i : ℕ) → i < length eights → words_in (take (i + 1) eights) ≡ words_in (take i eights) ++ map word_of (get_or eights i [])
words-next eights i within =
    ap (map word_of) (joined-next eights i within) ∙ map-append word_of (flat_map (λ eight. eight) (take i eights)) (get_or eights i [])

pub sums-next : (eights : List (List (List ℕ))) (i : ℕ) (sums words : List ℕ) → i < length eights → words ≡ map word_of (get_or eights i []) → list_all is_eight_bit words ≡ true
    → length words ≡ 8 → HaveSum (words_in (take i eights)) sums → HaveSum (words_in (take (i + 1) eights)) (zip2 wrapped_add sums words)
sums-next eights i sums words within is are long have =
    let front = words_in (take i eights) in
    let more : words_in (take (i + 1) eights) ≡ front ++ words = words-next eights i within ∙ ap (λ ws. front ++ ws) (sym is) in
    subst (λ ws. HaveSum ws (zip2 wrapped_add sums words)) (sym more) (record {
      are = list_all-append is_eight_bit front words ∙ rw (have.are, are) refl;
      lanes = total-next front words sums long have.lanes;
    })

-- an eight that has a wrong word
pub sums-wrong : (eights : List (List (List ℕ))) (i : ℕ) (words : List ℕ) → i < length eights → words ≡ map word_of (get_or eights i []) → list_all is_eight_bit words ≡ false
    → None ≡ checked_sum (words_in eights)
sums-wrong eights i words within is wrong =
    let back = flat_map (λ eight. eight) (drop (i + 1) eights) in
    let split : words_in eights ≡ (words_in (take i eights) ++ words) ++ map word_of back =
    ap words_in (sym (take-append-drop (i + 1) eights)) ∙ ap (map word_of) (flat_map-append (λ eight. eight) (take (i + 1) eights) (drop (i + 1) eights))
    ∙ map-append word_of (flat_map (λ eight. eight) (take (i + 1) eights)) back
    ∙ ap (λ ws. ws ++ map word_of back) (words-next eights i within ∙ ap (λ ws. words_in (take i eights) ++ ws) (sym is)) in
    subst (λ ws. None ≡ checked_sum ws) (sym split) (no_sum-front (words_in (take i eights) ++ words) (map word_of back) (no_sum-back (words_in (take i eights)) words (no_sum words wrong)))

-- all eights
pub sums-all : (eights : List (List (List ℕ))) (i : ℕ) (sums : List ℕ) → length eights ≤ i → HaveSum (words_in (take i eights)) sums
    → Some (fold_l wrapped_add 0 sums) ≡ checked_sum (words_in eights)
sums-all eights i sums end have =
    let whole : take i eights ≡ eights = take_all i eights end in
    let all = subst (λ es. HaveSum (words_in es) sums) whole have in
    has_sum (words_in eights) (fold_l wrapped_add 0 sums) all.are (total-folded (words_in eights) sums all.lanes)

-- chunks and what is left
chunks-joined : {X : Type 0} (many : ℕ) (xs : List X) → flat_map (λ x. x) (first_chunks 8 many xs) ++ drop (many * 8) xs ≡ xs
chunks-joined zero xs = refl
chunks-joined (suc many) xs =
    let rest : drop (suc many * 8) xs ≡ drop (many * 8) (drop 8 xs) = ap (λ n. drop n xs) (omega arith) ∙ sym (drop-drop (many * 8) 8 xs) in
    ap (λ back. flat_map (λ x. x) (first_chunks 8 (suc many) xs) ++ back) rest
    ∙ append_assoc (take 8 xs) (flat_map (λ x. x) (first_chunks 8 many (drop 8 xs))) (drop (many * 8) (drop 8 xs))
    ∙ ap (λ back. take 8 xs ++ back) (chunks-joined many (drop 8 xs)) ∙ take-append-drop 8 xs

pub chunks-split : {X : Type 0} (f : X → ℕ) (xs rest : List X) (eights : List (List X)) (many : ℕ) → eights ≡ first_chunks 8 many xs → rest ≡ drop (many * 8) xs
    → map f xs ≡ map f (flat_map (λ eight. eight) eights) ++ map f rest
chunks-split f xs rest eights many are left =
    ap (map f) (sym (chunks-joined many xs) ∙ rw (← are, ← left) refl) ∙ map-append f (flat_map (λ eight. eight) eights) rest

-- the words are right where they have a sum, and the checksum word is the one of them all
pub right-words : (count checksum total : ℕ) (user : List ℕ) → Some total ≡ checked_sum user
    → ((is_eight_bit count ≡ true) × (checksum ≡ nine_bit_word ((0x161 + 0x101 + count + total) % 512))) ↔ AreRight count user checksum
right-words count checksum total user some =
    let (are, is) = right-sum user total some in
    let same : (0x161 + 0x101 + count + total) % 512 ≡ sum (0x161 ∷ 0x101 ∷ count ∷ user) % 512 =
    omega (arith, is, sum_by-cons (λ x. x) 0x161 (0x101 ∷ count ∷ user), sum_by-cons (λ x. x) 0x101 (count ∷ user), sum_by-cons (λ x. x) count user) in (
      λ (count_is, checksum_is). record { count_is = count_is; user_are = are; checksum_is = checksum_is ∙ ap nine_bit_word same },
      λ right. (right.count_is, right.checksum_is ∙ ap nine_bit_word (sym same)),
    )

pub wrong-words : (count checksum : ℕ) (user : List ℕ) → None ≡ checked_sum user → AreRight count user checksum → ⊥
wrong-words count checksum user none right =
    let wrong : list_all is_eight_bit user ≡ false = wrong-sum user none in
    let are : list_all is_eight_bit user ≡ true = right.user_are in
    absurd cc
