-- The triplets of a frame's halves.
use Rattle.std.proofs.Common.{◌≡◌, ℕ, zero, suc, ◌-◌, ◌≤◌, ◌==◌, ◌&&◌, ◌||◌, Bool, true, false, List, [], ◌∷◌, ◌++◌, append-nil, drop, length, replicate, take, take-append-drop, refl, sym, ap, ◌∙◌, arith}
use Rattle.std.specs.Prelude.{⊤, if◌then◌else◌, get_or}
use Rattle.std.proofs.lemmas.Bool.Decides.{nat_tests}
use Rattle.std.proofs.lemmas.List.Elements.{filter-append}
use Rattle.cc_data.specs.Triplets.{filler}
use Rattle.cc_data.specs.declared.triplet.Triplet.{Triplet}
use Rattle.channel_packets.specs.ChannelPackets.{channel_triplets, continues_packet, starts}
use Rattle.line21_codes.specs.declared.channels.FieldNumber.{FieldNumber}
use Rattle.line21_codes.specs.declared.channels.FieldNumber.TheVariants.{One, Two}
use Rattle.line21_codes.specs.declared.pairs.Pair.{Pair}
use Rattle.words_files.specs.Received.{field_kind, field_pair, field_pairs}
use Rattle.rate_convert.specs.Conversion.{is_of, of_field}
use Rattle.rate_convert.specs.ConvertedFrames.{TripletsAreCut}

abbrev is_service : Triplet → Bool
is_service triplet = starts triplet || continues_packet triplet

-- lists of triplets of channel packets
abbrev AllService : List Triplet → Type 0
AllService [] = ⊤
AllService (t ∷ ts) = (is_service t ≡ true) × AllService ts

filtered_service : (ts : List Triplet) → AllService (channel_triplets ts)
filtered_service [] = tt
filtered_service (t ∷ ts) = by_test (is_service t) refl (filtered_service ts)
  where
    by_test : (b : Bool) → is_service t ≡ b → AllService (channel_triplets ts) → AllService (if b then t ∷ channel_triplets ts else channel_triplets ts)
    by_test true is rest = (is, rest)
    by_test false is rest = rest

take_service : (n : ℕ) (ts : List Triplet) → AllService ts → AllService (take n ts)
take_service zero ts all = tt
take_service (suc n) [] all = tt
take_service (suc n) (t ∷ ts) all = (all.0, take_service n ts all.1)

drop_service : (n : ℕ) (ts : List Triplet) → AllService ts → AllService (drop n ts)
drop_service zero ts all = all
drop_service (suc n) [] all = tt
drop_service (suc n) (t ∷ ts) all = drop_service n ts all.1

service_kept : (ts : List Triplet) → AllService ts → channel_triplets ts ≡ ts
service_kept [] all = refl
service_kept (t ∷ ts) all = rw all.0 (ap (λ (l : List Triplet). t ∷ l) (service_kept ts all.1))

no_fillers : (n : ℕ) → channel_triplets (replicate n filler) ≡ []
no_fillers zero = refl
no_fillers (suc n) = no_fillers n

-- a triplet of line 21 is none of channel packets, and the other way round
not_service : (v : Bool) (k n : ℕ) → n ≤ 1 → (v && (k == n)) ≡ true → (v && (k == 3) || v && (k == 2)) ≡ false
not_service true k n few is =
    let here : k ≡ n = grind (arith, nat_tests) in
    let three : (k == 3) ≡ false = grind (arith, nat_tests) in
    let two : (k == 2) ≡ false = grind (arith, nat_tests) in rw (three, two) refl
not_service false k n few is = cc

not_field : (v : Bool) (k n : ℕ) → n ≤ 1 → (v && (k == 3) || v && (k == 2)) ≡ true → (v && (k == n)) ≡ false
not_field true k n few is = by_three (k == 3) refl
  where
    by_three : (b : Bool) → (k == 3) ≡ b → (k == n) ≡ false
    by_three true three = grind (arith, nat_tests)
    by_three false three = let two : (k == 2) ≡ true = sym (rw three refl) ∙ is in grind (arith, nat_tests)
not_field false k n few is = refl

few_kinds : (f : FieldNumber) → field_kind f ≤ 1
few_kinds One = omega arith
few_kinds Two = omega arith

first_is : (f : FieldNumber) (ts : List Triplet) → is_service (get_or (of_field f ts) 0 filler) ≡ false
first_is f [] = refl
first_is f (t ∷ ts) = by_test (is_of f t) refl (first_is f ts)
  where
    by_test : (b : Bool) → is_of f t ≡ b → is_service (get_or (of_field f ts) 0 filler) ≡ false
        → is_service (get_or (if b then t ∷ of_field f ts else of_field f ts) 0 filler) ≡ false
    by_test true is rest = not_service t.valid t.kind (field_kind f) (few_kinds f) is
    by_test false is rest = rest

-- the channel triplets of a half
half_service : (t : Triplet) (ts : List Triplet) (n : ℕ) → is_service t ≡ false → AllService ts → channel_triplets (t ∷ (ts ++ replicate n filler)) ≡ ts
half_service t ts n first all =
    rw first (filter-append (λ (triplet : Triplet). starts triplet || continues_packet triplet) ts (replicate n filler)
    ∙ ap (λ (l : List Triplet). channel_triplets ts ++ l) (no_fillers n) ∙ append-nil (channel_triplets ts) ∙ service_kept ts all)

-- the pairs of a field
pairs_append : (f : FieldNumber) (xs ys : List Triplet) → field_pairs f (xs ++ ys) ≡ field_pairs f xs ++ field_pairs f ys
pairs_append f [] ys = refl
pairs_append f (x ∷ xs) ys = ap (λ (l : List Pair). field_pair f x ++ l) (pairs_append f xs ys) ∙ assoc (field_pair f x) (field_pairs f xs) (field_pairs f ys)
  where
    assoc : (a b c : List Pair) → a ++ (b ++ c) ≡ (a ++ b) ++ c
    assoc [] b c = refl
    assoc (x ∷ a) b c = ap (λ (l : List Pair). x ∷ l) (assoc a b c)

service_no_pairs : (f : FieldNumber) (ts : List Triplet) → AllService ts → field_pairs f ts ≡ []
service_no_pairs f [] all = refl
service_no_pairs f (t ∷ ts) all =
    let none : is_of f t ≡ false = not_field t.valid t.kind (field_kind f) (few_kinds f) all.0 in
    rw none (service_no_pairs f ts all.1)

fillers_no_pairs : (f : FieldNumber) (n : ℕ) → field_pairs f (replicate n filler) ≡ []
fillers_no_pairs f zero = refl
fillers_no_pairs f (suc n) = fillers_no_pairs f n

half_pairs : (f : FieldNumber) (t : Triplet) (ts : List Triplet) (n : ℕ) → AllService ts → field_pairs f (t ∷ (ts ++ replicate n filler)) ≡ field_pair f t
half_pairs f t ts n all =
    ap (λ (l : List Pair). field_pair f t ++ l)
    (pairs_append f ts (replicate n filler) ∙ ap (λ (l : List Pair). l ++ field_pairs f (replicate n filler)) (service_no_pairs f ts all) ∙ fillers_no_pairs f n)
    ∙ append-nil (field_pair f t)

-- a field's pairs are the pairs of its own triplets
own_pairs : (f : FieldNumber) (ts : List Triplet) → field_pairs f ts ≡ field_pairs f (of_field f ts)
own_pairs f [] = refl
own_pairs f (t ∷ ts) = by_test (is_of f t) refl (own_pairs f ts)
  where
    pair_by : (b : Bool) → List Pair
    pair_by b = if b then record { a = t.a; b = t.b } ∷ [] else []

    by_test : (b : Bool) → is_of f t ≡ b → field_pairs f ts ≡ field_pairs f (of_field f ts)
        → (if b then record { a = t.a; b = t.b } ∷ [] else []) ++ field_pairs f ts ≡ field_pairs f (if b then t ∷ of_field f ts else of_field f ts)
    by_test true is rest = ap (λ (l : List Pair). record { a = t.a; b = t.b } ∷ l) rest ∙ sym (rw is refl)
    by_test false is rest = rest

-- at most one of them is the first, or there is none
only_pairs : (f : FieldNumber) (ts : List Triplet) → length ts ≤ 1 → field_pairs f ts ≡ field_pair f (get_or ts 0 filler)
only_pairs f [] few = refl
only_pairs f (t ∷ []) few = append-nil (field_pair f t)
only_pairs f (t ∷ (u ∷ ts)) few = absurd (omega arith)

-- the other field's triplet has no pair of a field
other_kind : (v : Bool) (k n m : ℕ) → n ≤ 1 → m ≤ 1 → (n == m) ≡ false → (v && (k == n)) ≡ true → (v && (k == m)) ≡ false
other_kind true k n m few low other is = grind (arith, nat_tests)
other_kind false k n m few low other is = refl

other_pairs : (f g : FieldNumber) (ts : List Triplet) → (field_kind g == field_kind f) ≡ false → field_pair f (get_or (of_field g ts) 0 filler) ≡ []
other_pairs f g [] other = refl
other_pairs f g (t ∷ ts) other = by_test (is_of g t) refl (other_pairs f g ts other)
  where
    by_test : (b : Bool) → is_of g t ≡ b → field_pair f (get_or (of_field g ts) 0 filler) ≡ []
        → field_pair f (get_or (if b then t ∷ of_field g ts else of_field g ts) 0 filler) ≡ []
    by_test true is rest = rw (other_kind t.valid t.kind (field_kind g) (field_kind f) (few_kinds g) (few_kinds f) other is) refl
    by_test false is rest = rest

-- the halves with any number of fillers
abbrev first_with : List Triplet → ℕ → List Triplet
first_with triplets fillers = get_or (of_field One triplets) 0 filler ∷ (take 9 (channel_triplets triplets) ++ replicate fillers filler)

abbrev second_with : List Triplet → ℕ → List Triplet
second_with triplets fillers = get_or (of_field Two triplets) 0 filler ∷ (drop 9 (channel_triplets triplets) ++ replicate fillers filler)

record AreCutWith (triplets : List Triplet) (j k : ℕ) : Type 0 where
  channel : channel_triplets triplets ≡ channel_triplets (first_with triplets j) ++ channel_triplets (second_with triplets k)
  pairs : (in_field : FieldNumber) → length (of_field in_field triplets) ≤ 1
      → field_pairs in_field triplets ≡ field_pairs in_field (first_with triplets j) ++ field_pairs in_field (second_with triplets k)

cut_with : (triplets : List Triplet) (j k : ℕ) → AreCutWith triplets j k
cut_with ts j k = record {
  channel =
      sym (ap (λ (l : List Triplet). l ++ channel_triplets (second_with ts k)) (half_service (get_or (of_field One ts) 0 filler) (take 9 (channel_triplets ts)) j (first_is One ts) one)
      ∙ ap (λ (l : List Triplet). take 9 (channel_triplets ts) ++ l) (half_service (get_or (of_field Two ts) 0 filler) (drop 9 (channel_triplets ts)) k (first_is Two ts) two)
      ∙ take-append-drop 9 (channel_triplets ts));
  pairs = pairs;
}
  where
    one : AllService (take 9 (channel_triplets ts))
    one = take_service 9 (channel_triplets ts) (filtered_service ts)

    two : AllService (drop 9 (channel_triplets ts))
    two = drop_service 9 (channel_triplets ts) (filtered_service ts)

    both : (f : FieldNumber) → field_pairs f (first_with ts j) ++ field_pairs f (second_with ts k)
        ≡ field_pair f (get_or (of_field One ts) 0 filler) ++ field_pair f (get_or (of_field Two ts) 0 filler)
    both f =
        ap (λ (l : List Pair). l ++ field_pairs f (second_with ts k)) (half_pairs f (get_or (of_field One ts) 0 filler) (take 9 (channel_triplets ts)) j one)
        ∙ ap (λ (l : List Pair). field_pair f (get_or (of_field One ts) 0 filler) ++ l) (half_pairs f (get_or (of_field Two ts) 0 filler) (drop 9 (channel_triplets ts)) k two)

    pairs : (f : FieldNumber) → length (of_field f ts) ≤ 1 → field_pairs f ts ≡ field_pairs f (first_with ts j) ++ field_pairs f (second_with ts k)
    pairs One few =
        own_pairs One ts ∙ only_pairs One (of_field One ts) few ∙ sym (append-nil (field_pair One (get_or (of_field One ts) 0 filler)))
        ∙ ap (λ (l : List Pair). field_pair One (get_or (of_field One ts) 0 filler) ++ l) (sym (other_pairs One Two ts refl)) ∙ sym (both One)
    pairs Two few =
        own_pairs Two ts ∙ only_pairs Two (of_field Two ts) few
        ∙ ap (λ (l : List Pair). l ++ field_pair Two (get_or (of_field Two ts) 0 filler)) (sym (other_pairs Two One ts refl)) ∙ sym (both Two)

pub triplets_cut : TripletsAreCut
triplets_cut ts =
    let cut = cut_with ts (9 - length (take 9 (channel_triplets ts))) (9 - length (drop 9 (channel_triplets ts))) in
    record { channel = cut.channel; pairs = cut.pairs }
