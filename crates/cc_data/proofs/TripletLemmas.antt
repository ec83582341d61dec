-- What is written is a triplet, what is read is one, and bytes are at most one.
use Rattle.std.proofs.Common.{◌≡◌, ℕ, ◌+◌, ◌-◌, ◌*◌, ◌/◌, ◌%◌, ◌<◌, ◌==◌, ◌++◌, if◌then◌else◌, Bool, true, false, List, [], ◌∷◌, length, get_or, All, refl, ap, ◌∙◌, lit<, arith}
use Rattle.std.proofs.lemmas.Bool.Decides.{nat_tests}
use Rattle.std.proofs.lemmas.List.Elements.{All-head, All-tail}
use Rattle.cc_data.specs.declared.triplet.Triplet.{Triplet}
use Rattle.cc_data.specs.Triplets.{valid_bit, first_byte, IsTriplet, AreTriplets, triplet_of, triplets_of, bytes_of_triplet, all_written}

-- a bit that is tested and written again
valid_bit-test : (bit : ℕ) → bit < 2 → valid_bit (bit == 1) ≡ bit
valid_bit-test bit small = grind (arith, nat_tests)

-- the first byte's parts, put together again
first_byte-parts : (first a b : ℕ) → first ≡ first_byte (first / 8) (triplet_of first a b)
first_byte-parts first a b =
    let bit = valid_bit-test (first / 4 % 2) (omega arith) in
    omega (arith, bit)

-- the triplet that three bytes are read as
pub read-is_triplet : (first a b : ℕ) → first < 256 → IsTriplet (triplet_of first a b) (first ∷ a ∷ b ∷ [])
read-is_triplet first a b byte = record {
  marker = first / 8;
  five_bits = omega arith;
  two_bits = omega arith;
  spelled = ap (λ n. n ∷ a ∷ b ∷ []) (first_byte-parts first a b);
}

-- the same of a list of three bytes
pub read-is_triplet-list : (bytes : List ℕ) → length bytes ≡ 3 → get_or bytes 0 0 < 256 → IsTriplet (triplet_of (get_or bytes 0 0) (get_or bytes 1 0) (get_or bytes 2 0)) bytes
read-is_triplet-list [] long byte = absurd (omega arith)
read-is_triplet-list (_ ∷ []) long byte = absurd (omega arith)
read-is_triplet-list (_ ∷ _ ∷ []) long byte = absurd (omega arith)
read-is_triplet-list (first ∷ a ∷ b ∷ []) long byte = read-is_triplet first a b byte
read-is_triplet-list (_ ∷ _ ∷ _ ∷ _ ∷ rest) long byte = absurd (omega arith)

-- the first byte as it is written, with all marker bits
marked-first_byte : (valid : Bool) (kind : ℕ) → (if valid then 0xFC else 0xF8) + kind ≡ 8 * 31 + 4 * valid_bit valid + kind
marked-first_byte true kind = refl
marked-first_byte false kind = refl

-- the bytes of a triplet
pub written-is_triplet : (t : Triplet) → t.kind < 4 → IsTriplet t (bytes_of_triplet t)
written-is_triplet t small = record {
  marker = 31;
  five_bits = lit< tt;
  two_bits = small;
  spelled = ap (λ first. first ∷ t.a ∷ t.b ∷ []) (marked-first_byte t.valid t.kind);
}

-- a triplet's first byte is read as its bit, whatever the marker bits are
valid_bit-read : (marker kind : ℕ) (valid : Bool) → kind < 4 → ((8 * marker + 4 * valid_bit valid + kind) / 4 % 2 == 1) ≡ valid
valid_bit-read marker kind true small = grind (arith, nat_tests)
valid_bit-read marker kind false small = grind (arith, nat_tests)

-- and as its kind
kind-read : (marker kind : ℕ) (valid : Bool) → kind < 4 → (8 * marker + 4 * valid_bit valid + kind) % 4 ≡ kind
kind-read marker kind true small = omega arith
kind-read marker kind false small = omega arith

-- a triplet with another bit and kind
abbrev with_kind : Triplet → Bool → ℕ → Triplet
with_kind t valid kind = record { valid = valid; kind = kind; a = t.a; b = t.b }

-- three bytes of a triplet are read as it
pub triplet_of-first_byte : (marker : ℕ) (t : Triplet) → t.kind < 4 → triplet_of (first_byte marker t) t.a t.b ≡ t
triplet_of-first_byte marker t small =
    ap (λ valid. with_kind t valid (first_byte marker t % 4)) (valid_bit-read marker t.kind t.valid small) ∙ ap (with_kind t t.valid) (kind-read marker t.kind t.valid small)

pub triplet_of-triplet : (t : Triplet) (first a b : ℕ) → IsTriplet t (first ∷ a ∷ b ∷ []) → triplet_of first a b ≡ t
triplet_of-triplet t first a b is = cc (is.spelled, triplet_of-first_byte is.marker t is.two_bits)

-- what is written, as a list
pub all_written-are : (ts : List Triplet) → All (λ t. t.kind < 4) ts → AreTriplets ts (all_written ts)
all_written-are [] small = tt
all_written-are (t ∷ ts) small =
    (written-is_triplet t (All-head (λ t. t.kind < 4) t ts small), all_written-are ts (All-tail (λ t. t.kind < 4) t ts small))

-- three bytes are written for each triplet
pub length-all_written : (ts : List Triplet) → length (all_written ts) ≡ 3 * length ts
length-all_written [] = refl
length-all_written (t ∷ ts) = omega (arith, length-all_written ts)

-- the bytes of triplets are read as them
pub triplets_of-triplets : (ts : List Triplet) (bytes : List ℕ) → AreTriplets ts bytes → triplets_of bytes ≡ ts
triplets_of-triplets [] [] are = refl
triplets_of-triplets [] (_ ∷ _) are = absurd are
triplets_of-triplets (t ∷ ts) [] are = absurd are
triplets_of-triplets (t ∷ ts) (_ ∷ []) are = absurd are
triplets_of-triplets (t ∷ ts) (_ ∷ _ ∷ []) are = absurd are
triplets_of-triplets (t ∷ ts) (first ∷ a ∷ b ∷ rest) are =
    cc (triplet_of-triplet t first a b are.0, triplets_of-triplets ts rest are.1)

-- three bytes each
pub length-triplets : (ts : List Triplet) (bytes : List ℕ) → AreTriplets ts bytes → length bytes ≡ 3 * length ts
length-triplets [] [] are = refl
length-triplets [] (_ ∷ _) are = absurd are
length-triplets (t ∷ ts) [] are = absurd are
length-triplets (t ∷ ts) (_ ∷ []) are = absurd are
length-triplets (t ∷ ts) (_ ∷ _ ∷ []) are = absurd are
length-triplets (t ∷ ts) (first ∷ a ∷ b ∷ rest) are = omega (arith, length-triplets ts rest are.1)

-- two lists after one another
pub triplets-append : (ts us : List Triplet) (front rest : List ℕ) → AreTriplets ts front → AreTriplets us rest → AreTriplets (ts ++ us) (front ++ rest)
triplets-append [] us [] rest are more = more
triplets-append [] us (_ ∷ _) rest are more = absurd are
triplets-append (t ∷ ts) us [] rest are more = absurd are
triplets-append (t ∷ ts) us (_ ∷ []) rest are more = absurd are
triplets-append (t ∷ ts) us (_ ∷ _ ∷ []) rest are more = absurd are
triplets-append (t ∷ ts) us (first ∷ a ∷ b ∷ front) rest are more =
    (are.0, triplets-append ts us front rest are.1 more)

abbrev IsByte : ℕ → Type 0
IsByte byte = byte < 256

-- bytes whose number is divided by three
pub read-are_triplets : (count : ℕ) (bytes : List ℕ) → All (λ byte. byte < 256) bytes → length bytes ≡ 3 * count → AreTriplets (triplets_of bytes) bytes
read-are_triplets count [] small long = tt
read-are_triplets count (_ ∷ []) small long = absurd (omega arith)
read-are_triplets count (_ ∷ _ ∷ []) small long = absurd (omega arith)
read-are_triplets count (first ∷ a ∷ b ∷ rest) small long =
    let behind = All-tail IsByte b rest (All-tail IsByte a (b ∷ rest) (All-tail IsByte first (a ∷ b ∷ rest) small)) in
    (read-is_triplet first a b (All-head IsByte first (a ∷ b ∷ rest) small), read-are_triplets (count - 1) rest behind (omega arith))
