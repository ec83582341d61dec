-- The triplets of further bytes, two by two.
use Rattle.std.proofs.Common.{◌≡◌, ℕ, zero, suc, ◌*◌, ◌/◌, List, [], ◌∷◌, ◌++◌, length, map, take, drop, get_or, refl, ap, sym, ◌∙◌, arith, append_assoc}
use Rattle.std.proofs.Math.Seq.{take-length}
use Rattle.std.specs.Simd.{first_chunks}
use Rattle.cc_data.specs.declared.triplet.Triplet.{Triplet}
use Rattle.channel_packets.specs.Written.{bytes_written, continuing}

-- the triplet of a pair of bytes
abbrev pub pair_written : List ℕ → Triplet
pair_written pair = continuing (get_or pair 0 0) (get_or pair 1 0)

-- pairs of bytes, and what is left
pub bytes_written-pairs : (bytes : List ℕ) (count : ℕ) → length bytes / 2 ≡ count
    → bytes_written bytes ≡ map pair_written (first_chunks 2 count bytes) ++ bytes_written (drop (count * 2) bytes)
bytes_written-pairs [] zero is = refl
bytes_written-pairs [] (suc count) is = absurd (omega arith)
bytes_written-pairs (first ∷ []) zero is = refl
bytes_written-pairs (first ∷ []) (suc count) is = absurd (omega arith)
bytes_written-pairs (first ∷ second ∷ bytes) zero is = absurd (omega arith)
bytes_written-pairs (first ∷ second ∷ bytes) (suc count) is =
    let twice : suc (suc (count * 2)) ≡ suc count * 2 = omega arith in
    ap (λ triplets. continuing first second ∷ triplets) (bytes_written-pairs bytes count (omega arith))
    ∙ ap (λ n. continuing first second ∷ (map pair_written (first_chunks 2 count bytes) ++ bytes_written (drop n (first ∷ second ∷ bytes)))) twice

-- a single byte, and none
pub bytes_written-one : (bytes : List ℕ) → length bytes ≡ 1 → bytes_written bytes ≡ continuing (get_or bytes 0 0) 0 ∷ []
bytes_written-one [] is = absurd (omega arith)
bytes_written-one (byte ∷ []) is = refl
bytes_written-one (byte ∷ other ∷ bytes) is = absurd (omega arith)

pub bytes_written-none : (bytes : List ℕ) → length bytes ≡ 0 → bytes_written bytes ≡ []
bytes_written-none [] is = refl
bytes_written-none (byte ∷ bytes) is = absurd (omega arith)

-- all pairs, and what is left after them
pub written-ended : (old items : List Triplet) (bytes last : List ℕ) (pairs : List (List ℕ)) (k : ℕ)
    → items ≡ old ++ map pair_written (take k pairs) → k ≡ length pairs
    → pairs ≡ first_chunks 2 (length bytes / 2) bytes → last ≡ drop (length bytes / 2 * 2) bytes
    → items ++ bytes_written last ≡ old ++ bytes_written bytes
written-ended old items bytes last pairs k are all pairs_are last_is =
    let whole : take k pairs ≡ pairs = ap (λ n. take n pairs) all ∙ take-length pairs in
    ap (λ ts. ts ++ bytes_written last) (are ∙ ap (λ ps. old ++ map pair_written ps) (whole ∙ pairs_are))
    ∙ append_assoc old _ (bytes_written last)
    ∙ ap (λ bs. old ++ (map pair_written (first_chunks 2 (length bytes / 2) bytes) ++ bytes_written bs)) last_is
    ∙ ap (λ ts. old ++ ts) (sym (bytes_written-pairs bytes (length bytes / 2) refl))
