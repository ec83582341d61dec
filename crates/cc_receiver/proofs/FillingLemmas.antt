-- Fillers at the end of triplets: they are read of their bytes.
use Rattle.std.proofs.Common.{◌≡◌, ℕ, zero, suc, ◌+◌, ◌*◌, ◌/◌, ◌≤◌, List, [], ◌∷◌, length, take, drop, replicate, refl, sym, ap, subst, ◌∙◌, arith}
use Rattle.std.specs.List.{flat_map}
use Rattle.cc_data.specs.Triplets.{filler, triplets_of}
use Rattle.cc_receiver.proofs.FilledLemmas.{read_as}

-- the bytes of fillers
abbrev pub filler_bytes : ℕ → List ℕ
filler_bytes count = flat_map (λ x. x) (replicate count (0xFA ∷ 0x00 ∷ 0x00 ∷ []))

-- the first of them are read as fillers
pub fillers_read : (count size : ℕ) → size ≤ 3 * count → triplets_of (take size (filler_bytes count)) ≡ replicate (size / 3) filler
fillers_read zero size few =
    let none : size ≡ 0 = omega (arith, few) in subst (λ n. triplets_of (take n []) ≡ replicate (n / 3) filler) (sym none) refl
fillers_read (suc count) zero few = refl
fillers_read (suc count) (suc zero) few = refl
fillers_read (suc count) (suc (suc zero)) few = refl
fillers_read (suc count) (suc (suc (suc size))) few =
    let third : suc (suc (suc size)) / 3 ≡ suc (size / 3) = omega arith in
    ap (λ ts. filler ∷ ts) (fillers_read count size (omega (arith, few))) ∙ ap (λ n. replicate n filler) (sym third)

-- three bytes are read, and those after them
pub three_read : (bytes three more : List ℕ) → three ≡ take 3 bytes → more ≡ drop 3 bytes → length more + 3 ≡ length bytes
    → read_as three ∷ triplets_of more ≡ triplets_of bytes
three_read [] three more front back long = absurd (omega (arith, long))
three_read (_ ∷ []) three more front back long = absurd (omega (arith, long))
three_read (_ ∷ _ ∷ []) three more front back long = absurd (omega (arith, long))
three_read (a ∷ b ∷ c ∷ bytes) three more front back long =
    ap (λ t. read_as t ∷ triplets_of more) front ∙ ap (λ m. read_as (a ∷ b ∷ c ∷ []) ∷ triplets_of m) back

-- where no three bytes stand, nothing is read
pub none_read : (bytes : List ℕ) → length bytes + 1 ≤ 3 → triplets_of bytes ≡ []
none_read [] few = refl
none_read (_ ∷ []) few = refl
none_read (_ ∷ _ ∷ []) few = refl
none_read (_ ∷ _ ∷ _ ∷ bytes) few = absurd (omega (arith, few))
