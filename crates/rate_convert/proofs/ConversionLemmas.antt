-- What one frame more becomes follows what the frames before it become.
use Rattle.std.proofs.Common.{◌≡◌, ℕ, zero, suc, ◌+◌, ◌*◌, List, [], ◌∷◌, ◌++◌, append-nil, append_assoc, length, take, refl, ap, ◌∙◌, arith}
use Rattle.std.specs.List.{flat_map}
use Rattle.std.proofs.lemmas.List.Concat.{flat_map-append}
use Rattle.cdp_packets.specs.Packets.{Frame}
use Rattle.rate_convert.specs.Conversion.{conversion, conversion_bytes, conversion_from, first_half_of, second_half_of}
use Rattle.words_files.specs.CarriedWords.{carried_words}
use Rattle.rate_convert.specs.Halvers.{halves_words}

more_from : (number : ℕ) (frames : List Frame) (last : Frame)
    → conversion_from number (frames ++ last ∷ []) ≡ (conversion_from number frames ++ first_half_of (number + length frames) last ∷ []) ++ second_half_of (number + length frames) last ∷ []
more_from number [] last =
    let e : number ≡ number + 0 = omega arith in ap (λ n. first_half_of n last ∷ second_half_of n last ∷ []) e
more_from number (frame ∷ frames) last =
    let e : suc number + length frames ≡ number + suc (length frames) = omega arith in
    ap (λ (l : List Frame). first_half_of number frame ∷ second_half_of number frame ∷ l) (more_from (suc number) frames last)
    ∙ ap (λ n. first_half_of number frame ∷ second_half_of number frame ∷ ((conversion_from (suc number) frames ++ first_half_of n last ∷ []) ++ second_half_of n last ∷ [])) e

pub conversion_more : (frames : List Frame) (last : Frame)
    → conversion (frames ++ last ∷ []) ≡ (conversion frames ++ first_half_of (length frames) last ∷ []) ++ second_half_of (length frames) last ∷ []
conversion_more frames last =
    let e : 0 + length frames ≡ length frames = omega arith in
    more_from 0 frames last ∙ ap (λ n. (conversion frames ++ first_half_of n last ∷ []) ++ second_half_of n last ∷ []) e

-- and so stand their words
pub bytes_more : (frames : List Frame) (last : Frame) → conversion_bytes (frames ++ last ∷ []) ≡ conversion_bytes frames ++ halves_words (length frames) last
bytes_more frames last =
    let one = first_half_of (length frames) last in
    let two = second_half_of (length frames) last in
    ap (flat_map carried_words) (conversion_more frames last ∙ append_assoc (conversion frames) (one ∷ []) (two ∷ []))
    ∙ flat_map-append carried_words (conversion frames) (one ∷ two ∷ [])
    ∙ ap (λ (l : List ℕ). conversion_bytes frames ++ (carried_words one ++ l)) (append-nil (carried_words two))

-- the first frames become the first of what all become, twice as many
take_from : (number k j : ℕ) (frames : List Frame) → j ≡ 2 * k → take j (conversion_from number frames) ≡ conversion_from number (take k frames)
take_from number zero zero frames is = refl
take_from number zero (suc j) frames is = absurd (omega arith)
take_from number (suc k) zero frames is = absurd (omega arith)
take_from number (suc k) (suc zero) frames is = absurd (omega arith)
take_from number (suc k) (suc (suc j)) [] is = refl
take_from number (suc k) (suc (suc j)) (frame ∷ frames) is =
    ap (λ (l : List Frame). first_half_of number frame ∷ second_half_of number frame ∷ l) (take_from (suc number) k j frames (omega arith))

pub take_conversion : (k : ℕ) (frames : List Frame) → take (2 * k) (conversion frames) ≡ conversion (take k frames)
take_conversion k frames = take_from 0 k (2 * k) frames refl
