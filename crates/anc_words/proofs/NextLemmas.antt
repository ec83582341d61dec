-- The first word of the flag comes next only where no packet is open.
use Rattle.std.proofs.Common.{◌≡◌, ℕ, ◌-◌, ◌%◌, nat_lt, if◌then◌else◌, Bool, true, false, List, [], ◌∷◌, length, Option, None, refl, ap, ◌∙◌}
use Rattle.anc_words.specs.declared.open_packet.Next.TheVariants as next
use Rattle.anc_words.specs.Reading.{Open, is_caption, nothing_open}
use Rattle.anc_words.specs.Readers.{next_of}

-- neither a user word nor the checksum word is the first word of the flag
not_zeros : (test : Bool) (caption : Bool) (more : ℕ) → (if test then next.User caption more else next.Checksum) ≡ next.Zeros → ⊥
not_zeros true caption more is = cc
not_zeros false caption more is = cc

pub next_of-zeros : (words : List ℕ) → next_of words ≡ next.Zeros → words ≡ []
next_of-zeros [] is = refl
next_of-zeros (first ∷ []) is = absurd cc
next_of-zeros (first ∷ second ∷ []) is = absurd cc
next_of-zeros (first ∷ second ∷ third ∷ []) is = absurd cc
next_of-zeros (first ∷ second ∷ third ∷ did ∷ []) is = absurd cc
next_of-zeros (first ∷ second ∷ third ∷ did ∷ sdid ∷ []) is = absurd cc
next_of-zeros (first ∷ second ∷ third ∷ did ∷ sdid ∷ count ∷ user) is =
    absurd (not_zeros (nat_lt (length user) (count % 256)) (is_caption did sdid) (count % 256 - length user - 1) is)

-- then nothing is open
pub nothing_open-is : (front : Open) → front.high ≡ None → next_of front.words ≡ next.Zeros → front ≡ nothing_open
nothing_open-is front high next =
    ap (λ (h : Option ℕ). let o : Open = record { high = h; words = front.words } in o) high
    ∙ ap (λ (ws : List ℕ). let o : Open = record { high = None; words = ws } in o) (next_of-zeros front.words next)
