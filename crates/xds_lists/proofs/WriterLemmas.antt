-- The writer of a list.
use Rattle.std.proofs.Common.{◌≡◌, ℕ, ◌<◌, nat_le, List, [], ◌∷◌, length, drop, refl, ap, arith, length-drop}
use Rattle.xds_lists.specs.Writer.{is_due}
use Rattle.xds_packets.specs.Sending.{Listed}

-- whether the next packet is due
pub due_there : (frame from begun : ℕ) (list : List Listed) → begun < length list → ((one : Listed) (rest : List Listed) → drop begun list ≡ one ∷ rest → from ≡ one.from)
    → nat_le from frame ≡ is_due frame (drop begun list)
due_there frame from begun list within is = by_left (drop begun list) refl
  where
    by_left : (left : List Listed) → drop begun list ≡ left → nat_le from frame ≡ is_due frame left
    by_left [] none = let count = length-drop begun list in let empty = ap length none in absurd (omega arith)
    by_left (one ∷ rest) split = ap (λ f. nat_le f frame) (is one rest split)
