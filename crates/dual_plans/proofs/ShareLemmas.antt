-- Lists without shares.
use Rattle.std.proofs.Common.{◌≡◌, inl, inr, ℕ, ◌<◌, ◌≤◌, None, arith}
use Rattle.std.proofs.lemmas.Bool.{cases_lt}
use Rattle.cue_lists.specs.Listing.{IsFormed, Listing, share_of}
use Rattle.cue_lists.specs.Rules.{IsRuled}
use Rattle.frame_carrier.proofs.ServicesLemmas.{unshared}

-- a list has no share where none of the services from 1 to 6 has one
pub none_shared : (list : Listing) → IsFormed list → IsRuled list → ((s : ℕ) → 1 ≤ s → s < 7 → share_of list s ≡ None) → (s : ℕ) → share_of list s ≡ None
none_shared list formed ruled all s =
    elim (cases_lt s 1) [
      | inl low ↦ unshared list formed ruled s (λ least most. omega (arith, low, least))
      | inr some ↦ elim (cases_lt s 7) [
        | inl below ↦ all s some below
        | inr far ↦ unshared list formed ruled s (λ least most. omega (arith, far, most))
      ]
    ]
