-- Shares that are counted one by one.
use Rattle.std.proofs.Common.{◌≡◌, ℕ, ◌+◌, ◌<◌, List, length, take, get_or, ap, arith}
use Rattle.std.proofs.lemmas.List.Sums.{sum_by_more}
use Rattle.cue_types.specs.Shares.{shares_taken}
use Rattle.cue_types.specs.declared.list.Share.{Share}

-- one more of them
pub taken_more : (shares : List Share) (i : ℕ) (share : Share) → i < length shares → share ≡ get_or shares i share
    → shares_taken (take (i + 1) shares) ≡ shares_taken (take i shares) + (share.bytes + 1)
taken_more shares i share within is =
    let more = sum_by_more (λ (s : Share). s.bytes + 1) shares i share within in
    let same = ap (λ (s : Share). s.bytes + 1) is in
    omega (arith, more, same)
