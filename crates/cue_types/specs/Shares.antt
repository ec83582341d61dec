-- Believed: the program's answer stands on these definitions.
-- The shares of a cue list: which bytes of each frame's service blocks a DTVCC service may use (CTA-708-E, 4.4, 6.2).
use Rattle.std.specs.Prelude.{ℕ, ◌≢◌, ◌+◌, ◌≤◌, List, sum_by, All, AllPairs}
use Rattle.cc_base.specs.declared.rate.Rate.{Rate}
use Rattle.cc_base.specs.declared.rate.Rate.TheVariants as rate
use Rattle.cue_types.specs.declared.list.Share.{Share}

-- a service's share: services 1 to 6, 8 to 31 bytes
pub record IsShare (share : Share) : Type 0 where
  pub service : (1 ≤ share.service) × (share.service ≤ 6)
  pub bytes : (8 ≤ share.bytes) × (share.bytes ≤ 31)

-- the bytes of a frame that service blocks may take, with their headers: 35, and 17 at 59.94 and 60 frames a second
abbrev pub share_room : Rate → ℕ
share_room rate.F5994 = 17
share_room rate.F60 = 17
share_room _ = 35

-- the bytes that shares take, each with the header of its block
abbrev pub shares_taken : List Share → ℕ
shares_taken shares = sum_by (λ share. share.bytes + 1) shares

-- the shares of a list of a rate: each service once, and all together within the room of a frame
pub record AreShares (rate : Rate) (shares : List Share) : Type 0 where
  pub each : All IsShare shares
  pub once : AllPairs (λ a b. a.service ≢ b.service) shares
  pub fits : shares_taken shares ≤ share_room rate
