use Rattle.std.proofs.Common.{◌≡◌, ℕ, ◌<◌, ◌≤◌, None}
use Rattle.cue_lists.specs.Listing.{share_of}
use Rattle.dual_plans.proofs.other_list.has_share.Given as goal

-- no service so far has a share
abbrev pub invariant-loop-service : goal.invariant-loop-service
invariant-loop-service l = (s : ℕ) → 1 ≤ s → s < l.service → share_of l.list s ≡ None
