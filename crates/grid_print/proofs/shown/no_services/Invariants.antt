use Rattle.std.proofs.Common.{◌≡◌, ℕ, None, vec_len}
use Rattle.grid_print.specs.Kept.{seen_at}
use Rattle.grid_print.proofs.shown.no_services.Given as goal

-- no window of the services so far is shown
abbrev pub invariant-loop-place : goal.invariant-loop-place
invariant-loop-place l = record {
  none : (place id : ℕ) → seen_at l.services.items place id ≡ None;
  count : vec_len l.services ≡ l._place;
}
