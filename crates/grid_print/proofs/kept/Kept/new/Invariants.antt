use Rattle.std.proofs.Common.{◌≡◌, ℕ, None, vec_len}
use Rattle.grid_print.specs.Keeping.{windows_seen}
use Rattle.grid_print.proofs.kept.Kept.new.Given as goal

-- none of the windows so far is shown
abbrev pub invariant-loop-id : goal.invariant-loop-id
invariant-loop-id l = record {
  none : (id : ℕ) → windows_seen l.windows.items id ≡ None;
  count : vec_len l.windows ≡ l._id;
}
